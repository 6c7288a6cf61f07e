use Rattle.rz_node_laws.proofs.ImageCalls as laws
use Rattle.rz_node_laws.proofs.fresh.Goals as goal

pub returns : goal.returns
returns g c = laws.fresh-law g.D.Disk.image
