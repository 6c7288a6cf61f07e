use Rattle.rz_node_laws.proofs.ImageCalls as laws
use Rattle.rz_node_laws.proofs.fewer.Goals as goal

pub returns : goal.returns
returns g c = laws.fewer-law g.D.Disk.image
