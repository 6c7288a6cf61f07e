use Rattle.rz_node_laws.proofs.ImageCalls as laws
use Rattle.rz_node_laws.proofs.crashed.Goals as goal

pub returns : goal.returns
returns g c = laws.crash-law g.D.Disk.text g.D.Disk.image
