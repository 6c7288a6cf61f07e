use Rattle.rz_node_laws.proofs.Words as laws
use Rattle.rz_node_laws.proofs.logged.Goals as goal

pub returns : goal.returns
returns g c = laws.log-law g.D.Disk.image
