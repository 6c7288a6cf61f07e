use Rattle.rz_node_laws.proofs.Words as laws
use Rattle.rz_node_laws.proofs.longer.Goals as goal

pub returns : goal.returns
returns g c = laws.longer-law g.D.Disk.image c.permanent.ensures
