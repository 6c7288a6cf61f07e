use Rattle.rz_request.proofs.Many.{disks_many}
use Rattle.rz_request.proofs.line.read_disks.Goals as goal

pub returns-in-None : goal.returns-in-None
returns-in-None c = disks_many _ c.in-None.ensures
