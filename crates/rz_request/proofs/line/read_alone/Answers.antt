use Rattle.rz_request.proofs.Many.{alone_many}
use Rattle.rz_request.proofs.line.read_alone.Goals as goal

pub returns-in-None : goal.returns-in-None
returns-in-None c = alone_many _ _ c.in-None.ensures
