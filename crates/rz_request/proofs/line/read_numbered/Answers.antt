use Rattle.rz_request.proofs.Many.{number_many}
use Rattle.rz_request.proofs.line.read_numbered.Goals as goal

pub returns-in-None-clause-value : goal.returns-in-None-clause-value
returns-in-None-clause-value c = number_many _ _ _ c.in-None.ensures
