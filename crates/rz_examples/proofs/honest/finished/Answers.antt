use Rattle.rz_examples.proofs.Mending.{legal_finished}
use Rattle.rz_examples.proofs.honest.finished.Goals as goal

pub returns : goal.returns
returns c = legal_finished
