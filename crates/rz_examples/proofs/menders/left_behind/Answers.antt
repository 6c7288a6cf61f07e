use Rattle.rz_examples.proofs.Rebuilds.{legal_left_behind}
use Rattle.rz_examples.proofs.menders.left_behind.Goals as goal

pub returns : goal.returns
returns c = legal_left_behind
