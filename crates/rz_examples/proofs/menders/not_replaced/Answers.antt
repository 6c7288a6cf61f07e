use Rattle.rz_examples.proofs.Rebuilds.{legal_not_replaced}
use Rattle.rz_examples.proofs.menders.not_replaced.Goals as goal

pub returns : goal.returns
returns c = legal_not_replaced
