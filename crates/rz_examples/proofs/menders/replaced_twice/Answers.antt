use Rattle.rz_examples.proofs.Rebuilds.{legal_replaced_twice}
use Rattle.rz_examples.proofs.menders.replaced_twice.Goals as goal

pub returns : goal.returns
returns c = legal_replaced_twice
