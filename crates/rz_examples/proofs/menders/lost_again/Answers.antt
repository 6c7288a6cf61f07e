use Rattle.rz_examples.proofs.Rebuilds.{legal_lost_again}
use Rattle.rz_examples.proofs.menders.lost_again.Goals as goal

pub returns : goal.returns
returns c = legal_lost_again
