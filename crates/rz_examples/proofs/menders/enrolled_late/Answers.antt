use Rattle.rz_examples.proofs.Rebuilds.{legal_enrolled_late}
use Rattle.rz_examples.proofs.menders.enrolled_late.Goals as goal

pub returns : goal.returns
returns c = legal_enrolled_late
