use Rattle.rz_examples.proofs.Rebuilds.{legal_refilled_late}
use Rattle.rz_examples.proofs.menders.refilled_late.Goals as goal

pub returns : goal.returns
returns c = legal_refilled_late
