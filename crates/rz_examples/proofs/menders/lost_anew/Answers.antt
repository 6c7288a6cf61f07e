use Rattle.rz_examples.proofs.Rebuilds.{legal_lost_anew}
use Rattle.rz_examples.proofs.menders.lost_anew.Goals as goal

pub returns : goal.returns
returns c = legal_lost_anew
