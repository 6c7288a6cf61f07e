use Rattle.rz_examples.proofs.Rooms.{legal_full}
use Rattle.rz_examples.proofs.troubled.full.Goals as goal

pub returns : goal.returns
returns c = legal_full
