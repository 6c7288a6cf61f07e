use Rattle.rz_examples.proofs.Locks.{legal_viewed}
use Rattle.rz_examples.proofs.locked.viewed.Goals as goal

pub returns : goal.returns
returns c = legal_viewed
