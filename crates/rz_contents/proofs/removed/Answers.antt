use Rattle.rz_contents.proofs.Removing as laws
use Rattle.rz_contents.proofs.removed.Goals as goal

pub returns : goal.returns
returns c = laws.removed
