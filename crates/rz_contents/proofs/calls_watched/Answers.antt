use Rattle.rz_contents.proofs.Called as laws
use Rattle.rz_contents.proofs.calls_watched.Goals as goal

pub returns : goal.returns
returns c = laws.calls_watched
