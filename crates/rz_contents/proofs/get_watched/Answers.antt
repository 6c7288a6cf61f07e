use Rattle.rz_contents.proofs.Watched as laws
use Rattle.rz_contents.proofs.get_watched.Goals as goal

pub returns : goal.returns
returns c = laws.get_watched
