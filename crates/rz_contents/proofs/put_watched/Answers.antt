use Rattle.rz_contents.proofs.Watched as laws
use Rattle.rz_contents.proofs.put_watched.Goals as goal

pub returns : goal.returns
returns c = laws.put_watched
