use Rattle.rz_contents.proofs.Mending as laws
use Rattle.rz_contents.proofs.rebuild_still.Goals as goal

pub returns : goal.returns
returns c = laws.rebuild_still
