use Rattle.rz_contents.proofs.Mending as laws
use Rattle.rz_contents.proofs.rebuild_whole.Goals as goal

pub returns : goal.returns
returns c = λ v. laws.rebuild_whole v (c.rebuilt.ensures v) (c.complete.ensures v)
