use Rattle.std.proofs.Common.{length}
use Rattle.mj_inverse.proofs.invert.+invert.Given as goal

abbrev pub decreases-invert : goal.decreases-invert
decreases-invert l = length l.all.now
