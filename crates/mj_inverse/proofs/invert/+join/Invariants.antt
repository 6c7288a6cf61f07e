use Rattle.std.proofs.Common.{length}
use Rattle.mj_inverse.proofs.invert.+join.Given as goal

abbrev pub decreases-join : goal.decreases-join
decreases-join l = length l.rest.now
