use Rattle.std.proofs.Common.{length}
use Rattle.mj_inverse.proofs.invert.+forget.Given as goal

abbrev pub decreases-forget : goal.decreases-forget
decreases-forget l = length l.all.now
