use Rattle.std.proofs.Common.{length}
use Rattle.mj_inverse.proofs.invert.+divide_each.Given as goal

abbrev pub decreases-divide_each : goal.decreases-divide_each
decreases-divide_each l = length l.rest.now
