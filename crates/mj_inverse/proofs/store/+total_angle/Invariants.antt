use Rattle.std.proofs.Common.{length}
use Rattle.mj_inverse.proofs.store.+total_angle.Given as goal

abbrev pub decreases-total_angle : goal.decreases-total_angle
decreases-total_angle l = length l.all.now
