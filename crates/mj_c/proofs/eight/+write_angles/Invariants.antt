use Rattle.std.proofs.Common.{length}
use Rattle.mj_c.proofs.eight.+write_angles.Given as goal

abbrev pub decreases-write_angles : goal.decreases-write_angles
decreases-write_angles l = length l.positions.now
