use Rattle.std.proofs.Common.{length}
use Rattle.mj_inverse.proofs.invert.+give_rows.Given as goal

abbrev pub decreases-give_rows : goal.decreases-give_rows
decreases-give_rows l = length l.all.now
