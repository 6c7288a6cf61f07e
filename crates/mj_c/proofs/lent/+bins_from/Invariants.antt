use Rattle.std.proofs.Common.{length}
use Rattle.mj_c.proofs.lent.+bins_from.Given as goal

abbrev pub decreases-bins_from : goal.decreases-bins_from
decreases-bins_from l = length l.positions.now
