use Rattle.std.proofs.Common.{length}
use Rattle.rz_names.proofs.order.+compare.Given as goal

-- the names that are left
abbrev pub decreases-compare : goal.decreases-compare
decreases-compare l = length l.a.now
