use Rattle.std.proofs.Common.{length}
use Rattle.rz_names.proofs.order.+starts_with.Given as goal

-- the names that are left
abbrev pub decreases-starts_with : goal.decreases-starts_with
decreases-starts_with l = length l.front.now
