use Rattle.std.proofs.Common.{length}
use Rattle.rz_names.proofs.path.+are_good_names.Given as goal

-- the names that are left
abbrev pub decreases-are_good_names : goal.decreases-are_good_names
decreases-are_good_names l = length l.names.now
