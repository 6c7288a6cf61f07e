use Rattle.std.proofs.Common.{length}
use Rattle.rz_export.proofs.homes.+any_home.Given as goal

-- the clusters that are left
abbrev pub decreases-any_home : goal.decreases-any_home
decreases-any_home l = length l.clusters.now
