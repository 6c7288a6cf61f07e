use Rattle.std.proofs.Common.{length}
use Rattle.rz_script.proofs.printing.+push_more_clusters.Given as goal

-- the clusters that are left
abbrev pub decreases-push_more_clusters : goal.decreases-push_more_clusters
decreases-push_more_clusters l = length l.clusters.now
