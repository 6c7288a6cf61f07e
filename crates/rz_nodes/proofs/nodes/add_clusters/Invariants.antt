use Rattle.std.proofs.Common.{◌≡◌, ◌++◌, drop}
use Rattle.rz_events.specs.Volume.{nodes_of}
use Rattle.rz_nodes.proofs.nodes.add_clusters.Given as goal

-- the nodes so far and those to come are all
abbrev pub invariant-loop-cluster : goal.invariant-loop-cluster
invariant-loop-cluster l = l.nodes.items ++ nodes_of (drop l.cluster-index l.clusters) ≡ l.initial.nodes.items ++ nodes_of l.clusters
