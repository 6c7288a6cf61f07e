use Rattle.std.proofs.Common.{◌≡◌, ◌++◌, map, drop}
use Rattle.rz_events.specs.Volume.{nodes_of}
use Rattle.rz_export.specs.Nodes.{new_node}
use Rattle.rz_export.proofs.nodes.kept_nodes.Given as goal

-- the nodes so far and those to come are all
abbrev pub invariant-loop-cluster : goal.invariant-loop-cluster
invariant-loop-cluster l = l.kept.items ++ map new_node (nodes_of (drop l.cluster-index l.clusters)) ≡ map new_node (nodes_of l.clusters)
