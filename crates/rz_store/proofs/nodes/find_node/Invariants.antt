use Rattle.std.proofs.Common.{◌≡◌, ◌==◌, drop}
use Rattle.std.specs.List.{find}
use Rattle.rz_events.specs.Volume.{nodes_of}
use Rattle.rz_store.proofs.nodes.find_node.Given as goal

abbrev pub invariant-loop-cluster : goal.invariant-loop-cluster
invariant-loop-cluster l = find (λ n. n.sid == l.number) (nodes_of l.cluster-items) ≡ find (λ n. n.sid == l.number) (nodes_of (drop l.cluster-index l.cluster-items))
