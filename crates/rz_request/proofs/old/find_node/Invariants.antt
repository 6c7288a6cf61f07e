use Rattle.std.proofs.Common.{◌≡◌, ◌==◌, drop}
use Rattle.std.specs.List.{find}
use Rattle.rz_events.specs.Volume.{nodes_of}
use Rattle.rz_request.proofs.old.find_node.Given as goal

abbrev pub invariant-loop-cluster : goal.invariant-loop-cluster
invariant-loop-cluster l = find (λ n. n.sid == l.sid) (nodes_of l.cluster-items) ≡ find (λ n. n.sid == l.sid) (nodes_of (drop l.cluster-index l.cluster-items))
