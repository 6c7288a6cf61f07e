use Rattle.std.proofs.Common.{◌≡◌, ◌++◌, map, drop}
use Rattle.rz_events.specs.declared.files.NodeSpec.{NodeSpec}
use Rattle.rz_events.specs.Volume.{nodes_of}
use Rattle.rz_chronicle.proofs.start.numbers.Given as goal

-- the numbers so far and those to come are all
abbrev pub invariant-loop-cluster : goal.invariant-loop-cluster
invariant-loop-cluster l = l.numbers.items ++ map (λ (n : NodeSpec). n.sid) (nodes_of (drop l.cluster-index l.clusters)) ≡ map (λ (n : NodeSpec). n.sid) (nodes_of l.clusters)
