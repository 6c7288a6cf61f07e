use Rattle.std.proofs.Common.{◌≡◌, ◌++◌, map, take}
use Rattle.rz_events.specs.declared.files.NodeSpec.{NodeSpec}
use Rattle.rz_chronicle.proofs.start.add_numbers.Given as goal

abbrev pub invariant-loop-node : goal.invariant-loop-node
invariant-loop-node l = l.numbers.items ≡ l.initial.numbers.items ++ map (λ (n : NodeSpec). n.sid) (take l.node-index l.nodes)
