use Rattle.std.proofs.Common.{◌≡◌, ◌++◌, map, take}
use Rattle.rz_export.specs.Nodes.{new_node}
use Rattle.rz_export.proofs.nodes.add_nodes.Given as goal

abbrev pub invariant-loop-spec : goal.invariant-loop-spec
invariant-loop-spec l = l.kept.items ≡ l.initial.kept.items ++ map new_node (take l.spec-index l.nodes)
