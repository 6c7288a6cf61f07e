use Rattle.std.proofs.Common.{◌≡◌, drop}
use Rattle.rz_export_model.specs.Export.{names_node}
use Rattle.rz_store_turns.proofs.missing.names_node.Given as goal

-- the places to come decide
abbrev pub invariant-loop-i : goal.invariant-loop-i
invariant-loop-i l = names_node l.node l.mask l.i (drop l.i l.places) ≡ names_node l.node l.mask 0 l.places
