use Rattle.std.proofs.Common.{◌≡◌, ◌++◌, map, take, drop}
use Rattle.rz_export.specs.Nodes.{recounted}
use Rattle.rz_export.proofs.nodes.recount.Given as goal

abbrev pub invariant-loop-kept : goal.invariant-loop-kept
invariant-loop-kept l = l.nodes ≡ map (recounted l.places l.before l.after) (take l.kept-index l.initial.nodes) ++ drop l.kept-index l.initial.nodes
