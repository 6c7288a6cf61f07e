use Rattle.std.proofs.Common.{◌≡◌, ◌-◌, take, drop}
use Rattle.rz_export_model.specs.Refusals.{walk, walk_from}
use Rattle.rz_tree.proofs.tree.Tree.walk.Given as goal

-- the walk goes on before the name that is looked at
abbrev pub invariant-loop-count : goal.invariant-loop-count
invariant-loop-count l = walk l.self l.path ≡ walk_from l.self (take (l.count - 1) l.path) (drop (l.count - 1) l.path)
