use Rattle.std.proofs.Common.{◌≡◌, ◌∷◌, ◌++◌, codes, length, take}
use Rattle.std.specs.Fmt.{decimal}
use Rattle.rz_show.specs.Words.{spaced}
use Rattle.rz_show.proofs.ends.push_names.Given as goal

abbrev pub invariant-loop-name : goal.invariant-loop-name
invariant-loop-name l = l.out.items ≡ l.fn.out.items ++ spaced (codes "names" ∷ decimal (length l.names) ∷ take l.name-index l.names)
