use Rattle.std.proofs.Common.{◌≡◌, ◌∷◌, ◌++◌, map, take}
use Rattle.rz_show.specs.Outcomes.{why_letter}
use Rattle.rz_show.proofs.outcomes.push_why.Given as goal

abbrev pub invariant-loop-outcome : goal.invariant-loop-outcome
invariant-loop-outcome l = l.out.items ≡ l.fn.out.items ++ 32 ∷ map why_letter (take l.outcome-index l.outcome-items)
