use Rattle.std.proofs.Common.{◌≡◌, ◌<◌, ◌≤◌, ◌+◌, ◌*◌, ℕ, get_or}
use Rattle.mj_inverse.proofs.ends.end_of_used.Given as goal

abbrev pub invariant-loop-n : goal.invariant-loop-n
invariant-loop-n l = (t j : ℕ) → l.to ≤ t + l.n → t < l.to → j < l.unit → get_or l.words.items (l.unit * t + j) 0 ≡ 0
