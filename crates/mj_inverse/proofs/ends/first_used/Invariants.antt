use Rattle.std.proofs.Common.{◌≡◌, ◌<◌, ◌≤◌, ◌+◌, ◌*◌, ℕ, get_or}
use Rattle.mj_inverse.proofs.ends.first_used.Given as goal

abbrev pub invariant-loop-t : goal.invariant-loop-t
invariant-loop-t l = (t j : ℕ) → l.from ≤ t → t < l.t → j < l.unit → get_or l.words.items (l.unit * t + j) 0 ≡ 0
