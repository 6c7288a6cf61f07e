use Rattle.std.proofs.Common.{◌≡◌, ◌<◌, ◌+◌, ◌-◌, ℕ, get_or}
use Rattle.mj_inverse_two.proofs.ends.has_high_second.Given as goal

abbrev pub invariant-loop-i : goal.invariant-loop-i
invariant-loop-i l = (k : ℕ) → k < l.i → get_or l.b (l.cols + k) 0 ≡ get_or l.row (32 + (l.cols + k - l.q.second)) 0
