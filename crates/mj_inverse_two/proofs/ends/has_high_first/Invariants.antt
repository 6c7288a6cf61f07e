use Rattle.std.proofs.Common.{◌≡◌, ◌<◌, ◌+◌, ◌-◌, ℕ, get_or}
use Rattle.mj_inverse_two.specs.Two.{first_row}
use Rattle.mj_inverse_two.proofs.ends.has_high_first.Given as goal

abbrev pub invariant-loop-i : goal.invariant-loop-i
invariant-loop-i l = (k : ℕ) → k < l.i → get_or l.a (l.cols + k) 0 ≡ first_row l.cols l.q l.b (λ e. get_or l.row (32 + e) 0) (l.cols + k - l.p.first)
