use Rattle.std.proofs.Common.{◌≡◌, ◌<◌, ℕ, get_or}
use Rattle.mj_inverse_four.specs.Rows.{line_sum}
use Rattle.mj_inverse_four.proofs.peel.sum_of_line.Given as goal

abbrev pub invariant-loop-j : goal.invariant-loop-j
invariant-loop-j l = (i : ℕ) → i < 4 → get_or l.sum i 0 ≡ line_sum l.grid i l.j l.at l.step
