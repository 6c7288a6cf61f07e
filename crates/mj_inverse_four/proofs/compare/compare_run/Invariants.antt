use Rattle.std.proofs.Common.{◌≡◌, ◌<◌, ◌≤◌, ◌+◌, ◌*◌, ◌↔◌, ℕ, get_or}
use Rattle.mj_angles.specs.Projection.{bin}
use Rattle.mj_inverse_four.specs.Rows.{inner, width_of}
use Rattle.mj_inverse_four.specs.Starts.{start_of}
use Rattle.mj_inverse_four.proofs.compare.compare_run.Given as goal

abbrev pub invariant-loop-h : goal.invariant-loop-h
invariant-loop-h l =
    (i : ℕ) → i < 4 → (get_or l.sum i 0 ≡ 0 ↔ ((get_or l.fn.rest i 0 ≡ 0) × ((b : ℕ) → l.fn.from ≤ b → b < l.fn.from + 2 * l.h →
    get_or l.words (start_of l.starts i + b) 0 ≡ bin (inner l.grid (width_of l.frame.cols l.frame.reach) l.frame.reach i) l.frame.rows l.frame.cols l.fn.p.angle b)))
