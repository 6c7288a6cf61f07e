use Rattle.std.proofs.Common.{◌≡◌, ◌<◌, ◌≤◌, ◌+◌, ◌*◌, ◌↔◌, ℕ, get_or}
use Rattle.mj_angles.specs.Projection.{bin}
use Rattle.mj_inverse.specs.Padded.{inner, width_of}
use Rattle.mj_inverse.proofs.compare.compare_run.Given as goal

abbrev pub invariant-loop-b : goal.invariant-loop-b
invariant-loop-b l =
    (i : ℕ) → i < 8 → (get_or l.sum i 0 ≡ 0 ↔ ((get_or l.fn.rest i 0 ≡ 0) × ((b : ℕ) → l.fn.from ≤ b → b < l.b →
    get_or l.words (8 * (l.s.from + b) + i) 0 ≡ bin (inner l.grid (width_of l.frame.cols l.frame.reach) l.frame.reach i) l.frame.rows l.frame.cols l.s.direction b)))
