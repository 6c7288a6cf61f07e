use Rattle.std.proofs.Common.{◌≡◌, ◌<◌, ◌↔◌, ℕ, get_or}
use Rattle.mj_inverse_four.specs.Rows.{HasBins, direction_of, inner, width_of}
use Rattle.mj_inverse_four.specs.Fragments.{given_by}
use Rattle.mj_inverse_four.proofs.compare.compare_all.Given as goal

abbrev pub invariant-loop-n : goal.invariant-loop-n
invariant-loop-n l = (i : ℕ) → i < 4 → (get_or l.rest i 0 ≡ 0 ↔ ((m : ℕ) → m < l.n →
    HasBins l.frame.rows l.frame.cols (given_by l.frame.rows l.parts l.strides l.group) (direction_of l.frame.rows l.angles) (inner l.grid (width_of l.frame.cols l.frame.reach) l.frame.reach i) i m))
