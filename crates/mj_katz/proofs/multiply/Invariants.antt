use Rattle.std.proofs.Common.{◌≡◌, ◌<◌, ◌/◌, ◌%◌, ℕ, get_or}
use Rattle.mj_angles.specs.Projection.{word_at}
use Rattle.mj_katz.specs.Factor.{factor}
use Rattle.mj_katz.proofs.multiply.Given as goal

abbrev pub invariant-loop-n : goal.invariant-loop-n
invariant-loop-n l = (i : ℕ) → i < l.n → get_or l.out i 0 ≡ factor l.fn.p (word_at l.words l.cols) (i / l.cols) (i % l.cols)
