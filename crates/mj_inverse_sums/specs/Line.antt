-- The words on a line, eight blocks side by side.
use Rattle.std.specs.Prelude.{ℕ, ◌+◌, ◌*◌, List, slice_index}
use Rattle.mj_angles.specs.Xor.{xor_below}

-- the exclusive or of the words of block i in n places, of which the first is `at`, and each of the others `step` places further
abbrev pub line_sum : List ℕ → ℕ → ℕ → ℕ → ℕ → ℕ
line_sum g i n at step = xor_below n (λ j. slice_index g (8 * (at + j * step) + i))
