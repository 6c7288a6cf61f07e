use Rattle.std.proofs.Common.{◌≡◌, ◌<◌, ℕ, get_or}
use Rattle.std.specs.Prelude.{bit_xor}
use Rattle.mj_inverse_two.proofs.second.add_words.Given as goal

abbrev pub invariant-loop-n : goal.invariant-loop-n
invariant-loop-n l = (k : ℕ) → k < l.n → get_or l.place k 0 ≡ bit_xor (get_or l.a k 0) (get_or l.b k 0)
