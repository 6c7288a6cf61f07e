-- What holds of each of four.
use Rattle.std.proofs.Common.{ℕ, zero, suc, ◌<◌, arith}

pub of_four : (P : ℕ → Type 0) → P 0 → P 1 → P 2 → P 3 → (i : ℕ) → i < 4 → P i
of_four P a b c d zero h = a
of_four P a b c d (suc zero) h = b
of_four P a b c d (suc (suc zero)) h = c
of_four P a b c d (suc (suc (suc zero))) h = d
of_four P a b c d (suc (suc (suc (suc i)))) h = absurd (omega arith)
