-- Exclusive or over an index.
use Rattle.std.specs.Prelude.{ℕ, zero, suc, bit_xor}

-- the exclusive or of f 0, f 1, .., f (n - 1)
abbrev pub xor_below : ℕ → (ℕ → ℕ) → ℕ
xor_below zero f = 0
xor_below (suc n) f = bit_xor (xor_below n f) (f n)
