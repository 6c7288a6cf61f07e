-- What a bin has of a row.
use Rattle.std.proofs.Common.{◌≡◌, ◌≢◌, ℕ, ◌+◌, ◌<◌, ◌≤◌, sym, ap, ◌∙◌, arith, ◌⊎◌, inl, inr}
use Rattle.std.specs.Prelude.{bit_xor, ◌==◌, if◌then◌else◌}
use Rattle.std.proofs.lemmas.Bool.{cases_eq}
use Rattle.std.proofs.lemmas.Grind.{common_steps}
use lib.Bits.{xor_self, xor_assoc, xor_comm, xor_zero_r}
use Rattle.mj_angles.proofs.Sums.{xor_below-same, row_at, row_misses}
use Rattle.mj_inverse_two.specs.Two.{share}

pub share_at : (cols s b j : ℕ) (f : ℕ → ℕ) → j < cols → s + j ≡ b → share cols s f b ≡ f j
share_at cols s b j f l e = row_at cols s b j f l e

pub share_low : (cols s b : ℕ) (f : ℕ → ℕ) → b < s → share cols s f b ≡ 0
share_low cols s b f l = row_misses cols s b f (λ k h. let ne : s + k ≢ b = omega arith in ne)

pub share_high : (cols s b : ℕ) (f : ℕ → ℕ) → s + cols ≤ b → share cols s f b ≡ 0
share_high cols s b f l = row_misses cols s b f (λ k h. let ne : s + k ≢ b = omega arith in ne)

pub share_same : (cols s b : ℕ) (f g : ℕ → ℕ) → ((k : ℕ) → k < cols → s + k ≡ b → f k ≡ g k) → share cols s f b ≡ share cols s g b
share_same cols s b f g same = xor_below-same cols _ _ (λ k m. by (s + k) (f k) (g k) (same k m) (cases_eq (s + k) b))
  where
    by : (t x y : ℕ) → (t ≡ b → x ≡ y) → (t ≡ b) ⊎ (t ≢ b) → (if t == b then x else 0) ≡ (if t == b then y else 0)
    by t x y h (inl e) = ap (λ z. if t == b then z else 0) (h e)
    by t x y h (inr ne) = grind (arith, common_steps)

-- one of three words of which the first is the exclusive or of the others
pub left_of : (x y z : ℕ) → x ≡ bit_xor y z → y ≡ bit_xor x z
left_of x y z e = sym (ap (λ w. bit_xor w z) e ∙ xor_assoc y z z ∙ ap (bit_xor y) (xor_self z) ∙ xor_zero_r y)

pub right_of : (x y z : ℕ) → x ≡ bit_xor y z → z ≡ bit_xor x y
right_of x y z e = left_of x z y (e ∙ xor_comm y z)
