-- One bit of a word.
use Rattle.std.proofs.Common.{◌≡◌, ℕ, ◌-◌, ◌*◌, ◌%◌, ◌^◌, ◌<◌, ◌≤◌, ◌≢◌, Bool, true, false, cond, sym, ap, ◌∙◌, refl, arith, w64, bit_and, bit_or, eqb-true, inl, inr}
use Rattle.std.specs.Prelude.{◌==◌}
use Rattle.std.specs.Int.{bit_at, bit_not}
use Rattle.std.specs.Int.Count.{count_trailing_zeros}
use Rattle.std.proofs.lemmas.Bool.Decides.{nat_tests}
use Rattle.std.proofs.lemmas.Bool.{cases_lt}
use Rattle.std.proofs.lemmas.Nat.{and_le_l}
use Rattle.std.proofs.lemmas.Nat.Bits.{bit_at-zero, bit_at_set_same, bit_at_set_other, bit_at_clear_same, bit_at_clear_other, bit_at_and, bit_at-lt, bit_at_mask_inside, bit_at_mask_below, bit_at-trailing_zeros, ones_shl}
use Rattle.rz_events.specs.Masks.{has_bit}
use Rattle.rz_blocks.specs.Rows.{IsClear}

pub no-bit : (b : ℕ) → has_bit 0 b ≡ false
no-bit b = ap (λ n. n == 1) (bit_at-zero b)

pub apart : (a b : ℕ) → (a == b) ≡ false → a ≢ b
apart a b h = grind (arith, nat_tests)

-- `word | 1 << place`
pub set-bit : (word place b : ℕ) → place < 64 → has_bit (bit_or word (1 * 2 ^ place % 2 ^ 64)) b ≡ cond (b == place) true (has_bit word b)
set-bit word place b h = go (b == place) refl
  where
    go : (t : Bool) → (b == place) ≡ t → has_bit (bit_or word (1 * 2 ^ place % 2 ^ 64)) b ≡ cond t true (has_bit word b)
    go true same = ap (has_bit (bit_or word (1 * 2 ^ place % 2 ^ 64))) (eqb-true b place same) ∙ ap (λ n. n == 1) (bit_at_set_same w64 word place h)
    go false other = ap (λ n. n == 1) (bit_at_set_other w64 word place h b (apart b place other))

-- `word & !(1 << place)`
pub clear-bit : (word place b : ℕ) → place < 64 → b < 64 → has_bit (bit_and word (bit_not w64 (1 * 2 ^ place % 2 ^ 64))) b ≡ cond (b == place) false (has_bit word b)
clear-bit word place b h within = go (b == place) refl
  where
    go : (t : Bool) → (b == place) ≡ t → has_bit (bit_and word (bit_not w64 (1 * 2 ^ place % 2 ^ 64))) b ≡ cond t false (has_bit word b)
    go true same = ap (has_bit (bit_and word (bit_not w64 (1 * 2 ^ place % 2 ^ 64)))) (eqb-true b place same) ∙ ap (λ n. n == 1) (bit_at_clear_same w64 word place h)
    go false other = ap (λ n. n == 1) (bit_at_clear_other w64 word place h b within (apart b place other))

-- `word & (u64::MAX << from)`
abbrev pub above_of : ℕ → ℕ → ℕ
above_of word from = bit_and word ((2 ^ 64 - 1) * 2 ^ from % 2 ^ 64)

in-above : (word from b : ℕ) → from < 64 → from ≤ b → b < 64 → bit_at (above_of word from) b ≡ bit_at word b
in-above word from b h low high =
    ap (λ m. bit_at (bit_and word m) b) (ones_shl 64 from (omega arith)) ∙ omega (arith, bit_at_and word (2 ^ 64 - 2 ^ from) b, bit_at_mask_inside from 64 b low high, bit_at-lt word b)

in-below : (word from b : ℕ) → from < 64 → b < from → bit_at (above_of word from) b ≡ 0
in-below word from b h low =
    ap (λ m. bit_at (bit_and word m) b) (ones_shl 64 from (omega arith)) ∙ omega (arith, bit_at_and word (2 ^ 64 - 2 ^ from) b, bit_at_mask_below from 64 b low)

pub none-above : (word from : ℕ) → from < 64 → above_of word from ≡ 0 → IsClear word from 64
none-above word from h none b low high = ap (λ n. n == 1) (sym (in-above word from b h low high) ∙ ap (λ n. bit_at n b) none ∙ bit_at-zero b)

pub least-above : (word from : ℕ) → word < 2 ^ 64 → from < 64 → (above_of word from ≡ 0 → ⊥)
    → (from ≤ count_trailing_zeros 64 (above_of word from)) × (count_trailing_zeros 64 (above_of word from) < 64)
    × (has_bit word (count_trailing_zeros 64 (above_of word from)) ≡ true) × IsClear word from (count_trailing_zeros 64 (above_of word from))
least-above word from small h some = (
  low,
  first.0,
  ap (λ n. n == 1) (sym (in-above word from place h low first.0) ∙ first.1),
  λ b from_b below. ap (λ n. n == 1) (sym (in-above word from b h from_b (omega (arith, below, first.0))) ∙ first.2 b below),
)
  where
    place : ℕ
    place = count_trailing_zeros 64 (above_of word from)

    first : (place < 64) × (bit_at (above_of word from) place ≡ 1) × ((i : ℕ) → i < place → bit_at (above_of word from) i ≡ 0)
    first = bit_at-trailing_zeros w64 (above_of word from) (omega (arith, some)) (omega (arith, small, and_le_l word ((2 ^ 64 - 1) * 2 ^ from % 2 ^ 64)))

    low : from ≤ place
    low = elim (cases_lt place from) [ inl below ↦ absurd (omega (arith, in-below word from place h below, first.1)) | inr above ↦ above ]
