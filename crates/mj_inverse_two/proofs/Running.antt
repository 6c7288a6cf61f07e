-- A running exclusive or, word by word.
use Rattle.std.proofs.Common.{◌≡◌, ◌≢◌, ℕ, ◌+◌, ◌-◌, ◌<◌, ◌≤◌, sym, ap, ◌∙◌, arith, ◌⊎◌, inl, inr, List, length, get_or, set, get_or-set_same, get_or-set_other}
use Rattle.std.specs.Prelude.{bit_xor}
use Rattle.std.proofs.lemmas.Bool.{cases_eq}

-- the first n words from place `from` on are written, and the places outside are as they were
pub record IsRun (from step n : ℕ) (a b old row : List ℕ) : Type 0 where
  pub sums : (k : ℕ) → k < n → get_or row (from + k) 0 ≡ bit_xor (bit_xor (get_or a k 0) (get_or b k 0)) (get_or row (from + k - step) 0)
  pub below : (k : ℕ) → k < from → get_or row k 0 ≡ get_or old k 0
  pub above : (k : ℕ) → from + length a ≤ k → get_or row k 0 ≡ get_or old k 0

-- one more word
pub run_more : (from step n place after : ℕ) (a b old row : List ℕ) (v : ℕ) → place ≡ from + n → after ≡ n + 1 → 0 < step → step ≤ from → n < length a → place < length row →
    v ≡ bit_xor (bit_xor (get_or a n 0) (get_or b n 0)) (get_or row (from + n - step) 0) → IsRun from step n a b old row → IsRun from step after a b old (set row place v)
run_more from step n place after a b old row v at next some near within room is run = record {
  sums = λ k h. sums k h (cases_eq k n);
  below = λ k h. get_or-set_other row place k v 0 (let ne : k ≢ place = omega arith in ne) ∙ run.below k h;
  above = λ k h. get_or-set_other row place k v 0 (let ne : k ≢ place = omega arith in ne) ∙ run.above k h;
}
  where
    -- the word before is as it was
    back : (k : ℕ) → k < n + 1 → get_or row (from + k - step) 0 ≡ get_or (set row place v) (from + k - step) 0
    back k h = sym (get_or-set_other row place (from + k - step) v 0 (let ne : from + k - step ≢ place = omega arith in ne))

    sums : (k : ℕ) → k < after → (k ≡ n) ⊎ (k ≢ n) → get_or (set row place v) (from + k) 0 ≡ bit_xor (bit_xor (get_or a k 0) (get_or b k 0)) (get_or (set row place v) (from + k - step) 0)
    sums k h (inl e) =
        ap (λ x. get_or (set row place v) x 0) (let f : from + k ≡ place = omega arith in f)
        ∙ get_or-set_same row place v 0 room
        ∙ is
        ∙ ap (λ x. bit_xor (bit_xor (get_or a x 0) (get_or b x 0)) (get_or row (from + x - step) 0)) (sym e)
        ∙ ap (bit_xor (bit_xor (get_or a k 0) (get_or b k 0))) (back k (omega arith))
    sums k h (inr ne) =
        get_or-set_other row place (from + k) v 0 (let other : from + k ≢ place = omega arith in other)
        ∙ run.sums k (omega arith)
        ∙ ap (bit_xor (bit_xor (get_or a k 0) (get_or b k 0))) (back k (omega arith))

-- of `size` words that are kept apart the first j are those from place `from + at` on, and the others stand `size` places before
pub record IsKept (from size at j : ℕ) (last row : List ℕ) : Type 0 where
  pub done : (i : ℕ) → i < j → get_or last i 0 ≡ get_or row (from + at + i) 0
  pub left : (i : ℕ) → j ≤ i → i < size → get_or last i 0 ≡ get_or row (from + at + i - size) 0

pub kept_more : (from size at j : ℕ) (last row : List ℕ) (v : ℕ) → j < size → length last ≡ size → size ≤ from → from + at + j < length row →
    IsKept from size at j last row → IsKept from size at (j + 1) (set last j v) (set row (from + at + j) v)
kept_more from size at j last row v m long near room kept = record {
  done = λ i h. done i h (cases_eq i j);
  left = λ i h l.
      get_or-set_other last j i v 0 (let ne : i ≢ j = omega arith in ne)
      ∙ kept.left i (omega arith) l
      ∙ sym (get_or-set_other row (from + at + j) (from + at + i - size) v 0 (let ne : from + at + i - size ≢ from + at + j = omega arith in ne));
}
  where
    done : (i : ℕ) → i < j + 1 → (i ≡ j) ⊎ (i ≢ j) → get_or (set last j v) i 0 ≡ get_or (set row (from + at + j) v) (from + at + i) 0
    done i h (inl e) =
        ap (λ x. get_or (set last j v) x 0) e
        ∙ get_or-set_same last j v 0 (omega arith)
        ∙ sym (get_or-set_same row (from + at + j) v 0 room)
        ∙ ap (λ x. get_or (set row (from + at + j) v) (from + at + x) 0) (sym e)
    done i h (inr ne) =
        get_or-set_other last j i v 0 ne
        ∙ kept.done i (omega arith)
        ∙ sym (get_or-set_other row (from + at + j) (from + at + i) v 0 (let other : from + at + i ≢ from + at + j = omega arith in other))

-- all of them are written
pub kept_next : (from size at next : ℕ) (last row : List ℕ) → next ≡ at + size → IsKept from size at size last row → IsKept from size next 0 last row
kept_next from size at next last row is kept = record {
  done = λ i h. absurd (omega arith);
  left = λ i h l. kept.done i l ∙ ap (λ x. get_or row x 0) (let e : from + at + i ≡ from + next + i - size = omega arith in e);
}
