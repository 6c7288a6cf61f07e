-- Ranges of a text that a write leaves alone.
use Rattle.std.proofs.Common.{◌≡◌, ◌⊎◌, inl, inr, ℕ, ◌+◌, ◌-◌, ◌<◌, ◌≤◌, List, ◌++◌, length, take, drop, get_or, sym, ◌∙◌, ap, arith, length-append, length-drop}
use Rattle.std.proofs.lemmas.List.{ext_get_or, get_or-take, get_or-drop, get_or_append_left, get_or-append_right, length-take-le}
use Rattle.rz_disk.specs.Images.{window, Torn}

pub window-byte : (at n : ℕ) (t : List ℕ) (i : ℕ) → i < n → get_or (window at n t) i 0 ≡ get_or t (at + i) 0
window-byte at n t i below = get_or-take n (drop at t) i 0 below ∙ get_or-drop at t i 0

pub window-length : (at n : ℕ) (t : List ℕ) → at + n ≤ length t → length (window at n t) ≡ n
window-length at n t fits = length-take-le n (drop at t) (omega (arith, length-drop at t))

-- two texts of one size that agree in a range
pub same_window : (at n : ℕ) (s t : List ℕ) → length s ≡ length t → at + n ≤ length t → ((i : ℕ) → at ≤ i → i < at + n → get_or s i 0 ≡ get_or t i 0) → window at n s ≡ window at n t
same_window at n s t size fits same = ext_get_or 0 (window at n s) (window at n t)
    (window-length at n s (omega arith) ∙ sym (window-length at n t fits))
    (λ i below. let below-n : i < n = omega (arith, window-length at n s (omega arith)) in
    window-byte at n s i below-n ∙ same (at + i) (omega arith) (omega arith) ∙ sym (window-byte at n t i below-n))

-- a write leaves each range that it does not meet
pub apart : (at n : ℕ) (old new : List ℕ) (o w : ℕ) → Torn at n old new → o + w ≤ length old → (o + w ≤ at) ⊎ (at + n ≤ o) → window o w new ≡ window o w old
apart at n old new o w torn fits (inl before) = same_window o w new old torn.size fits (λ i from to. torn.below i (omega arith))
apart at n old new o w torn fits (inr after) = same_window o w new old torn.size fits (λ i from to. torn.above i (omega arith))

pub apart_byte : (at n : ℕ) (old new : List ℕ) (i : ℕ) → Torn at n old new → (i < at) ⊎ (at + n ≤ i) → get_or new i 0 ≡ get_or old i 0
apart_byte at n old new i torn (inl before) = torn.below i before
apart_byte at n old new i torn (inr after) = torn.above i after

-- one text with a range of another
pub record Spliced (at n : ℕ) (c t d : List ℕ) : Type 0 where
  pub size : length d ≡ length c
  pub below : (i : ℕ) → i < at → get_or d i 0 ≡ get_or c i 0
  pub inside : (i : ℕ) → at ≤ i → i < at + n → get_or d i 0 ≡ get_or t i 0
  pub above : (i : ℕ) → at + n ≤ i → get_or d i 0 ≡ get_or c i 0

abbrev pub splice : ℕ → ℕ → List ℕ → List ℕ → List ℕ
splice at n c t = take at c ++ (window at n t ++ drop (at + n) c)

pub spliced : (at n : ℕ) (c t : List ℕ) → length c ≡ length t → at + n ≤ length c → Spliced at n c t (splice at n c t)
spliced at n c t size fits =
    let front : length (take at c) ≡ at = length-take-le at c (omega arith) in
    let middle : length (window at n t) ≡ n = window-length at n t (omega arith) in
    let end : List ℕ = window at n t ++ drop (at + n) c in
    record {
      size = omega (arith, length-append (take at c) (window at n t ++ drop (at + n) c), length-append (window at n t) (drop (at + n) c), length-drop (at + n) c, front, middle);
      below = λ i lt. get_or_append_left (take at c) (window at n t ++ drop (at + n) c) 0 i (omega arith) ∙ get_or-take at c i 0 lt;
      inside = λ i from to.
          get_or-append_right (take at c) (window at n t ++ drop (at + n) c) at i 0 front from
          ∙ get_or_append_left (window at n t) (drop (at + n) c) 0 (i - at) (omega arith)
          ∙ window-byte at n t (i - at) (omega arith)
          ∙ ap (λ (k : ℕ). get_or t k 0) (omega arith);
      above = λ i from.
          get_or-append_right (take at c) (window at n t ++ drop (at + n) c) at i 0 front (omega arith)
          ∙ get_or-append_right (window at n t) (drop (at + n) c) n (i - at) 0 middle (omega arith)
          ∙ get_or-drop (at + n) c (i - at - n) 0
          ∙ ap (λ (k : ℕ). get_or c k 0) (omega arith);
    }
