-- A running exclusive or by one place or by two, four words at a time.
use Rattle.std.proofs.Common.{◌≡◌, refl, replicate, zero, suc, ℕ, ◌+◌, ◌-◌, ◌<◌, ◌≤◌, sym, ap, ◌∙◌, arith, ◌⊎◌, inl, inr, List, length, get_or}
use Rattle.std.specs.Prelude.{bit_xor}
use Rattle.std.specs.Simd.Lanes.{zip2, chunk, put_chunk}
use Rattle.std.proofs.lemmas.Bool.{cases_lt}
use Rattle.std.proofs.lemmas.Simd.{get_or-put_chunk_below, get_or-put_chunk_at, get_or-put_chunk_above, get_or-chunk, get_or-zip2, length-chunk}
use lib.Bits.{xor_zero_r, xor_assoc}
use Rattle.mj_inverse_sums.proofs.Delayed.{IsDelayed}

-- the words of four places, their pairs and what they became: each is the word before and what it adds
pub record IsFour (words pairs last : List ℕ) : Type 0 where
  pub third : get_or pairs 2 0 ≡ bit_xor (get_or words 2 0) (get_or words 1 0)
  pub fourth : get_or pairs 3 0 ≡ bit_xor (get_or words 3 0) (get_or words 2 0)
  pub one : get_or last 1 0 ≡ bit_xor (get_or words 1 0) (get_or last 0 0)
  pub two : get_or last 2 0 ≡ bit_xor (get_or words 2 0) (get_or last 1 0)
  pub three : get_or last 3 0 ≡ bit_xor (get_or words 3 0) (get_or last 2 0)

-- the next four
pub record IsNextFour (words pairs last words' pairs' last' : List ℕ) : Type 0 where
  pub pair_0 : get_or pairs' 0 0 ≡ bit_xor (get_or words' 0 0) (get_or words 3 0)
  pub pair_1 : get_or pairs' 1 0 ≡ bit_xor (get_or words' 1 0) (get_or words' 0 0)
  pub pair_2 : get_or pairs' 2 0 ≡ bit_xor (get_or words' 2 0) (get_or words' 1 0)
  pub pair_3 : get_or pairs' 3 0 ≡ bit_xor (get_or words' 3 0) (get_or words' 2 0)
  pub last_0 : get_or last' 0 0 ≡ bit_xor (bit_xor (get_or pairs' 0 0) (get_or pairs 2 0)) (get_or last 0 0)
  pub last_1 : get_or last' 1 0 ≡ bit_xor (bit_xor (get_or pairs' 1 0) (get_or pairs 3 0)) (get_or last 1 0)
  pub last_2 : get_or last' 2 0 ≡ bit_xor (bit_xor (get_or pairs' 2 0) (get_or pairs' 0 0)) (get_or last 2 0)
  pub last_3 : get_or last' 3 0 ≡ bit_xor (bit_xor (get_or pairs' 3 0) (get_or pairs' 1 0)) (get_or last 3 0)

sums : (a b c d e : ℕ) → bit_xor (bit_xor (bit_xor a b) (bit_xor c d)) e ≡ bit_xor a (bit_xor b (bit_xor c (bit_xor d e)))
sums a b c d e =
    xor_assoc (bit_xor a b) (bit_xor c d) e ∙ xor_assoc a b (bit_xor (bit_xor c d) e)
    ∙ ap (λ x. bit_xor a (bit_xor b x)) (xor_assoc c d e)

-- of two pairs, in which the words are named
of_pairs : (p q a b c d e : ℕ) → p ≡ bit_xor a b → q ≡ bit_xor c d → bit_xor (bit_xor p q) e ≡ bit_xor a (bit_xor b (bit_xor c (bit_xor d e)))
of_pairs p q a b c d e h k = ap (λ x. bit_xor (bit_xor x q) e) h ∙ ap (λ x. bit_xor (bit_xor (bit_xor a b) x) e) k ∙ sums a b c d e

module _ (words pairs last words' pairs' last' : List ℕ) (four : IsFour words pairs last) (next : IsNextFour words pairs last words' pairs' last') where
  w : ℕ → ℕ
  w i = get_or words' i 0

  l : ℕ
  l = get_or last 3 0

  first : get_or last' 0 0 ≡ bit_xor (get_or words' 0 0) (get_or last 3 0)
  first =
      next.last_0
      ∙ of_pairs (get_or pairs' 0 0) (get_or pairs 2 0) (get_or words' 0 0) (get_or words 3 0) (get_or words 2 0) (get_or words 1 0) (get_or last 0 0) next.pair_0 four.third
      ∙ ap (λ x. bit_xor (get_or words' 0 0) (bit_xor (get_or words 3 0) (bit_xor (get_or words 2 0) x))) (sym four.one)
      ∙ ap (λ x. bit_xor (get_or words' 0 0) (bit_xor (get_or words 3 0) x)) (sym four.two)
      ∙ ap (bit_xor (get_or words' 0 0)) (sym four.three)

  second : get_or last' 1 0 ≡ bit_xor (get_or words' 1 0) (get_or last' 0 0)
  second =
      next.last_1
      ∙ of_pairs (get_or pairs' 1 0) (get_or pairs 3 0) (get_or words' 1 0) (get_or words' 0 0) (get_or words 3 0) (get_or words 2 0) (get_or last 1 0) next.pair_1 four.fourth
      ∙ ap (λ x. bit_xor (get_or words' 1 0) (bit_xor (get_or words' 0 0) (bit_xor (get_or words 3 0) x))) (sym four.two)
      ∙ ap (λ x. bit_xor (get_or words' 1 0) (bit_xor (get_or words' 0 0) x)) (sym four.three)
      ∙ ap (bit_xor (get_or words' 1 0)) (sym first)

  third : get_or last' 2 0 ≡ bit_xor (get_or words' 2 0) (get_or last' 1 0)
  third =
      next.last_2
      ∙ of_pairs (get_or pairs' 2 0) (get_or pairs' 0 0) (get_or words' 2 0) (get_or words' 1 0) (get_or words' 0 0) (get_or words 3 0) (get_or last 2 0) next.pair_2 next.pair_0
      ∙ ap (λ x. bit_xor (get_or words' 2 0) (bit_xor (get_or words' 1 0) (bit_xor (get_or words' 0 0) x))) (sym four.three)
      ∙ ap (λ x. bit_xor (get_or words' 2 0) (bit_xor (get_or words' 1 0) x)) (sym first)
      ∙ ap (bit_xor (get_or words' 2 0)) (sym second)

  fourth : get_or last' 3 0 ≡ bit_xor (get_or words' 3 0) (get_or last' 2 0)
  fourth =
      next.last_3
      ∙ of_pairs (get_or pairs' 3 0) (get_or pairs' 1 0) (get_or words' 3 0) (get_or words' 2 0) (get_or words' 1 0) (get_or words' 0 0) (get_or last 3 0) next.pair_3 next.pair_1
      ∙ ap (λ x. bit_xor (get_or words' 3 0) (bit_xor (get_or words' 2 0) (bit_xor (get_or words' 1 0) x))) (sym first)
      ∙ ap (λ x. bit_xor (get_or words' 3 0) (bit_xor (get_or words' 2 0) x)) (sym second)
      ∙ ap (bit_xor (get_or words' 3 0)) (sym third)

  pub next_four : IsFour words' pairs' last'
  next_four = record { third = next.pair_2; fourth = next.pair_3; one = second; two = third; three = fourth }

  module _ (t : ℕ) (old c d : List ℕ) (fc : t + 4 ≤ length c) (long : length last' ≡ 4) (is : IsDelayed 1 t old c d)
      (same : (j : ℕ) → j < 4 → get_or words' j 0 ≡ bit_xor (get_or c (t + j) 0) (get_or d (t + j) 0))
      (start : t < 1 → get_or last 3 0 ≡ 0) (back : (k : ℕ) → k + 1 ≡ t → get_or last 3 0 ≡ get_or c k 0) where
    at : (j : ℕ) → j < 4 → get_or (put_chunk t c last') (t + j) 0 ≡ get_or last' j 0
    at j h = get_or-put_chunk_at t c last' j 0 (omega arith) (omega arith)

    below : (k : ℕ) → k < t → get_or (put_chunk t c last') k 0 ≡ get_or c k 0
    below k h = get_or-put_chunk_below t c last' k 0 h

    -- each word of the four is the one before and what it adds
    grows : (j : ℕ) → suc j < 4 → get_or last' (suc j) 0 ≡ bit_xor (get_or words' (suc j) 0) (get_or last' j 0)
    grows zero h = second
    grows (suc zero) h = third
    grows (suc (suc zero)) h = fourth
    grows (suc (suc (suc j))) h = absurd (omega arith)

    inside : (k j : ℕ) → k + 1 ≡ t + j → j < 4 → get_or (put_chunk t c last') (k + 1) 0 ≡ bit_xor (bit_xor (get_or old (k + 1) 0) (get_or d (k + 1) 0)) (get_or (put_chunk t c last') k 0)
    inside k zero e h =
        let f : k + 1 ≡ t + 0 = e in
        let g : t + 0 ≡ k + 1 = sym e in
        ap (λ i. get_or (put_chunk t c last') i 0) f ∙ at 0 h ∙ first
        ∙ ap (λ x. bit_xor x (get_or last 3 0)) (same 0 h)
        ∙ ap (λ i. bit_xor (bit_xor (get_or c i 0) (get_or d i 0)) (get_or last 3 0)) g
        ∙ ap (λ x. bit_xor (bit_xor x (get_or d (k + 1) 0)) (get_or last 3 0)) (is.left (k + 1) (omega arith))
        ∙ ap (bit_xor (bit_xor (get_or old (k + 1) 0) (get_or d (k + 1) 0))) (back k (omega arith) ∙ sym (below k (omega arith)))
    inside k (suc j) e h =
        let f : k + 1 ≡ t + suc j = e in
        let g : t + suc j ≡ k + 1 = sym e in
        let m : t + j ≡ k = omega arith in
        ap (λ i. get_or (put_chunk t c last') i 0) f ∙ at (suc j) h ∙ grows j h
        ∙ ap (λ x. bit_xor x (get_or last' j 0)) (same (suc j) h)
        ∙ ap (λ i. bit_xor (bit_xor (get_or c i 0) (get_or d i 0)) (get_or last' j 0)) g
        ∙ ap (λ x. bit_xor (bit_xor x (get_or d (k + 1) 0)) (get_or last' j 0)) (is.left (k + 1) (omega arith))
        ∙ ap (bit_xor (bit_xor (get_or old (k + 1) 0) (get_or d (k + 1) 0))) (sym (at j (omega arith)) ∙ ap (λ i. get_or (put_chunk t c last') i 0) m)

    pub four_delayed : IsDelayed 1 (t + 4) old (put_chunk t c last') d
    four_delayed = record {
      first = λ k less small. by_first k small (cases_lt k t);
      next = λ k less. by_next k less (cases_lt (k + 1) t);
      left = λ k more. get_or-put_chunk_above t c last' k 0 (omega arith) ∙ is.left k (omega arith);
    }
      where
        by_first : (k : ℕ) → k < 1 → (k < t) ⊎ (t ≤ k) → get_or (put_chunk t c last') k 0 ≡ bit_xor (get_or old k 0) (get_or d k 0)
        by_first k small (inl h) = below k h ∙ is.first k h small
        by_first k small (inr h) =
            let e : k ≡ t + 0 = omega arith in
            let f : t + 0 ≡ k = omega arith in
            ap (λ i. get_or (put_chunk t c last') i 0) e ∙ at 0 (omega arith) ∙ first
            ∙ ap (bit_xor (get_or words' 0 0)) (start (omega arith)) ∙ xor_zero_r (get_or words' 0 0)
            ∙ same 0 (omega arith) ∙ ap (λ i. bit_xor (get_or c i 0) (get_or d i 0)) f
            ∙ ap (λ x. bit_xor x (get_or d k 0)) (is.left k (omega arith))

        by_next : (k : ℕ) → k + 1 < t + 4 → (k + 1 < t) ⊎ (t ≤ k + 1) →
            get_or (put_chunk t c last') (k + 1) 0 ≡ bit_xor (bit_xor (get_or old (k + 1) 0) (get_or d (k + 1) 0)) (get_or (put_chunk t c last') k 0)
        by_next k less (inl h) =
            below (k + 1) h ∙ is.next k h ∙ ap (bit_xor (bit_xor (get_or old (k + 1) 0) (get_or d (k + 1) 0))) (sym (below k (omega arith)))
        by_next k less (inr h) = inside k (k + 1 - t) (omega arith) (omega arith)

    -- the last of the four is the word before the next place
    pub four_back : (k : ℕ) → k + 1 ≡ t + 4 → get_or last' 3 0 ≡ get_or (put_chunk t c last') k 0
    four_back k e = let m : t + 3 ≡ k = omega arith in sym (at 3 (omega arith)) ∙ ap (λ i. get_or (put_chunk t c last') i 0) m

-- the words that are added
pub word_of : (t : ℕ) (c d : List ℕ) → t + 4 ≤ length c → t + 4 ≤ length d → (j : ℕ) → j < 4 →
    get_or (zip2 bit_xor (chunk t 4 c) (chunk t 4 d)) j 0 ≡ bit_xor (get_or c (t + j) 0) (get_or d (t + j) 0)
word_of t c d fc fd j small =
    let lx = length-chunk t 4 c fc in
    let ly = length-chunk t 4 d fd in
    get_or-zip2 bit_xor (chunk t 4 c) (chunk t 4 d) j 0 0 0 (omega arith) (omega arith)
    ∙ ap (λ w. bit_xor w (get_or (chunk t 4 d) j 0)) (get_or-chunk t 4 c j 0 small)
    ∙ ap (bit_xor (get_or c (t + j) 0)) (get_or-chunk t 4 d j 0 small)

-- before the first four
pub four_none : IsFour (replicate 4 0) (replicate 4 0) (replicate 4 0)
four_none = record { third = refl; fourth = refl; one = refl; two = refl; three = refl }

-- The same by two places: the words of four places, and what they became.
pub record IsTwice (words last : List ℕ) : Type 0 where
  pub two : get_or last 2 0 ≡ bit_xor (get_or words 2 0) (get_or last 0 0)
  pub three : get_or last 3 0 ≡ bit_xor (get_or words 3 0) (get_or last 1 0)

pub record IsNextTwice (words last words' last' : List ℕ) : Type 0 where
  pub last_0 : get_or last' 0 0 ≡ bit_xor (bit_xor (get_or words' 0 0) (get_or words 2 0)) (get_or last 0 0)
  pub last_1 : get_or last' 1 0 ≡ bit_xor (bit_xor (get_or words' 1 0) (get_or words 3 0)) (get_or last 1 0)
  pub last_2 : get_or last' 2 0 ≡ bit_xor (bit_xor (get_or words' 2 0) (get_or words' 0 0)) (get_or last 2 0)
  pub last_3 : get_or last' 3 0 ≡ bit_xor (bit_xor (get_or words' 3 0) (get_or words' 1 0)) (get_or last 3 0)

pub twice_none : IsTwice (replicate 4 0) (replicate 4 0)
twice_none = record { two = refl; three = refl }

pub none_of_four : (j : ℕ) → j < 2 → ◌≡◌ {A = ℕ} (get_or (replicate 4 0) (2 + j) 0) 0
none_of_four zero h = refl
none_of_four (suc zero) h = refl
none_of_four (suc (suc j)) h = absurd (omega arith)

module _ (words last words' last' : List ℕ) (four : IsTwice words last) (next : IsNextTwice words last words' last') where
  even : get_or last' 0 0 ≡ bit_xor (get_or words' 0 0) (get_or last 2 0)
  even = next.last_0 ∙ xor_assoc (get_or words' 0 0) (get_or words 2 0) (get_or last 0 0) ∙ ap (bit_xor (get_or words' 0 0)) (sym four.two)

  odd : get_or last' 1 0 ≡ bit_xor (get_or words' 1 0) (get_or last 3 0)
  odd = next.last_1 ∙ xor_assoc (get_or words' 1 0) (get_or words 3 0) (get_or last 1 0) ∙ ap (bit_xor (get_or words' 1 0)) (sym four.three)

  even_more : get_or last' 2 0 ≡ bit_xor (get_or words' 2 0) (get_or last' 0 0)
  even_more = next.last_2 ∙ xor_assoc (get_or words' 2 0) (get_or words' 0 0) (get_or last 2 0) ∙ ap (bit_xor (get_or words' 2 0)) (sym even)

  odd_more : get_or last' 3 0 ≡ bit_xor (get_or words' 3 0) (get_or last' 1 0)
  odd_more = next.last_3 ∙ xor_assoc (get_or words' 3 0) (get_or words' 1 0) (get_or last 3 0) ∙ ap (bit_xor (get_or words' 3 0)) (sym odd)

  pub next_twice : IsTwice words' last'
  next_twice = record { two = even_more; three = odd_more }

  -- the first two go on from the last two before
  begins : (j : ℕ) → j < 2 → get_or last' j 0 ≡ bit_xor (get_or words' j 0) (get_or last (2 + j) 0)
  begins zero h = even
  begins (suc zero) h = odd
  begins (suc (suc j)) h = absurd (omega arith)

  grows_twice : (j : ℕ) → j < 2 → get_or last' (suc (suc j)) 0 ≡ bit_xor (get_or words' (suc (suc j)) 0) (get_or last' j 0)
  grows_twice zero h = even_more
  grows_twice (suc zero) h = odd_more
  grows_twice (suc (suc j)) h = absurd (omega arith)

  module _ (t : ℕ) (old c d : List ℕ) (fc : t + 4 ≤ length c) (long : length last' ≡ 4) (is : IsDelayed 2 t old c d)
      (same : (j : ℕ) → j < 4 → get_or words' j 0 ≡ bit_xor (get_or c (t + j) 0) (get_or d (t + j) 0))
      (start : (j : ℕ) → t < 2 → j < 2 → get_or last (2 + j) 0 ≡ 0) (back : (k j : ℕ) → k + 2 ≡ t + j → j < 2 → get_or last (2 + j) 0 ≡ get_or c k 0) where
    at_two : (j : ℕ) → j < 4 → get_or (put_chunk t c last') (t + j) 0 ≡ get_or last' j 0
    at_two j h = get_or-put_chunk_at t c last' j 0 (omega arith) (omega arith)

    below_two : (k : ℕ) → k < t → get_or (put_chunk t c last') k 0 ≡ get_or c k 0
    below_two k h = get_or-put_chunk_below t c last' k 0 h

    -- a word of the four, and the one that is added to it
    of_four : (n j carry : ℕ) → n ≡ t + j → j < 4 → get_or last' j 0 ≡ bit_xor (get_or words' j 0) carry →
        get_or (put_chunk t c last') n 0 ≡ bit_xor (bit_xor (get_or old n 0) (get_or d n 0)) carry
    of_four n j carry e h grown =
        ap (λ i. get_or (put_chunk t c last') i 0) e ∙ at_two j h ∙ grown
        ∙ ap (λ x. bit_xor x carry) (same j h)
        ∙ ap (λ i. bit_xor (bit_xor (get_or c i 0) (get_or d i 0)) carry) (sym e)
        ∙ ap (λ x. bit_xor (bit_xor x (get_or d n 0)) carry) (is.left n (omega arith))

    inside_twice : (k j : ℕ) → k + 2 ≡ t + j → j < 4 → (j < 2) ⊎ ((i : ℕ) × (j ≡ suc (suc i))) →
        get_or (put_chunk t c last') (k + 2) 0 ≡ bit_xor (bit_xor (get_or old (k + 2) 0) (get_or d (k + 2) 0)) (get_or (put_chunk t c last') k 0)
    inside_twice k j e h (inl near) =
        of_four (k + 2) j (get_or last (2 + j) 0) e h (begins j near)
        ∙ ap (bit_xor (bit_xor (get_or old (k + 2) 0) (get_or d (k + 2) 0))) (back k j e near ∙ sym (below_two k (omega arith)))
    inside_twice k j e h (inr (i, f)) =
        let m : t + i ≡ k = omega arith in
        let g : k + 2 ≡ t + suc (suc i) = omega arith in
        of_four (k + 2) (suc (suc i)) (get_or last' i 0) g (omega arith) (grows_twice i (omega arith))
        ∙ ap (bit_xor (bit_xor (get_or old (k + 2) 0) (get_or d (k + 2) 0))) (sym (at_two i (omega arith)) ∙ ap (λ n. get_or (put_chunk t c last') n 0) m)

    pub twice_delayed : IsDelayed 2 (t + 4) old (put_chunk t c last') d
    twice_delayed = record {
      first = λ k less small. by_first k small (cases_lt k t);
      next = λ k less. by_next k less (cases_lt (k + 2) t);
      left = λ k more. get_or-put_chunk_above t c last' k 0 (omega arith) ∙ is.left k (omega arith);
    }
      where
        which : (j : ℕ) → (j < 2) ⊎ (2 ≤ j) → (j < 2) ⊎ ((i : ℕ) × (j ≡ suc (suc i)))
        which j (inl h) = inl h
        which j (inr h) = inr (j - 2, omega arith)

        by_first : (k : ℕ) → k < 2 → (k < t) ⊎ (t ≤ k) → get_or (put_chunk t c last') k 0 ≡ bit_xor (get_or old k 0) (get_or d k 0)
        by_first k small (inl h) = below_two k h ∙ is.first k h small
        by_first k small (inr h) =
            let j : ℕ = k - t in
            of_four k j (get_or last (2 + j) 0) (omega arith) (omega arith) (begins j (omega arith))
            ∙ ap (bit_xor (bit_xor (get_or old k 0) (get_or d k 0))) (start j (omega arith) (omega arith)) ∙ xor_zero_r (bit_xor (get_or old k 0) (get_or d k 0))

        by_next : (k : ℕ) → k + 2 < t + 4 → (k + 2 < t) ⊎ (t ≤ k + 2) →
            get_or (put_chunk t c last') (k + 2) 0 ≡ bit_xor (bit_xor (get_or old (k + 2) 0) (get_or d (k + 2) 0)) (get_or (put_chunk t c last') k 0)
        by_next k less (inl h) =
            below_two (k + 2) h ∙ is.next k h ∙ ap (bit_xor (bit_xor (get_or old (k + 2) 0) (get_or d (k + 2) 0))) (sym (below_two k (omega arith)))
        by_next k less (inr h) = inside_twice k (k + 2 - t) (omega arith) (omega arith) (which (k + 2 - t) (cases_lt (k + 2 - t) 2))

    -- the last two of the four are the words before the next places
    pub twice_back : (k j : ℕ) → k + 2 ≡ t + 4 + j → j < 2 → get_or last' (2 + j) 0 ≡ get_or (put_chunk t c last') k 0
    twice_back k j e h = let m : t + (2 + j) ≡ k = omega arith in sym (at_two (2 + j) (omega arith)) ∙ ap (λ i. get_or (put_chunk t c last') i 0) m
