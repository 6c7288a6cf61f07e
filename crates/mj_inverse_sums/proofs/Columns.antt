-- A running exclusive or with stride s, a row of s words at a time, of which the last row is kept apart in two vectors.
use Rattle.std.proofs.Common.{◌≡◌, refl, replicate, ℕ, ◌+◌, ◌<◌, ◌≤◌, sym, ap, ◌∙◌, subst, arith, rules, ◌⊎◌, inl, inr, List, length, get_or}
use Rattle.std.specs.Prelude.{bit_xor, ◌-◌}
use Rattle.std.specs.Simd.Lanes.{zip2, chunk, put_chunk}
use Rattle.std.proofs.lemmas.Bool.{cases_lt}
use Rattle.std.proofs.lemmas.List.{places}
use Rattle.std.proofs.lemmas.Simd.{get_or-put_chunk_below, get_or-put_chunk_at, get_or-put_chunk_above, get_or-chunk, get_or-zip2, length-chunk, length-zip2, length-put_chunk}
use lib.Bits.{xor_zero_r}
use Rattle.mj_inverse_sums.proofs.Delayed.{IsDelayed}

-- `last` has the n words that stand s places before those from place t on, or zeros where there are none
pub record IsCarried (s n t : ℕ) (c last : List ℕ) : Type 0 where
  pub start : (k : ℕ) → k < n → t + k < s → get_or last k 0 ≡ 0
  pub back : (k m : ℕ) → k < n → m + s ≡ t + k → get_or last k 0 ≡ get_or c m 0

-- the next n words from place t on
abbrev pub next : ℕ → ℕ → List ℕ → List ℕ → List ℕ → List ℕ
next n t c d last = zip2 bit_xor (zip2 bit_xor (chunk t n c) (chunk t n d)) last

module _ (n t : ℕ) (c d last : List ℕ) (fc : t + n ≤ length c) (fd : t + n ≤ length d) (fl : length last ≡ n) where
  pair_long : length (zip2 bit_xor (chunk t n c) (chunk t n d)) ≡ n
  pair_long = length-zip2 bit_xor (chunk t n c) (chunk t n d) (length-chunk t n c fc ∙ sym (length-chunk t n d fd)) ∙ length-chunk t n c fc

  pub next_long : length (next n t c d last) ≡ n
  next_long = length-zip2 bit_xor (zip2 bit_xor (chunk t n c) (chunk t n d)) last (pair_long ∙ sym fl) ∙ pair_long

  pub next_at : (j : ℕ) → j < n → get_or (next n t c d last) j 0 ≡ bit_xor (bit_xor (get_or c (t + j) 0) (get_or d (t + j) 0)) (get_or last j 0)
  next_at j small =
      let lp = pair_long in
      let lx = length-chunk t n c fc in
      let ly = length-chunk t n d fd in
      get_or-zip2 bit_xor (zip2 bit_xor (chunk t n c) (chunk t n d)) last j 0 0 0 (omega arith) (omega arith)
      ∙ ap (λ w. bit_xor w (get_or last j 0))
      (get_or-zip2 bit_xor (chunk t n c) (chunk t n d) j 0 0 0 (omega arith) (omega arith)
      ∙ ap (λ w. bit_xor w (get_or (chunk t n d) j 0)) (get_or-chunk t n c j 0 small)
      ∙ ap (bit_xor (get_or c (t + j) 0)) (get_or-chunk t n d j 0 small))

module _ (s n o t u : ℕ) (old c d front back : List ℕ) (place : u + o ≡ t + s) (some : n ≤ s) (few : o ≤ s) (all : s ≤ n + o) (fc : t + s ≤ length c) (fd : t + s ≤ length d)
    (ff : length front ≡ n) (fb : length back ≡ o) (is : IsDelayed s t old c d) (cf : IsCarried s n t c front) (cb : IsCarried s o u c back) where
  near : List ℕ
  near = next n t c d front

  far : List ℕ
  far = next o u c d back

  near_long : length (next n t c d front) ≡ n
  near_long = next_long n t c d front (omega arith) (omega arith) ff

  far_long : length (next o u c d back) ≡ o
  far_long = next_long o u c d back (omega arith) (omega arith) fb

  mid_long : length (put_chunk t c (next n t c d front)) ≡ length c
  mid_long = length-put_chunk t c (next n t c d front)

  -- a word of the row
  in_row : (k : ℕ) → t ≤ k → k < t + s → (k < s → get_or (put_chunk u (put_chunk t c (next n t c d front)) (next o u c d back)) k 0 ≡ bit_xor (get_or c k 0) (get_or d k 0))
  in_row k low high first = by (cases_lt k u)
    where
      by : (k < u) ⊎ (u ≤ k) → get_or (put_chunk u (put_chunk t c (next n t c d front)) (next o u c d back)) k 0 ≡ bit_xor (get_or c k 0) (get_or d k 0)
      by (inl before) =
          let j : ℕ = k - t in
          let e : t + j ≡ k = omega arith in
          let l = near_long in
          get_or-put_chunk_below u (put_chunk t c (next n t c d front)) (next o u c d back) k 0 before
          ∙ ap (λ i. get_or (put_chunk t c (next n t c d front)) i 0) (sym e)
          ∙ get_or-put_chunk_at t c (next n t c d front) j 0 (omega arith) (omega arith)
          ∙ next_at n t c d front (omega arith) (omega arith) ff j (omega arith)
          ∙ ap (λ i. bit_xor (bit_xor (get_or c i 0) (get_or d i 0)) (get_or front j 0)) e
          ∙ ap (bit_xor (bit_xor (get_or c k 0) (get_or d k 0))) (cf.start j (omega arith) (omega arith))
          ∙ xor_zero_r (bit_xor (get_or c k 0) (get_or d k 0))
      by (inr from) =
          let j : ℕ = k - u in
          let e : u + j ≡ k = omega arith in
          let l = far_long in
          let m = mid_long in
          ap (λ i. get_or (put_chunk u (put_chunk t c (next n t c d front)) (next o u c d back)) i 0) (sym e)
          ∙ get_or-put_chunk_at u (put_chunk t c (next n t c d front)) (next o u c d back) j 0 (omega arith) (omega arith)
          ∙ next_at o u c d back (omega arith) (omega arith) fb j (omega arith)
          ∙ ap (λ i. bit_xor (bit_xor (get_or c i 0) (get_or d i 0)) (get_or back j 0)) e
          ∙ ap (bit_xor (bit_xor (get_or c k 0) (get_or d k 0))) (cb.start j (omega arith) (omega arith))
          ∙ xor_zero_r (bit_xor (get_or c k 0) (get_or d k 0))

  on_row : (k m : ℕ) → t ≤ k → k < t + s → m + s ≡ k → get_or (put_chunk u (put_chunk t c (next n t c d front)) (next o u c d back)) k 0 ≡ bit_xor (bit_xor (get_or c k 0) (get_or d k 0)) (get_or c m 0)
  on_row k m low high back_is = by (cases_lt k u)
    where
      by : (k < u) ⊎ (u ≤ k) → get_or (put_chunk u (put_chunk t c (next n t c d front)) (next o u c d back)) k 0 ≡ bit_xor (bit_xor (get_or c k 0) (get_or d k 0)) (get_or c m 0)
      by (inl before) =
          let j : ℕ = k - t in
          let e : t + j ≡ k = omega arith in
          let l = near_long in
          get_or-put_chunk_below u (put_chunk t c (next n t c d front)) (next o u c d back) k 0 before
          ∙ ap (λ i. get_or (put_chunk t c (next n t c d front)) i 0) (sym e)
          ∙ get_or-put_chunk_at t c (next n t c d front) j 0 (omega arith) (omega arith)
          ∙ next_at n t c d front (omega arith) (omega arith) ff j (omega arith)
          ∙ ap (λ i. bit_xor (bit_xor (get_or c i 0) (get_or d i 0)) (get_or front j 0)) e
          ∙ ap (bit_xor (bit_xor (get_or c k 0) (get_or d k 0))) (cf.back j m (omega arith) (omega arith))
      by (inr from) =
          let j : ℕ = k - u in
          let e : u + j ≡ k = omega arith in
          let l = far_long in
          let m' = mid_long in
          ap (λ i. get_or (put_chunk u (put_chunk t c (next n t c d front)) (next o u c d back)) i 0) (sym e)
          ∙ get_or-put_chunk_at u (put_chunk t c (next n t c d front)) (next o u c d back) j 0 (omega arith) (omega arith)
          ∙ next_at o u c d back (omega arith) (omega arith) fb j (omega arith)
          ∙ ap (λ i. bit_xor (bit_xor (get_or c i 0) (get_or d i 0)) (get_or back j 0)) e
          ∙ ap (bit_xor (bit_xor (get_or c k 0) (get_or d k 0))) (cb.back j m (omega arith) (omega arith))

  below : (k : ℕ) → k < t → get_or (put_chunk u (put_chunk t c (next n t c d front)) (next o u c d back)) k 0 ≡ get_or c k 0
  below k low =
      get_or-put_chunk_below u (put_chunk t c (next n t c d front)) (next o u c d back) k 0 (omega arith)
      ∙ get_or-put_chunk_below t c (next n t c d front) k 0 low

  above : (k : ℕ) → t + s ≤ k → get_or (put_chunk u (put_chunk t c (next n t c d front)) (next o u c d back)) k 0 ≡ get_or c k 0
  above k high =
      get_or-put_chunk_above u (put_chunk t c (next n t c d front)) (next o u c d back) k 0 (let l = far_long in omega arith)
      ∙ get_or-put_chunk_above t c (next n t c d front) k 0 (let l = near_long in omega arith)

  pub row_delayed : IsDelayed s (t + s) old (put_chunk u (put_chunk t c (next n t c d front)) (next o u c d back)) d
  row_delayed = record {
    first = λ k less small. first k less small (cases_lt k t);
    next = λ k less. later k less (cases_lt (k + s) t);
    left = λ k more. above k more ∙ is.left k (omega arith);
  }
    where
      first : (k : ℕ) → k < t + s → k < s → (k < t) ⊎ (t ≤ k) → get_or (put_chunk u (put_chunk t c (next n t c d front)) (next o u c d back)) k 0 ≡ bit_xor (get_or old k 0) (get_or d k 0)
      first k less small (inl before) = below k before ∙ is.first k before small
      first k less small (inr from) = in_row k from less small ∙ ap (λ w. bit_xor w (get_or d k 0)) (is.left k from)

      later : (k : ℕ) → k + s < t + s → (k + s < t) ⊎ (t ≤ k + s) →
          get_or (put_chunk u (put_chunk t c (next n t c d front)) (next o u c d back)) (k + s) 0
          ≡ bit_xor (bit_xor (get_or old (k + s) 0) (get_or d (k + s) 0)) (get_or (put_chunk u (put_chunk t c (next n t c d front)) (next o u c d back)) k 0)
      later k less (inl before) =
          below (k + s) before ∙ is.next k before
          ∙ ap (bit_xor (bit_xor (get_or old (k + s) 0) (get_or d (k + s) 0))) (sym (below k (omega arith)))
      later k less (inr from) =
          on_row (k + s) k from less refl
          ∙ ap (λ w. bit_xor (bit_xor w (get_or d (k + s) 0)) (get_or c k 0)) (is.left (k + s) from)
          ∙ ap (bit_xor (bit_xor (get_or old (k + s) 0) (get_or d (k + s) 0))) (sym (below k (omega arith)))

  pub front_carried : IsCarried s n (t + s) (put_chunk u (put_chunk t c (next n t c d front)) (next o u c d back)) (next n t c d front)
  front_carried = record {
    start = λ k small low. absurd (omega arith);
    back = λ k m small e. by k m small (let f : m ≡ t + k = omega arith in f) (cases_lt m s);
  }
    where
      by : (k m : ℕ) → k < n → m ≡ t + k → (m < s) ⊎ (s ≤ m) → get_or (next n t c d front) k 0 ≡ get_or (put_chunk u (put_chunk t c (next n t c d front)) (next o u c d back)) m 0
      by k m small e (inl low) =
          next_at n t c d front (omega arith) (omega arith) ff k small
          ∙ ap (bit_xor (bit_xor (get_or c (t + k) 0) (get_or d (t + k) 0))) (cf.start k small (omega arith))
          ∙ xor_zero_r (bit_xor (get_or c (t + k) 0) (get_or d (t + k) 0))
          ∙ ap (λ i. bit_xor (get_or c i 0) (get_or d i 0)) (sym e)
          ∙ sym (in_row m (omega arith) (omega arith) low)
      by k m small e (inr high) =
          let p : ℕ = m - s in
          next_at n t c d front (omega arith) (omega arith) ff k small
          ∙ ap (bit_xor (bit_xor (get_or c (t + k) 0) (get_or d (t + k) 0))) (cf.back k p small (omega arith))
          ∙ ap (λ i. bit_xor (bit_xor (get_or c i 0) (get_or d i 0)) (get_or c p 0)) (sym e)
          ∙ sym (on_row m p (omega arith) (omega arith) (omega arith))

  pub back_carried : IsCarried s o (u + s) (put_chunk u (put_chunk t c (next n t c d front)) (next o u c d back)) (next o u c d back)
  back_carried = record {
    start = λ k small low. absurd (omega arith);
    back = λ k m small e.
        (let l = far_long in
        let m' = mid_long in
        let f : u + k ≡ m = omega arith in
        sym (get_or-put_chunk_at u (put_chunk t c (next n t c d front)) (next o u c d back) k 0 (omega arith) (omega arith))
        ∙ ap (λ i. get_or (put_chunk u (put_chunk t c (next n t c d front)) (next o u c d back)) i 0) f);
  }

  pub back_carried_at : (v : ℕ) → u + s ≡ v → IsCarried s o v (put_chunk u (put_chunk t c (next n t c d front)) (next o u c d back)) (next o u c d back)
  back_carried_at v e =
      let P : ℕ → Type 0 = λ x. IsCarried s o x (put_chunk u (put_chunk t c (next n t c d front)) (next o u c d back)) (next o u c d back) in
      subst P e back_carried

-- before the first row
pub delayed_none : (s : ℕ) (c d : List ℕ) → IsDelayed s 0 c c d
delayed_none s c d = record { first = λ k less small. absurd (omega arith); next = λ k less. absurd (omega arith); left = λ k more. refl }

pub carried_none : (s n t : ℕ) (c : List ℕ) → t + n ≤ s → IsCarried s n t c (replicate n 0)
carried_none s n t c low = record { start = λ k small low. search (rules, places); back = λ k m small e. absurd (omega arith) }
