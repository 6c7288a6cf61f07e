-- The words of one block of `unit` that stand side by side.
use Rattle.std.proofs.Common.{◌≡◌, ℕ, ◌+◌, ◌-◌, ◌*◌, ◌<◌, ◌≤◌, min, max, sym, ap, ◌∙◌, arith, ◌⊎◌, inl, inr}
use Rattle.std.specs.Prelude.{bit_xor}
use Rattle.std.proofs.lemmas.Bool.{cases_lt}
use mathlib.Core.Path.{fun_ext}
use Rattle.mj_inverse_sums.specs.Polynomials.{plus, times, IsFinite}
use Rattle.mj_inverse_sums.proofs.Places.{IsRun, IsAdded, from_place, run_exact, run_start, run_spent, times_of}
use Rattle.mj_inverse_sums.proofs.Taken.{place_below, place_le}

abbrev pub lane : ℕ → ℕ → (ℕ → ℕ) → ℕ → ℕ
lane unit j xs t = xs (unit * t + j)

span : (unit at from d : ℕ) → unit * at + (unit * (from + d) - unit * from) ≡ unit * (at + d)
span unit at from d = omega arith

-- as many words as lie between two places
pub place_span : (unit at from to : ℕ) → from ≤ to → unit * at + (unit * to - unit * from) ≡ unit * (at + (to - from))
place_span unit at from to h =
    let e : to ≡ from + (to - from) = omega arith in
    ap (λ n. unit * at + (unit * n - unit * from)) e ∙ span unit at from (to - from)

-- what a running exclusive or over the words of all blocks gives
pub record IsFlatRun (unit : ℕ) (xs ys zs : ℕ → ℕ) (f t at s : ℕ) : Type 0 where
  pub first : (k : ℕ) → unit * f + k < unit * t → k < unit * s → zs (unit * f + k) ≡ bit_xor (xs (unit * f + k)) (ys (unit * at + k))
  pub next : (k : ℕ) → unit * f + (k + unit * s) < unit * t →
      zs (unit * f + (k + unit * s)) ≡ bit_xor (bit_xor (xs (unit * f + (k + unit * s))) (ys (unit * at + (k + unit * s)))) (zs (unit * f + k))
  pub below : (i : ℕ) → i < unit * f → zs i ≡ xs i
  pub above : (i : ℕ) → unit * t ≤ i → zs i ≡ xs i

-- what holds of the places
pub record IsSpan (unit : ℕ) (xs ys : ℕ → ℕ) (o p f t a s : ℕ) : Type 0 where
  pub low : o ≤ f
  pub order : f ≤ t
  pub stride : 0 < s
  pub x_below : (k j : ℕ) → k < f → j < unit → xs (unit * k + j) ≡ 0
  pub x_above : (k j : ℕ) → t ≤ k → j < unit → xs (unit * k + j) ≡ 0
  pub y_below : (e j : ℕ) → o + e < f → j < unit → ys (unit * (p + e) + j) ≡ 0
  pub y_above : (e j : ℕ) → t ≤ o + e → j < unit → ys (unit * (p + e) + j) ≡ 0

at_index : (zs : ℕ → ℕ) (i j : ℕ) → i ≡ j → zs i ≡ zs j
at_index zs i j h = ap zs h

pub lane_run : (unit j : ℕ) (xs ys zs : ℕ → ℕ) (o p f t a s : ℕ) → j < unit → IsSpan unit xs ys o p f t a s → IsFlatRun unit xs ys zs f t (p + (f - o)) s →
    IsRun (lane unit j xs) (lane unit j ys) (lane unit j zs) o p f t a s
lane_run unit j xs ys zs o p f t a s h span run = record {
  low = span.low;
  order = span.order;
  stride = span.stride;
  x_below = λ k l. span.x_below k j l h;
  x_above = λ k l. span.x_above k j l h;
  y_below = λ e l. span.y_below e j l h;
  y_above = λ e l. span.y_above e j l h;
  first = λ k near small.
      let n : ℕ = unit * k + j in
      let at : ℕ = p + (f - o) in
      let in_range = place_below unit (f + k) j t h near in
      let in_row = place_below unit k j s h small in
      let x : unit * f + n ≡ unit * (f + k) + j = omega arith in
      let y : unit * at + n ≡ unit * (at + k) + j = omega arith in
      at_index zs (unit * (f + k) + j) (unit * f + n) (sym x) ∙ run.first n (omega arith) in_row
      ∙ ap (λ i. bit_xor (xs i) (ys (unit * at + n))) x ∙ ap (λ i. bit_xor (xs (unit * (f + k) + j)) (ys i)) y;
  next = λ k near.
      let n : ℕ = unit * k + j in
      let at : ℕ = p + (f - o) in
      let in_range = place_below unit (f + (k + s)) j t h near in
      let x : unit * f + (n + unit * s) ≡ unit * (f + (k + s)) + j = omega arith in
      let y : unit * at + (n + unit * s) ≡ unit * (at + (k + s)) + j = omega arith in
      let z : unit * f + n ≡ unit * (f + k) + j = omega arith in
      at_index zs (unit * (f + (k + s)) + j) (unit * f + (n + unit * s)) (sym x) ∙ run.next n (omega arith)
      ∙ ap (λ i. bit_xor (bit_xor (xs i) (ys (unit * at + (n + unit * s)))) (zs (unit * f + n))) x
      ∙ ap (λ i. bit_xor (bit_xor (xs (unit * (f + (k + s)) + j)) (ys i)) (zs (unit * f + n))) y
      ∙ ap (λ i. bit_xor (bit_xor (xs (unit * (f + (k + s)) + j)) (ys (unit * (at + (k + s)) + j))) (zs i)) z;
  below = λ k l. run.below (unit * k + j) (place_below unit k j f h l);
  above = λ k l. run.above (unit * k + j) (let m = place_le unit t k l in omega arith);
}

-- ws are the words zs with zeros from place m to place t
pub record IsCut (unit : ℕ) (zs ws : ℕ → ℕ) (m t : ℕ) : Type 0 where
  pub zero : (k j : ℕ) → m ≤ k → k < t → j < unit → ws (unit * k + j) ≡ 0
  pub below : (i : ℕ) → i < unit * m → ws i ≡ zs i
  pub above : (i : ℕ) → unit * t ≤ i → ws i ≡ zs i

-- a block with no other words there stays as it is
pub lane_cut : (unit j : ℕ) (zs ws : ℕ → ℕ) (m t : ℕ) → j < unit → IsCut unit zs ws m t → ((k : ℕ) → m ≤ k → k < t → zs (unit * k + j) ≡ 0) →
    (k : ℕ) → ws (unit * k + j) ≡ zs (unit * k + j)
lane_cut unit j zs ws m t h cut zeros k = by (cases_lt k m) (cases_lt k t)
  where
    by : (k < m) ⊎ (m ≤ k) → (k < t) ⊎ (t ≤ k) → ws (unit * k + j) ≡ zs (unit * k + j)
    by (inl l) _ = cut.below (unit * k + j) (place_below unit k j m h l)
    by (inr l) (inl r) = cut.zero k j l r h ∙ sym (zeros k l r)
    by (inr l) (inr r) = cut.above (unit * k + j) (let n = place_le unit t k r in omega arith)

-- after both cuts only the places from f and o + a to m may have words other than zero
pub cut_zero : (unit : ℕ) (xs ys zs vs ws : ℕ → ℕ) (o p f t a s g m n : ℕ) → IsSpan unit xs ys o p f t a s → IsFlatRun unit xs ys zs f t (p + (f - o)) s →
    IsCut unit zs vs f g → IsCut unit vs ws m n → max t m ≤ n →
    ((k j : ℕ) → j < unit → k < g → ws (unit * k + j) ≡ 0) × ((k j : ℕ) → j < unit → m ≤ k → ws (unit * k + j) ≡ 0)
cut_zero unit xs ys zs vs ws o p f t a s g m n span run first last over =
    (λ k j h l. below k j h l (cases_lt k f) (cases_lt k m) (cases_lt k n), λ k j h l. above k j h l (cases_lt k n))
  where
    early : (k j : ℕ) → j < unit → k < g → (k < f) ⊎ (f ≤ k) → vs (unit * k + j) ≡ 0
    early k j h l (inl b) = first.below (unit * k + j) (place_below unit k j f h b) ∙ run.below (unit * k + j) (place_below unit k j f h b) ∙ span.x_below k j b h
    early k j h l (inr b) = first.zero k j b l h

    below : (k j : ℕ) → j < unit → k < g → (k < f) ⊎ (f ≤ k) → (k < m) ⊎ (m ≤ k) → (k < n) ⊎ (n ≤ k) → ws (unit * k + j) ≡ 0
    below k j h l d (inl b) _ = last.below (unit * k + j) (place_below unit k j m h b) ∙ early k j h l d
    below k j h l d (inr b) (inl e) = last.zero k j b e h
    below k j h l d (inr b) (inr e) = last.above (unit * k + j) (let i = place_le unit n k e in omega arith) ∙ early k j h l d

    late : (k j : ℕ) → j < unit → t ≤ k → (k < f) ⊎ (f ≤ k) → (k < g) ⊎ (g ≤ k) → vs (unit * k + j) ≡ 0
    late k j h l d (inl b) = early k j h b d
    late k j h l d (inr b) =
        first.above (unit * k + j) (let i = place_le unit g k b in omega arith) ∙ run.above (unit * k + j) (let i = place_le unit t k l in omega arith) ∙ span.x_above k j l h

    above : (k j : ℕ) → j < unit → m ≤ k → (k < n) ⊎ (n ≤ k) → ws (unit * k + j) ≡ 0
    above k j h l (inl b) = last.zero k j l b h
    above k j h l (inr b) =
        last.above (unit * k + j) (let i = place_le unit n k b in omega arith) ∙ late k j h (omega arith) (cases_lt k f) (cases_lt k g)

-- vs are the words after the run, zs, with zeros from place f to place o + a, and ws are those with zeros from place m on
module _ (unit j : ℕ) (xs ys zs vs ws : ℕ → ℕ) (o p f t a s g m n q q' : ℕ) (h : j < unit) (span : IsSpan unit xs ys o p f t a s)
    (run : IsFlatRun unit xs ys zs f t (p + (f - o)) s) (first : IsCut unit zs vs f g) (last : IsCut unit vs ws m n)
    (down : a + s ≡ max q q') (less : a ≡ min q q') (begin : g ≡ max f (o + a)) (end : m ≡ max (t - s) (o + a)) (over : max t m ≤ n) where
  one_run : IsRun (lane unit j xs) (lane unit j ys) (lane unit j zs) o p f t a s
  one_run = lane_run unit j xs ys zs o p f t a s h span run

  kept : (k : ℕ) → m ≤ k → vs (unit * k + j) ≡ zs (unit * k + j)
  kept k far = by (cases_lt k f)
    where
      by : (k < f) ⊎ (f ≤ k) → vs (unit * k + j) ≡ zs (unit * k + j)
      by (inl l) = first.below (unit * k + j) (place_below unit k j f h l)
      by (inr l) = first.above (unit * k + j) (let n = place_le unit g k (omega arith) in omega arith)

  -- with no other words before place o + a and from place m on, it is divided
  pub lane_exact : ((k : ℕ) → f ≤ k → k < g → zs (unit * k + j) ≡ 0) → ((k : ℕ) → m ≤ k → k < n → vs (unit * k + j) ≡ 0) →
      plus (from_place (lane unit j xs) o) (from_place (lane unit j ys) p) ≡ times q q' (from_place (lane unit j ws) (o + a))
  lane_exact before behind =
      run_exact (lane unit j xs) (lane unit j ys) (lane unit j zs) o p f t a s one_run (λ k far near. before k far (omega arith)) (λ k far near. rest k far near (cases_lt k m) (cases_lt k f))
      ∙ ap (times a (a + s)) (fun_ext (λ e. sym (lane_cut unit j vs ws m n h last behind (o + a + e) ∙ lane_cut unit j zs vs f g h first before (o + a + e))))
      ∙ sym (times_of q q' a s (from_place (lane unit j ws) (o + a)) less (omega arith))
    where
      rest : (k : ℕ) → t - s ≤ k → k < t → (k < m) ⊎ (m ≤ k) → (k < f) ⊎ (f ≤ k) → zs (unit * k + j) ≡ 0
      rest k far near (inl l) (inl b) = one_run.below k b ∙ one_run.x_below k b
      rest k far near (inl l) (inr b) = before k b (omega arith)
      rest k far near (inr l) _ = sym (kept k l) ∙ behind k l (omega arith)

  -- where it can be divided, there are no other words before place o + a
  pub lane_start : (d : ℕ → ℕ) → plus (from_place (lane unit j xs) o) (from_place (lane unit j ys) p) ≡ times q q' d →
      (k : ℕ) → f ≤ k → k < g → zs (unit * k + j) ≡ 0
  lane_start d is k far near =
      run_start (lane unit j xs) (lane unit j ys) (lane unit j zs) o p f t a s one_run d (is ∙ times_of q q' a s d less (omega arith)) k far (omega arith)

  -- nor from place m on
  pub lane_spent : (d : ℕ → ℕ) → IsFinite d → plus (from_place (lane unit j xs) o) (from_place (lane unit j ys) p) ≡ times q q' d →
      (k : ℕ) → m ≤ k → k < n → vs (unit * k + j) ≡ 0
  lane_spent d finite is k far near = kept k far ∙ by (cases_lt k t)
    where
      by : (k < t) ⊎ (t ≤ k) → zs (unit * k + j) ≡ 0
      by (inl l) =
          run_spent (lane unit j xs) (lane unit j ys) (lane unit j zs) o p f t a s one_run d finite
          (is ∙ times_of q q' a s d less (omega arith)) k (omega arith) l
      by (inr l) = one_run.above k l ∙ one_run.x_above k l

-- what an addition over the words of all blocks gives
pub record IsFlatAdded (unit : ℕ) (xs ys zs : ℕ → ℕ) (at f t : ℕ) : Type 0 where
  pub inside : (k : ℕ) → unit * f + k < unit * t → zs (unit * at + k) ≡ bit_xor (xs (unit * at + k)) (ys (unit * f + k))
  pub below : (i : ℕ) → i < unit * at → zs i ≡ xs i
  pub above : (i : ℕ) → unit * at + (unit * t - unit * f) ≤ i → zs i ≡ xs i

pub lane_added : (unit j : ℕ) (xs ys zs : ℕ → ℕ) (o p u f t : ℕ) → j < unit → p ≤ f → f ≤ t →
    ((k j : ℕ) → k < f → j < unit → ys (unit * k + j) ≡ 0) → ((k j : ℕ) → t ≤ k → j < unit → ys (unit * k + j) ≡ 0) →
    IsFlatAdded unit xs ys zs (o + u + (f - p)) f t → IsAdded (lane unit j xs) (lane unit j ys) (lane unit j zs) o p u f t
lane_added unit j xs ys zs o p u f t h low order y_below y_above add = record {
  low = low;
  order = order;
  y_below = λ k l. y_below k j l h;
  y_above = λ k l. y_above k j l h;
  inside = λ k near.
      let n : ℕ = unit * k + j in
      let at : ℕ = o + u + (f - p) in
      let in_range = place_below unit (f + k) j t h near in
      let x : unit * at + n ≡ unit * (at + k) + j = omega arith in
      let y : unit * f + n ≡ unit * (f + k) + j = omega arith in
      at_index zs (unit * (at + k) + j) (unit * at + n) (sym x) ∙ add.inside n (omega arith)
      ∙ ap (λ i. bit_xor (xs i) (ys (unit * f + n))) x ∙ ap (λ i. bit_xor (xs (unit * (at + k) + j)) (ys i)) y;
  below = λ k l. add.below (unit * k + j) (place_below unit k j (o + u + (f - p)) h l);
  above = λ k l. add.above (unit * k + j) (rw (place_span unit (o + u + (f - p)) f t order) (let m = place_le unit (o + u + (f - p) + (t - f)) k l in omega arith));
}
