-- A division at places: xs are the words before, ys those that are added, and zs those after.
use Rattle.std.proofs.Common.{◌≡◌, ℕ, ◌+◌, ◌-◌, ◌<◌, ◌≤◌, min, max, refl, sym, ap, ◌∙◌, arith, ◌⊎◌, inl, inr}
use Rattle.std.specs.Prelude.{bit_xor}
use Rattle.std.proofs.lemmas.Bool.{cases_lt}
use mathlib.Core.Path.{fun_ext}
use lib.Bits.{xor_zero_r, xor_self}
use Rattle.mj_inverse_sums.specs.Polynomials.{plus, raised, times, IsFinite}
use Rattle.mj_inverse_sums.proofs.Algebra.{split, plus_at, raised_below, raised_at, times-comm, finite-raised}
use Rattle.mj_inverse_sums.proofs.Running.{Runs, IsSpent, exact, spent, same_words, lowered, raised-lowered, times_is}

-- the words from place o on
abbrev pub from_place : (ℕ → ℕ) → ℕ → ℕ → ℕ
from_place xs o e = xs (o + e)

-- from place f to place t zs is the running exclusive or, with stride s; o and p are the places of word number 0
pub record IsRun (xs ys zs : ℕ → ℕ) (o p f t a s : ℕ) : Type 0 where
  pub low : o ≤ f
  pub order : f ≤ t
  pub stride : 0 < s
  pub x_below : (k : ℕ) → k < f → xs k ≡ 0
  pub x_above : (k : ℕ) → t ≤ k → xs k ≡ 0
  pub y_below : (e : ℕ) → o + e < f → ys (p + e) ≡ 0
  pub y_above : (e : ℕ) → t ≤ o + e → ys (p + e) ≡ 0
  pub first : (k : ℕ) → f + k < t → k < s → zs (f + k) ≡ bit_xor (xs (f + k)) (ys (p + (f - o) + k))
  pub next : (k : ℕ) → f + (k + s) < t →
      zs (f + (k + s)) ≡ bit_xor (bit_xor (xs (f + (k + s))) (ys (p + (f - o) + (k + s)))) (zs (f + k))
  pub below : (k : ℕ) → k < f → zs k ≡ xs k
  pub above : (k : ℕ) → t ≤ k → zs k ≡ xs k

module _ (xs ys zs : ℕ → ℕ) (o p f t a s : ℕ) (run : IsRun xs ys zs o p f t a s) where
  z : ℕ → ℕ
  z = plus (from_place xs o) (from_place ys p)

  r : ℕ → ℕ
  r = from_place zs o

  z_at : (e : ℕ) → z e ≡ bit_xor (xs (o + e)) (ys (p + e))
  unfolding z
  z_at e = plus_at (from_place xs o) (from_place ys p) e

  r_at : (e : ℕ) → r e ≡ zs (o + e)
  unfolding r
  r_at e = refl

  r_below : (e : ℕ) → o + e < f → r e ≡ 0
  r_below e h = r_at e ∙ run.below (o + e) h ∙ run.x_below (o + e) h

  at_place : (zs : ℕ → ℕ) (i j : ℕ) → i ≡ j → zs i ≡ zs j
  at_place zs i j h = ap (λ n. zs n) h

  by_start : (e : ℕ) → e < t - o → (o + e < f) ⊎ (f ≤ o + e) → r e ≡ bit_xor (z e) (raised s r e)
  by_start e near (inl h) =
      let none : z e ≡ 0 = z_at e ∙ rw (run.x_below (o + e) h, run.y_below e h) (xor_self 0) in
      let carried : raised s r e ≡ 0 = lower (split s e) in
      r_below e h ∙ sym (rw (none, carried) (xor_self 0))
    where
      lower : (e < s) ⊎ ((d : ℕ) × (e ≡ s + d)) → raised s r e ≡ 0
      lower (inl k) = raised_below s r e k
      lower (inr (d, k)) = raised_at s r e d k ∙ r_below d (omega arith)
  by_start e near (inr h) = by_row (cases_lt (o + e - f) s)
    where
      lower : o + e - f < s → (e < s) ⊎ ((d : ℕ) × (e ≡ s + d)) → raised s r e ≡ 0
      lower small (inl k) = raised_below s r e k
      lower small (inr (d, k)) = raised_at s r e d k ∙ r_below d (omega arith)

      by_row : (o + e - f < s) ⊎ (s ≤ o + e - f) → r e ≡ bit_xor (z e) (raised s r e)
      by_row (inl small) =
          let k : ℕ = o + e - f in
          let x : f + k ≡ o + e = omega arith in
          let l = run.low in
          let y : p + (f - o) + k ≡ p + e = omega arith in
          let here : r e ≡ z e =
          r_at e ∙ at_place zs (o + e) (f + k) (sym x) ∙ run.first k (omega arith) small
          ∙ ap (bit_xor (xs (f + k))) (at_place ys (p + (f - o) + k) (p + e) y)
          ∙ ap (λ w. bit_xor w (ys (p + e))) (at_place xs (f + k) (o + e) x) ∙ sym (z_at e) in
          here ∙ sym (ap (bit_xor (z e)) (lower small (split s e)) ∙ xor_zero_r (z e))
      by_row (inr large) =
          let k : ℕ = o + e - f - s in
          let l = run.low in
          let x : f + (k + s) ≡ o + e = omega arith in
          let y : p + (f - o) + (k + s) ≡ p + e = omega arith in
          let d : ℕ = e - s in
          let is : e ≡ s + d = omega arith in
          let w : f + k ≡ o + d = omega arith in
          r_at e ∙ at_place zs (o + e) (f + (k + s)) (sym x) ∙ run.next k (omega arith)
          ∙ ap (λ v. bit_xor (bit_xor (xs (f + (k + s))) v) (zs (f + k))) (at_place ys (p + (f - o) + (k + s)) (p + e) y)
          ∙ ap (λ v. bit_xor (bit_xor v (ys (p + e))) (zs (f + k))) (at_place xs (f + (k + s)) (o + e) x)
          ∙ ap (λ v. bit_xor (bit_xor (xs (o + e)) (ys (p + e))) v) (at_place zs (f + k) (o + d) w ∙ sym (r_at d) ∙ sym (raised_at s r e d is))
          ∙ ap (λ v. bit_xor v (raised s r e)) (sym (z_at e))

  runs : Runs z r s (t - o) (t - o)
  runs = record {
    stride = run.stride;
    fits = omega arith;
    ends = λ e far. z_at e ∙ (let l = run.low in let g = run.order in let k : t ≤ o + e = omega arith in rw (run.x_above (o + e) k, run.y_above e k) (xor_self 0));
    none = λ e far. r_at e ∙ (let l = run.low in let g = run.order in let k : t ≤ o + e = omega arith in run.above (o + e) k ∙ run.x_above (o + e) k);
    runs = λ e near. by_start e near (cases_lt (o + e) f);
  }

  shifted : lowered a r ≡ from_place zs (o + a)
  shifted = fun_ext (λ e. r_at (a + e) ∙ at_place zs (o + (a + e)) (o + a + e) (omega arith))

  unspent : ((k : ℕ) → t - s ≤ k → k < t → zs k ≡ 0) → IsSpent r s (t - o) (t - o)
  unspent zeros e far near = by (cases_lt (o + e) f)
    where
      by : (o + e < f) ⊎ (f ≤ o + e) → r e ≡ 0
      by (inl h) = r_below e h
      by (inr h) = r_at e ∙ zeros (o + e) (let l = run.low in let g = run.order in omega arith) (omega arith)

  -- there are no other words before place o + a
  r_low : ((k : ℕ) → f ≤ k → k < o + a → zs k ≡ 0) → (e : ℕ) → e < a → r e ≡ 0
  r_low start e h = by (cases_lt (o + e) f)
    where
      by : (o + e < f) ⊎ (f ≤ o + e) → r e ≡ 0
      by (inl l) = r_below e l
      by (inr l) = r_at e ∙ start (o + e) l (omega arith)

  -- without a remainder it is divided
  pub run_exact : ((k : ℕ) → f ≤ k → k < o + a → zs k ≡ 0) → ((k : ℕ) → t - s ≤ k → k < t → zs k ≡ 0) →
      plus (from_place xs o) (from_place ys p) ≡ times a (a + s) (from_place zs (o + a))
  unfolding z
  run_exact start zeros =
      exact z r s (t - o) (t - o) runs (unspent zeros)
      ∙ ap (λ x. plus x (raised s x)) (sym (raised-lowered a r (r_low start)))
      ∙ sym (times_is a s (lowered a r))
      ∙ ap (times a (a + s)) shifted

  -- where it can be divided, there is no remainder
  pub run_spent : (h : ℕ → ℕ) → IsFinite h → plus (from_place xs o) (from_place ys p) ≡ times a (a + s) h →
      (k : ℕ) → t - s ≤ k → k < t → zs k ≡ 0
  unfolding z
  run_spent h finite is k far near = by (cases_lt k f)
    where
      by : (k < f) ⊎ (f ≤ k) → zs k ≡ 0
      by (inl less) = run.below k less ∙ run.x_below k less
      by (inr more) =
          let l = run.low in
          let e : ℕ = k - o in
          let place : o + e ≡ k = omega arith in
          at_place zs k (o + e) (sym place) ∙ sym (r_at e)
          ∙ spent z r (raised a h) s (t - o) (t - o) runs (finite-raised a h finite) (is ∙ times_is a s h) e (omega arith) (omega arith)

  -- nor before the place from which the quotient stands
  pub run_start : (h : ℕ → ℕ) → plus (from_place xs o) (from_place ys p) ≡ times a (a + s) h →
      (k : ℕ) → f ≤ k → k < o + a → zs k ≡ 0
  unfolding z
  run_start h is k far near = by (cases_lt k t)
    where
      by : (k < t) ⊎ (t ≤ k) → zs k ≡ 0
      by (inl less) =
          let l = run.low in
          let e : ℕ = k - o in
          let place : o + e ≡ k = omega arith in
          at_place zs k (o + e) (sym place) ∙ sym (r_at e)
          ∙ same_words z r (raised a h) s (t - o) (t - o) runs (is ∙ times_is a s h) e (omega arith)
          ∙ raised_below a h e (omega arith)
      by (inr more) = run.above k more ∙ run.x_above k more

pub times_of : (p q a s : ℕ) (x : ℕ → ℕ) → a ≡ min p q → s ≡ max p q - a → times p q x ≡ times a (a + s) x
times_of p q a s x h k = by (cases_lt p q)
  where
    both : (p' q' : ℕ) → p' ≡ a → q' ≡ a + s → times p' q' x ≡ times a (a + s) x
    both p' q' e e' = ap (λ n. times n q' x) e ∙ ap (λ n. times a n x) e'

    by : (p < q) ⊎ (q ≤ p) → times p q x ≡ times a (a + s) x
    by (inl less) = both p q (omega arith) (omega arith)
    by (inr more) = times-comm p q x ∙ both q p (omega arith) (omega arith)

-- zs are the words xs with those of ys from f to t added from place o + u + (f - p) on
pub record IsAdded (xs ys zs : ℕ → ℕ) (o p u f t : ℕ) : Type 0 where
  pub low : p ≤ f
  pub order : f ≤ t
  pub y_below : (k : ℕ) → k < f → ys k ≡ 0
  pub y_above : (k : ℕ) → t ≤ k → ys k ≡ 0
  pub inside : (k : ℕ) → f + k < t → zs (o + u + (f - p) + k) ≡ bit_xor (xs (o + u + (f - p) + k)) (ys (f + k))
  pub below : (k : ℕ) → k < o + u + (f - p) → zs k ≡ xs k
  pub above : (k : ℕ) → o + u + (f - p) + (t - f) ≤ k → zs k ≡ xs k

pub added_raised : (xs ys zs : ℕ → ℕ) (o p u f t : ℕ) → IsAdded xs ys zs o p u f t →
    from_place zs o ≡ plus (from_place xs o) (raised u (from_place ys p))
added_raised xs ys zs o p u f t add = fun_ext (λ e. by e (split u e))
  where
    place : (zs : ℕ → ℕ) (i j : ℕ) → i ≡ j → zs i ≡ zs j
    place zs i j h = ap (λ n. zs n) h

    unchanged : (e : ℕ) → zs (o + e) ≡ xs (o + e) → raised u (from_place ys p) e ≡ 0 → zs (o + e) ≡ plus (from_place xs o) (raised u (from_place ys p)) e
    unchanged e same none = same ∙ sym (plus_at (from_place xs o) (raised u (from_place ys p)) e ∙ ap (bit_xor (xs (o + e))) none ∙ xor_zero_r (xs (o + e)))

    inner : (e d : ℕ) → e ≡ u + d → (p + d < f) ⊎ (f ≤ p + d) → (p + d < t) ⊎ (t ≤ p + d) → zs (o + e) ≡ plus (from_place xs o) (raised u (from_place ys p)) e
    inner e d h (inl low) _ =
        let l = add.low in
        unchanged e (add.below (o + e) (omega arith)) (raised_at u (from_place ys p) e d h ∙ add.y_below (p + d) low)
    inner e d h (inr high) (inr far) =
        let l = add.low in
        let g = add.order in
        unchanged e (add.above (o + e) (omega arith)) (raised_at u (from_place ys p) e d h ∙ add.y_above (p + d) far)
    inner e d h (inr high) (inl near) =
        let l = add.low in
        let k : ℕ = p + d - f in
        let x : o + u + (f - p) + k ≡ o + e = omega arith in
        let y : f + k ≡ p + d = omega arith in
        place zs (o + e) (o + u + (f - p) + k) (sym x) ∙ add.inside k (omega arith)
        ∙ ap (λ w. bit_xor w (ys (f + k))) (place xs (o + u + (f - p) + k) (o + e) x)
        ∙ ap (bit_xor (xs (o + e))) (place ys (f + k) (p + d) y ∙ sym (raised_at u (from_place ys p) e d h))
        ∙ sym (plus_at (from_place xs o) (raised u (from_place ys p)) e)

    by : (e : ℕ) → (e < u) ⊎ ((d : ℕ) × (e ≡ u + d)) → zs (o + e) ≡ plus (from_place xs o) (raised u (from_place ys p)) e
    by e (inl h) = unchanged e (add.below (o + e) (omega arith)) (raised_below u (from_place ys p) e h)
    by e (inr (d, h)) = inner e d h (cases_lt (p + d) f) (cases_lt (p + d) t)

-- where both words are zero, so is their sum
pub added_zero : (xs ys zs : ℕ → ℕ) (o p u f t : ℕ) → IsAdded xs ys zs o p u f t → (k : ℕ) → xs k ≡ 0 →
    (o + u + (f - p) ≤ k → ys (f + (k - (o + u + (f - p)))) ≡ 0) → zs k ≡ 0
added_zero xs ys zs o p u f t add k x y = by (cases_lt k (o + u + (f - p))) (cases_lt (f + (k - (o + u + (f - p)))) t)
  where
    place : (zs : ℕ → ℕ) (i j : ℕ) → i ≡ j → zs i ≡ zs j
    place zs i j h = ap (λ n. zs n) h

    by : (k < o + u + (f - p)) ⊎ (o + u + (f - p) ≤ k) → (f + (k - (o + u + (f - p))) < t) ⊎ (t ≤ f + (k - (o + u + (f - p)))) → zs k ≡ 0
    by (inl low) _ = add.below k low ∙ x
    by (inr high) (inr far) = add.above k (let g = add.order in omega arith) ∙ x
    by (inr high) (inl near) =
        let at : ℕ = o + u + (f - p) in
        let n : ℕ = k - at in
        let e : at + n ≡ k = omega arith in
        place zs k (at + n) (sym e) ∙ add.inside n near
        ∙ ap (λ w. bit_xor w (ys (f + n))) (place xs (at + n) k e ∙ x) ∙ ap (bit_xor 0) (y high) ∙ xor_zero_r 0
