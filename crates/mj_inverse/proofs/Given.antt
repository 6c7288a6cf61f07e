-- A row is given out, once the words before it and behind it were tested.
use Rattle.std.proofs.Common.{◌≡◌, ℕ, ◌+◌, ◌-◌, ◌*◌, ◌<◌, ◌≤◌, min, max, refl, sym, ap, ◌∙◌, arith, ◌⊎◌, inl, inr}
use Rattle.std.proofs.lemmas.Bool.{cases_lt}
use mathlib.Core.Path.{fun_ext}
use Rattle.mj_inverse_sums.specs.Polynomials.{raised}
use Rattle.mj_inverse.specs.Rows.{cut}
use Rattle.mj_inverse_sums.proofs.Algebra.{split, raised_below, raised_at}
use Rattle.mj_inverse_sums.proofs.Taken.{place_below}
use Rattle.mj_inverse.proofs.Blocks.{cut_in, cut_out}
use Rattle.mj_inverse.proofs.Rowed.{cut-same}

-- s and e are the ends of the row, f and t those of all words a, of which word 0 stands at place o
module _ (unit s e f t o at cols j : ℕ) (a : ℕ → ℕ) (h : j < unit) (start : s ≡ o + at) (end : e ≡ s + cols) where
  module _ (below : (k j : ℕ) → k < f → j < unit → a (unit * k + j) ≡ 0) (above : (k j : ℕ) → t ≤ k → j < unit → a (unit * k + j) ≡ 0) where
    -- words that are zero before and behind a row are a row
    pub only_row : ((k : ℕ) → min f s ≤ k → k < s → a (unit * k + j) ≡ 0) → ((k : ℕ) → e ≤ k → k < max t e → a (unit * k + j) ≡ 0) →
        (λ x. a (unit * (o + x) + j)) ≡ raised at (cut cols (λ k. a (unit * (s + k) + j)))
    only_row before behind = fun_ext (λ x. by x (split at x))
      where
        in_front : (k : ℕ) → k < s → (k < f) ⊎ (f ≤ k) → a (unit * k + j) ≡ 0
        in_front k l (inl less) = below k j less h
        in_front k l (inr more) = before k (omega arith) l

        after : (k : ℕ) → e ≤ k → (k < t) ⊎ (t ≤ k) → a (unit * k + j) ≡ 0
        after k l (inl less) = behind k l (omega arith)
        after k l (inr more) = above k j more h

        inner : (x n : ℕ) → x ≡ at + n → (n < cols) ⊎ (cols ≤ n) → a (unit * (o + x) + j) ≡ raised at (cut cols (λ k. a (unit * (s + k) + j))) x
        inner x n is (inl near) =
            ap (λ y. a (unit * y + j)) (let y : o + x ≡ s + n = omega arith in y)
            ∙ sym (raised_at at (cut cols (λ k. a (unit * (s + k) + j))) x n is ∙ cut_in cols (λ k. a (unit * (s + k) + j)) n near)
        inner x n is (inr far) =
            after (o + x) (omega arith) (cases_lt (o + x) t)
            ∙ sym (raised_at at (cut cols (λ k. a (unit * (s + k) + j))) x n is ∙ cut_out cols (λ k. a (unit * (s + k) + j)) n far)

        by : (x : ℕ) → (x < at) ⊎ ((n : ℕ) × (x ≡ at + n)) → a (unit * (o + x) + j) ≡ raised at (cut cols (λ k. a (unit * (s + k) + j))) x
        by x (inl l) = in_front (o + x) (omega arith) (cases_lt (o + x) f) ∙ sym (raised_below at (cut cols (λ k. a (unit * (s + k) + j))) x l)
        by x (inr (n, l)) = inner x n l (cases_lt n cols)

  module _ (w : ℕ → ℕ) (row : (λ x. a (unit * (o + x) + j)) ≡ raised at (cut cols w)) where
    word_is : (k x : ℕ) → k ≡ o + x → a (unit * k + j) ≡ raised at (cut cols w) x
    word_is k x is = ap (λ n. a (unit * n + j)) is ∙ ap (λ (g : ℕ → ℕ). g x) row

    -- a row has no words before it
    pub none_before : o ≤ f → ((k j : ℕ) → k < f → j < unit → a (unit * k + j) ≡ 0) → (k : ℕ) → min f s ≤ k → k < s → a (unit * k + j) ≡ 0
    none_before low below k from l = by (cases_lt k o)
      where
        by : (k < o) ⊎ (o ≤ k) → a (unit * k + j) ≡ 0
        by (inl less) = below k j (omega arith) h
        by (inr more) = word_is k (k - o) (omega arith) ∙ raised_below at (cut cols w) (k - o) (omega arith)

    -- and none behind it
    pub none_behind : (k : ℕ) → e ≤ k → a (unit * k + j) ≡ 0
    none_behind k l =
        word_is k (k - o) (omega arith) ∙ raised_at at (cut cols w) (k - o) (k - o - at) (omega arith) ∙ cut_out cols w (k - o - at) (omega arith)

    -- its words are those that were copied
    pub given_row : (out : ℕ → ℕ) → ((k : ℕ) → unit * s + k < unit * e → out k ≡ a (unit * s + k)) →
        (λ x. a (unit * (o + x) + j)) ≡ raised at (cut cols (λ k. out (unit * k + j)))
    given_row out given = row ∙ ap (raised at) (cut-same cols w (λ k. out (unit * k + j)) same)
      where
        same : (k : ℕ) → k < cols → w k ≡ out (unit * k + j)
        same k l =
            let place : unit * s + (unit * k + j) ≡ unit * (s + k) + j = omega arith in
            let below : unit * (s + k) + j < unit * e = place_below unit (s + k) j e h (omega arith) in
            sym (word_is (s + k) (at + k) (omega arith) ∙ raised_at at (cut cols w) (at + k) k refl ∙ cut_in cols w k l)
            ∙ ap a (sym place) ∙ sym (given (unit * k + j) (omega arith))
