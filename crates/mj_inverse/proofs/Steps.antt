-- One step of the inversion: the angle of p is divided out of each of xs, which become ys.
use Rattle.std.proofs.Common.{◌≡◌, ◌≢◌, ℕ, suc, sym, ap, ◌∙◌, arith, List, [], ◌∷◌, length}
use Rattle.mj_inverse_sums.specs.Polynomials.{plus, times, IsFinite}
use Rattle.mj_inverse.specs.Rows.{value, joined, Every, Both, HaveValues, IsDividedOut, Divides}
use Rattle.mj_inverse_sums.proofs.Algebra.{plus-nothing, plus_twice, plus-comm, times-self, times-unique}
use Rattle.mj_inverse.proofs.Divided.{value-joined, quotient, joined-quotient, length-quotient, finite-quotient, finite-value}

module _ {A : Type 0} (q : A → ℕ) (s : A → ℕ → ℕ) where
  joined_rest : (p : A) (rows : List (ℕ → ℕ)) (xs ys : List A) → Both (IsDividedOut q s p) xs ys → HaveValues q s rows ys → HaveValues q s (joined (q p) (s p) rows) xs
  joined_rest p rows [] [] both values = tt
  joined_rest p rows [] (y ∷ ys) both values = absurd both
  joined_rest p rows (x ∷ xs) [] both values = absurd both
  joined_rest p rows (x ∷ xs) (y ∷ ys) (out, both) (value_y, values) =
      let v : value (q x) rows ≡ s y = ap (λ n. value n rows) (sym out.angle) ∙ value_y in (
        value-joined (q x) (q p) (s p) rows ∙ ap (λ f. plus (s p) (times (q x) (q p) f)) v ∙ ap (plus (s p)) (sym out.exact)
            ∙ plus-comm (s p) (plus (s x) (s p)) ∙ plus_twice (s x) (s p),
        joined_rest p rows xs ys both values,
      )

  -- rows that have the divided projections give rows that have the projections before
  pub joined_values : (p : A) (rows : List (ℕ → ℕ)) (xs ys : List A) → Both (IsDividedOut q s p) xs ys → HaveValues q s rows ys → HaveValues q s (joined (q p) (s p) rows) (p ∷ xs)
  joined_values p rows xs ys both values = (
    value-joined (q p) (q p) (s p) rows ∙ ap (plus (s p)) (times-self (q p) (value (q p) rows)) ∙ plus-nothing (s p),
    joined_rest p rows xs ys both values,
  )

  -- what is left of rows that have the projections
  pub record Left (p : A) (xs : List A) (fs hs : List (ℕ → ℕ)) : Type 0 where
    pub back : joined (q p) (s p) hs ≡ fs
    pub count : length hs ≡ length xs
    pub finite : Every IsFinite hs
    pub exact : Every (λ x. plus (s x) (s p) ≡ times (q x) (q p) (value (q x) hs)) xs

  left_exact : (p : A) (fs hs : List (ℕ → ℕ)) → joined (q p) (s p) hs ≡ fs → (xs : List A) → HaveValues q s fs xs →
      Every (λ x. plus (s x) (s p) ≡ times (q x) (q p) (value (q x) hs)) xs
  left_exact p fs hs back [] values = tt
  left_exact p fs hs back (x ∷ xs) (v, values) =
      let t : ℕ → ℕ = times (q x) (q p) (value (q x) hs) in (
        ap (λ f. plus f (s p)) (sym v ∙ ap (value (q x)) (sym back) ∙ value-joined (q x) (q p) (s p) hs ∙ plus-comm (s p) t) ∙ plus_twice t (s p),
        left_exact p fs hs back xs values,
      )

  pub left_of : (p : A) (xs : List A) (fs : List (ℕ → ℕ)) → length fs ≡ suc (length xs) → Every IsFinite fs → HaveValues q s fs (p ∷ xs) → Left p xs fs (quotient (q p) fs)
  left_of p xs [] long finite values = absurd (cc)
  left_of p xs (f ∷ fs) long finite (v, values) =
      let back : joined (q p) (s p) (quotient (q p) (f ∷ fs)) ≡ f ∷ fs =
      ap (λ c. joined (q p) c (quotient (q p) (f ∷ fs))) (sym v) ∙ joined-quotient (q p) f fs in
      record {
        back = back;
        count = length-quotient (q p) f fs ∙ (let e : suc (length fs) ≡ suc (length xs) = long in omega arith);
        finite = finite-quotient (q p) (f ∷ fs) finite;
        exact = left_exact p (f ∷ fs) (quotient (q p) (f ∷ fs)) back xs values;
      }

  -- each can be divided
  pub left_divides : (p : A) (hs : List (ℕ → ℕ)) → Every IsFinite hs → (xs : List A) →
      Every (λ x. plus (s x) (s p) ≡ times (q x) (q p) (value (q x) hs)) xs → Every (Divides q s p) xs
  left_divides p hs finite [] exact = tt
  left_divides p hs finite (x ∷ xs) (e, exact) = ((value (q x) hs, finite-value (q x) hs finite, e), left_divides p hs finite xs exact)

  -- and what comes of the divisions has these rows
  pub left_values : (p : A) (hs : List (ℕ → ℕ)) (xs ys : List A) → Every (λ x. q x ≢ q p) xs → Both (IsDividedOut q s p) xs ys →
      Every (λ x. plus (s x) (s p) ≡ times (q x) (q p) (value (q x) hs)) xs → HaveValues q s hs ys
  left_values p hs [] [] differ both exact = tt
  left_values p hs [] (y ∷ ys) differ both exact = absurd both
  left_values p hs (x ∷ xs) [] differ both exact = absurd both
  left_values p hs (x ∷ xs) (y ∷ ys) (ne, differ) (out, both) (e, exact) = (
    ap (λ n. value n hs) out.angle ∙ times-unique (q x) (q p) (value (q x) hs) (s y) ne (sym e ∙ out.exact),
    left_values p hs xs ys differ both exact,
  )
