-- Two lists of one length, taken from their ends.
use Rattle.std.proofs.Common.{◌≡◌, suc, List, [], ◌∷◌, ◌++◌, length, refl, ap, subst}
use Rattle.std.specs.List.{AllZip}

module _ {A B : Type 0} (R : A → B → Type 0) where
  -- without the last of each
  pub zip-front : (xs : List A) (ys : List B) (x : A) (y : B) → AllZip R (xs ++ x ∷ []) (ys ++ y ∷ []) → AllZip R xs ys
  zip-front [] [] x y all = tt
  zip-front [] (b ∷ []) x y all = absurd all.1
  zip-front [] (b ∷ c ∷ ys) x y all = absurd all.1
  zip-front (a ∷ []) [] x y all = absurd all.1
  zip-front (a ∷ c ∷ xs) [] x y all = absurd all.1
  zip-front (a ∷ xs) (b ∷ ys) x y all = (all.0, zip-front xs ys x y all.1)

  -- the last of each
  pub zip-last : (xs : List A) (ys : List B) (x : A) (y : B) → AllZip R (xs ++ x ∷ []) (ys ++ y ∷ []) → R x y
  zip-last [] [] x y all = all.0
  zip-last [] (b ∷ []) x y all = absurd all.1
  zip-last [] (b ∷ c ∷ ys) x y all = absurd all.1
  zip-last (a ∷ []) [] x y all = absurd all.1
  zip-last (a ∷ c ∷ xs) [] x y all = absurd all.1
  zip-last (a ∷ xs) (b ∷ ys) x y all = zip-last xs ys x y all.1

  -- the pair that was taken, and the others
  pub both-popped : (xs xs' : List A) (ys ys' : List B) (x : A) (y : B) → xs ≡ xs' ++ x ∷ [] → ys ≡ ys' ++ y ∷ [] → AllZip R xs ys → AllZip R xs' ys' × R x y
  both-popped xs xs' ys ys' x y is js all =
      let whole : AllZip R (xs' ++ x ∷ []) (ys' ++ y ∷ []) = subst (AllZip R (xs' ++ x ∷ [])) js (subst (λ (l : List A). AllZip R l ys) is all) in
      (zip-front xs' ys' x y whole, zip-last xs' ys' x y whole)

  pub zip-lengths : (xs : List A) (ys : List B) → AllZip R xs ys → length xs ≡ length ys
  zip-lengths [] [] all = refl
  zip-lengths [] (y ∷ ys) all = absurd all
  zip-lengths (x ∷ xs) [] all = absurd all
  zip-lengths (x ∷ xs) (y ∷ ys) all = ap suc (zip-lengths xs ys all.1)
