-- Two rows, place by place.
use Rattle.std.proofs.Common.{◌≡◌, suc, List, [], ◌∷◌, ◌++◌, length, refl, ap}
use Rattle.std.specs.List.{AllByRecursion, AllZip}

module _ {A B : Type 0} (R : A → B → Type 0) where
  -- with one more at the end of each
  pub zip-more : (xs : List A) (ys : List B) (x : A) (y : B) → AllZip R xs ys → R x y → AllZip R (xs ++ x ∷ []) (ys ++ y ∷ [])
  zip-more [] [] x y all here = (here, tt)
  zip-more [] (b ∷ ys) x y all here = absurd all
  zip-more (a ∷ xs) [] x y all here = absurd all
  zip-more (a ∷ xs) (b ∷ ys) x y all here = (all.0, zip-more xs ys x y all.1 here)

  pub zip-length : (xs : List A) (ys : List B) → AllZip R xs ys → length xs ≡ length ys
  zip-length [] [] all = refl
  zip-length [] (b ∷ ys) all = absurd all
  zip-length (a ∷ xs) [] all = absurd all
  zip-length (a ∷ xs) (b ∷ ys) all = ap suc (zip-length xs ys all.1)

  -- what each of the second row has by the relation
  pub zip-second : (P : B → Type 0) (xs : List A) (ys : List B) → ((x : A) (y : B) → R x y → P y) → AllZip R xs ys → AllByRecursion P ys
  zip-second P [] [] each all = tt
  zip-second P [] (b ∷ ys) each all = absurd all
  zip-second P (a ∷ xs) [] each all = absurd all
  zip-second P (a ∷ xs) (b ∷ ys) each all = (each a b all.0, zip-second P xs ys each all.1)

-- one relation and then another
pub zip-through : {A B C : Type 0} (R : A → B → Type 0) (S : B → C → Type 0) (Q : A → C → Type 0) (xs : List A) (ys : List B) (zs : List C) → ((x : A) (y : B) (z : C) → R x y → S y z → Q x z)
    → AllZip R xs ys → AllZip S ys zs → AllZip Q xs zs
zip-through R S Q [] [] [] each one two = tt
zip-through R S Q [] [] (z ∷ zs) each one two = absurd two
zip-through R S Q [] (y ∷ ys) zs each one two = absurd one
zip-through R S Q (x ∷ xs) [] zs each one two = absurd one
zip-through R S Q (x ∷ xs) (y ∷ ys) [] each one two = absurd two
zip-through R S Q (x ∷ xs) (y ∷ ys) (z ∷ zs) each one two = (each x y z one.0 two.0, zip-through R S Q xs ys zs each one.1 two.1)
