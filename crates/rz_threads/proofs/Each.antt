-- What is so at each place of two lists is so of both, and what is so of a list is so at each of its places.
use Rattle.std.proofs.Common.{ℕ, ◌≡◌, ◌<◌, ◌++◌, length, List, [], ◌∷◌, slice_index_or, zero, suc, arith}
use Rattle.std.specs.List.{AllByRecursion, AllZip}

pub all-zip : {X : Type 0} (R : X → X → Type 0) (xs ys : List X) → length ys ≡ length xs → ((i : ℕ) (d : X) → i < length xs → R (slice_index_or xs i d) (slice_index_or ys i d)) → AllZip R xs ys
all-zip R [] [] len at = tt
all-zip R [] (y ∷ ys) len at = let no : ⊥ = omega arith in absurd no
all-zip R (x ∷ xs) [] len at = let no : ⊥ = omega arith in absurd no
all-zip R (x ∷ xs) (y ∷ ys) len at = (at 0 x (omega arith), all-zip R xs ys (omega arith) (λ i d lt. at (suc i) d (omega arith)))

pub at-place : {X : Type 0} (P : X → Type 0) (xs : List X) (i : ℕ) (d : X) → i < length xs → AllByRecursion P xs → P (slice_index_or xs i d)
at-place P [] i d lt all = let no : ⊥ = omega (arith, lt) in absurd no
at-place P (x ∷ xs) zero d lt all = all.0
at-place P (x ∷ xs) (suc i) d lt all = at-place P xs i d (omega (arith, lt)) all.1

pub zip-both : {X : Type 0} (R : X → X → Type 0) (xs xs' ys ys' : List X) → AllZip R xs xs' → AllZip R ys ys' → AllZip R (xs ++ ys) (xs' ++ ys')
zip-both R [] [] ys ys' front back = back
zip-both R [] (x' ∷ xs') ys ys' front back = absurd front
zip-both R (x ∷ xs) [] ys ys' front back = absurd front
zip-both R (x ∷ xs) (x' ∷ xs') ys ys' front back = (front.0, zip-both R xs xs' ys ys' front.1 back)
