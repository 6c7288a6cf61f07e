-- Two lists, place by place.
use Rattle.std.proofs.Common.{◌≡◌, ℕ, zero, suc, ◌<◌, List, [], ◌∷◌, ◌++◌, map, reverse, length, get_or, Some, refl, sym, ◌∙◌, ap, arith, append_assoc}
use Rattle.std.proofs.lemmas.List.{map-append, reverse-append}
use Rattle.std.specs.Prelude.{slice_get}
use Rattle.std.specs.List.{AllByRecursion, AllZip, zip}

module _ {A B : Type 0} (R : A → B → Type 0) where
  -- with two elements between the rest
  pub zip-mid : (xs : List A) (ys : List B) (x : A) (y : B) (us : List A) (vs : List B) → AllZip R xs ys → R x y → AllZip R us vs → AllZip R (xs ++ x ∷ us) (ys ++ y ∷ vs)
  zip-mid [] [] x y us vs all holds rest = (holds, rest)
  zip-mid [] (b ∷ ys) x y us vs all holds rest = absurd all
  zip-mid (a ∷ xs) [] x y us vs all holds rest = absurd all
  zip-mid (a ∷ xs) (b ∷ ys) x y us vs all holds rest = (all.0, zip-mid xs ys x y us vs all.1 holds rest)

  -- with two more
  pub zip-more : (xs : List A) (ys : List B) (x : A) (y : B) → AllZip R xs ys → R x y → AllZip R (xs ++ x ∷ []) (ys ++ y ∷ [])
  zip-more xs ys x y all holds = zip-mid xs ys x y [] [] all holds tt

  pub zip-length : (xs : List A) (ys : List B) → AllZip R xs ys → length xs ≡ length ys
  zip-length [] [] all = refl
  zip-length [] (b ∷ ys) all = absurd all
  zip-length (a ∷ xs) [] all = absurd all
  zip-length (a ∷ xs) (b ∷ ys) all = ap suc (zip-length xs ys all.1)

pub zip-map : {A B C : Type 0} (R : A → B → Type 0) (Q : A → C → Type 0) (f : B → C) (xs : List A) (ys : List B) → ((x : A) (y : B) → R x y → Q x (f y)) → AllZip R xs ys → AllZip Q xs (map f ys)
zip-map R Q f [] [] each all = tt
zip-map R Q f [] (y ∷ ys) each all = absurd all
zip-map R Q f (x ∷ xs) [] each all = absurd all
zip-map R Q f (x ∷ xs) (y ∷ ys) each all = (each x y all.0, zip-map R Q f xs ys each all.1)

-- each with itself
pub zip-same : {A B : Type 0} (Q : A × B → B → Type 0) (xs : List A) (ys : List B) → length ys ≡ length xs → ((x : A) (y : B) → Q (x, y) y) → AllZip Q (zip xs ys) ys
zip-same Q [] [] count each = tt
zip-same Q [] (y ∷ ys) count each = absurd (omega (arith, count))
zip-same Q (x ∷ xs) [] count each = absurd (omega (arith, count))
zip-same Q (x ∷ xs) (y ∷ ys) count each = (each x y, zip-same Q xs ys (omega (arith, count)) each)

-- the element behind a beginning
pub get-behind : {A : Type 0} (xs : List A) (x : A) (ys : List A) → slice_get (xs ++ x ∷ ys) (length xs) ≡ Some x
get-behind [] x ys = refl
get-behind (a ∷ xs) x ys = get-behind xs x ys

pub all-push : {A : Type 0} (P : A → Type 0) (xs : List A) (x : A) → AllByRecursion P xs → P x → AllByRecursion P (xs ++ x ∷ [])
all-push P [] x all holds = (holds, tt)
all-push P (a ∷ xs) x all holds = (all.0, all-push P xs x all.1 holds)

pub all-get : {A : Type 0} (P : A → Type 0) (xs : List A) (i : ℕ) (d : A) → AllByRecursion P xs → i < length xs → P (get_or xs i d)
all-get P [] i d all low = absurd (omega (arith, low))
all-get P (x ∷ xs) zero d all low = all.0
all-get P (x ∷ xs) (suc i) d all low = all-get P xs i d all.1 (omega (arith, low))

-- one goes back from the end of a row to the end of a pile
pub one-back : {A B : Type 0} (f : A → B) (row rest : List A) (x : A) (pile pile' : List B) (whole : List B) → row ≡ rest ++ x ∷ [] → pile' ≡ pile ++ f x ∷ [] → map f row ++ reverse pile ≡ whole → map f rest ++ reverse pile' ≡ whole
one-back f row rest x pile pile' whole row_is pile_is all =
    let shape : map f row ≡ map f rest ++ f x ∷ [] = ap (map f) row_is ∙ map-append f rest (x ∷ []) in
    ap (λ ys. map f rest ++ ys) (ap reverse pile_is ∙ reverse-append pile (f x ∷ []))
    ∙ sym (append_assoc (map f rest) (f x ∷ []) (reverse pile))
    ∙ ap (λ ys. ys ++ reverse pile) (sym shape)
    ∙ all
