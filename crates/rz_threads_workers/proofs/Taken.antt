-- Rows that are gone through one by one.
use Rattle.std.proofs.Common.{◌≡◌, ◌<◌, ◌+◌, ◌≤◌, ℕ, zero, suc, List, [], ◌∷◌, ◌++◌, map, take, length, get_or, refl, sym, ap, ◌∙◌, subst, arith, append-nil, append_assoc, length-append}
use Rattle.std.proofs.lemmas.List.{length-map, map-append, take_more}
use Rattle.std.specs.List.{AllByRecursion}

module _ {A : Type 0} (P : A → Type 0) where
  all-and : (xs : List A) (x : A) → AllByRecursion P xs → P x → AllByRecursion P (xs ++ x ∷ [])
  all-and [] x all here = (here, tt)
  all-and (y ∷ xs) x all here = (all.0, all-and xs x all.1 here)

  -- one more of the row
  pub all-next : (xs : List A) (i : ℕ) (x : A) → i < length xs → x ≡ get_or xs i x → AllByRecursion P (take i xs) → P x → AllByRecursion P (take (i + 1) xs)
  all-next xs i x within is all here =
      subst (AllByRecursion P) (sym (take_more xs i x within ∙ ap (λ (y : A). take i xs ++ y ∷ []) (sym is))) (all-and (take i xs) x all here)

  -- each of the row
  pub all-at : (xs : List A) (i : ℕ) (x : A) → i < length xs → x ≡ get_or xs i x → AllByRecursion P xs → P x
  all-at [] i x within is all = absurd (omega (arith, within))
  all-at (y ∷ xs) zero x within is all = subst P (sym is) all.0
  all-at (y ∷ xs) (suc i) x within is all = all-at xs i x (omega (arith, within)) is all.1

module _ {A : Type 0} where
  -- the first of the row were taken, and of each of them one thing
  pub record Taken {B : Type 0} (f : A → B) (all rest : List A) (gone : List B) : Type 0 where
    pub taken : List A
    pub split : all ≡ taken ++ rest
    pub are : gone ≡ map f taken

  module _ {B : Type 0} (f : A → B) where
    pub taken-first : (all rest : List A) (gone : List B) → rest ≡ all → length gone ≡ 0 → Taken f all rest gone
    taken-first all rest [] same none = record { taken = []; split = sym same; are = refl }
    taken-first all rest (b ∷ gone) same none = absurd (omega (arith, none))

    pub taken-more : (all rest rest' : List A) (x : A) (gone gone' : List B) (y : B) → rest ≡ x ∷ rest' → gone' ≡ gone ++ y ∷ [] → y ≡ f x → Taken f all rest gone → Taken f all rest' gone'
    taken-more all rest rest' x gone gone' y is more here s = record {
      taken = s.taken ++ x ∷ [];
      split = s.split ∙ (ap (λ (xs : List A). s.taken ++ xs) is ∙ sym (append_assoc s.taken (x ∷ []) rest'));
      are = more ∙ (ap (λ (ys : List B). ys ++ y ∷ []) s.are ∙ (ap (λ (z : B). map f s.taken ++ z ∷ []) here ∙ sym (map-append f s.taken (x ∷ []))));
    }

    -- one more has room
    pub taken-fits : (all rest rest' : List A) (x : A) (gone : List B) → rest ≡ x ∷ rest' → Taken f all rest gone → length gone + 1 ≤ length all
    taken-fits all rest rest' x gone is s =
        let long = ap length is in
        let both = ap length s.split ∙ length-append s.taken rest in
        let same = ap length s.are ∙ length-map s.taken f in
        omega (arith, long, both, same)

    pub taken-all : (all rest : List A) (gone : List B) → rest ≡ [] → Taken f all rest gone → gone ≡ map f all
    taken-all all rest gone none s = s.are ∙ ap (map f) (sym (s.split ∙ (ap (λ (xs : List A). s.taken ++ xs) none ∙ append-nil s.taken)))

pub empty : {A : Type 0} (xs : List A) → length xs ≡ 0 → xs ≡ []
empty [] none = refl
empty (x ∷ xs) none = absurd (omega (arith, none))
