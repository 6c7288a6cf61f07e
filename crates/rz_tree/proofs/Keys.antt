-- What a map has after an insertion or a removal, by cases.
use Rattle.std.proofs.Common.{◌≡◌, Bool, true, false, cond, Option, Some, None, is_some, Ordering, ap, ◌∙◌, refl, inl, inr, ◌⊎◌}
use Rattle.std.specs.declared.cmp.Ordering.TheVariants.{Less, Equal, Greater}
use Rattle.std.specs.Ordering.{is_eq, eq_by_cmp}
use Rattle.std.specs.Cmp.{IsTotalOrder, tied_itself}
use Rattle.std.specs.FinMap as maps
use Rattle.std.specs.FinMap.{FinMap, IsAntisymmetric, get-insert, get-remove}
use Rattle.rz_export_model.proofs.Tests.{eq_true}

pub same_some : {A : Type 0} (x y : A) → Some x ≡ Some y → x ≡ y
same_some {A} x y h = ap (λ o. first_or o x) h
  where
    first_or : Option A → A → A
    first_or None d = d
    first_or (Some v) d = v

pub not_none : {A : Type 0} (x : A) → Some x ≡ None → ⊥
not_none x h = let never : true ≡ false = ap is_some h in cc

pub false-true : false ≡ true → ⊥
false-true h = cc

pub some-there : {A : Type 0} (o : Option A) (x : A) → o ≡ Some x → is_some o ≡ true
some-there o x h = ap is_some h

-- what is there, with the equation
pub held : {A : Type 0} (o : Option A) → is_some o ≡ true → (x : A) × (o ≡ Some x)
held None h = absurd (false-true h)
held (Some x) h = (x, refl)

pub none-or-some : {A : Type 0} (o : Option A) → (o ≡ None) ⊎ ((x : A) × (o ≡ Some x))
none-or-some None = inl refl
none-or-some (Some x) = inr (x, refl)

pub true-or-false : (b : Bool) → (b ≡ true) ⊎ (b ≡ false)
true-or-false true = inl refl
true-or-false false = inr refl

module _ {K : Type 0} {R : K → K → Ordering} (o : IsTotalOrder R) (exact : IsAntisymmetric R) where
  -- two keys are one, or do not tie
  pub one-or-two : (a b : K) → (a ≡ b) ⊎ (eq_by_cmp R a b ≡ false)
  one-or-two a b = elim (true-or-false (eq_by_cmp R a b)) [
    | inl is ↦ inl (exact a b (eq_true _ is))
    | inr is ↦ inr is
  ]

  pub ties-itself : (a : K) → eq_by_cmp R a a ≡ true
  ties-itself a = ap is_eq (tied_itself o a)

  pub apart : (a b : K) → (a ≡ b → ⊥) → eq_by_cmp R a b ≡ false
  apart a b h = elim (one-or-two a b) [ inl is ↦ absurd (h is) | inr is ↦ is ]

  module _ {X : Type 0} (m : FinMap R X) where
    pub get-inserted : (k : K) (v : X) → maps.get (maps.insert m k v) k ≡ Some v
    get-inserted k v = get-insert o m k v k ∙ ap (λ b. cond b (Some v) (maps.get m k)) (ties-itself k)

    pub get-beside : (k : K) (v : X) (q : K) → eq_by_cmp R q k ≡ false → maps.get (maps.insert m k v) q ≡ maps.get m q
    get-beside k v q other = get-insert o m k v q ∙ ap (λ b. cond b (Some v) (maps.get m q)) other

    pub get-removed : (k : K) → maps.get (maps.remove m k) k ≡ None
    get-removed k = get-remove o m k k ∙ ap (λ b. cond b None (maps.get m k)) (ties-itself k)

    pub get-left : (k q : K) → eq_by_cmp R q k ≡ false → maps.get (maps.remove m k) q ≡ maps.get m q
    get-left k q other = get-remove o m k q ∙ ap (λ b. cond b None (maps.get m q)) other
