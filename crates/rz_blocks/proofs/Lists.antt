-- Lists that are cut, and tests on them.
use Rattle.std.proofs.Common.{◌≡◌, ℕ, zero, suc, ◌+◌, Bool, true, false, List, [], ◌∷◌, ◌++◌, Option, Some, None, take, drop, sym, ap, ◌∙◌, refl, arith}
use Rattle.std.specs.Prelude.{◌||◌, MatchOption}
use Rattle.std.specs.List.{list_any, slice_get}
use Rattle.std.proofs.lemmas.List.{take-append-drop}
use Rattle.std.proofs.lemmas.List.Folds.{list_any-append}

zero-add : (i : ℕ) → 0 + i ≡ i
zero-add i = omega arith

suc-add : (n i : ℕ) → suc n + i ≡ suc (n + i)
suc-add n i = omega arith

module _ {X : Type 0} where
  -- an item with those before and behind it
  pub around : (xs : List X) (i : ℕ) (x : X) → slice_get xs i ≡ Some x → xs ≡ take i xs ++ x ∷ drop (suc i) xs
  around [] i x h = cc
  around (y ∷ xs) zero x h = ap (λ z. z ∷ xs) (same h)
    where
      same : Some y ≡ Some x → y ≡ x
      same h = cc
  around (y ∷ xs) (suc i) x h = ap (λ l. y ∷ l) (around xs i x h)

  pub from-item : (xs : List X) (i : ℕ) (x : X) → slice_get xs i ≡ Some x → drop i xs ≡ x ∷ drop (suc i) xs
  from-item [] i x h = cc
  from-item (y ∷ xs) zero x h = ap (λ z. z ∷ xs) (same h)
    where
      same : Some y ≡ Some x → y ≡ x
      same h = cc
  from-item (y ∷ xs) (suc i) x h = from-item xs i x h

  pub past : (xs : List X) (i : ℕ) → slice_get xs i ≡ None → drop i xs ≡ []
  past [] zero h = refl
  past [] (suc i) h = refl
  past (y ∷ xs) zero h = cc
  past (y ∷ xs) (suc i) h = past xs i h

  pub item-behind : (xs : List X) (n i : ℕ) → slice_get (drop n xs) i ≡ slice_get xs (n + i)
  item-behind xs zero i = ap (slice_get xs) (sym (zero-add i))
  item-behind [] (suc n) i = refl
  item-behind (y ∷ xs) (suc n) i = item-behind xs n i ∙ ap (slice_get (y ∷ xs)) (sym (suc-add n i))

  pub any-cut : (p : X → Bool) (xs : List X) (i : ℕ) → list_any p xs ≡ (list_any p (take i xs) || list_any p (drop i xs))
  any-cut p xs i = ap (list_any p) (sym (take-append-drop i xs)) ∙ list_any-append p (take i xs) (drop i xs)

  pub any-behind : (p : X → Bool) (a b : List X) → list_any p a ≡ false → list_any p (a ++ b) ≡ list_any p b
  any-behind p a b ha = list_any-append p a b ∙ ap (λ t. t || list_any p b) ha

  -- the only item that may pass
  pub any-only : (p : X → Bool) (a : List X) (x : X) (b : List X) → list_any p a ≡ false → list_any p b ≡ false → list_any p (a ++ x ∷ b) ≡ p x
  any-only p a x b ha hb = any-behind p a (x ∷ b) ha ∙ ap (λ t. p x || t) hb ∙ or-false (p x)
    where
      or-false : (t : Bool) → (t || false) ≡ t
      or-false true = refl
      or-false false = refl

  -- an item that is put in
  pub any-inserted : (p : X → Bool) (xs : List X) (i : ℕ) (x : X) → list_any p (take i xs ++ x ∷ drop i xs) ≡ (list_any p xs || p x)
  any-inserted p xs i x =
      list_any-append p (take i xs) (x ∷ drop i xs) ∙ turn (list_any p (take i xs)) (p x) (list_any p (drop i xs)) ∙ ap (λ t. t || p x) (sym (any-cut p xs i))
    where
      turn : (a b c : Bool) → (a || (b || c)) ≡ ((a || c) || b)
      turn true b c = refl
      turn false true true = refl
      turn false true false = refl
      turn false false true = refl
      turn false false false = refl

  -- an item in the place of another
  pub any-replaced : (p : X → Bool) (a : List X) (x y : X) (b : List X) → p x ≡ p y → list_any p (a ++ x ∷ b) ≡ list_any p (a ++ y ∷ b)
  any-replaced p a x y b h = list_any-append p a (x ∷ b) ∙ ap (λ t. list_any p a || (t || list_any p b)) h ∙ sym (list_any-append p a (y ∷ b))

pub match-then : {X : Type 0} {P P' : Type 0} {Q Q' : X → Type 0} (o : Option X) → MatchOption o P Q → (P → P') → ((x : X) → Q x → Q' x) → MatchOption o P' Q'
match-then None h none some = none h
match-then (Some x) h none some = some x h
