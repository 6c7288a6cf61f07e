-- Lists by the places of their items.
use Rattle.std.proofs.Common.{◌≡◌, ℕ, zero, suc, ◌+◌, ◌-◌, ◌<◌, ◌≤◌, List, [], ◌∷◌, ◌++◌, length, get_or, take, drop, Some, None, slice_get, sym, ap, ◌∙◌, refl, arith, length-drop}
use Rattle.std.specs.List.{insert, remove}
use Rattle.std.proofs.Math.ListN.{drop_of_length-le}
use Rattle.std.proofs.Math.Seq.{take-suc}
use Rattle.std.proofs.lemmas.List.{take_all, get_or-drop}
use Rattle.std.proofs.lemmas.Option.{slice_get_within, get_or_from_slice_get}

module _ {X : Type 0} where
  pub drop-zero : (xs : List X) → drop 0 xs ≡ xs
  drop-zero [] = refl
  drop-zero (x ∷ xs) = refl

  -- where nothing is at a place, the list ends before it
  pub past-end : (xs : List X) (n : ℕ) → slice_get xs n ≡ None → length xs ≤ n
  past-end [] n is = omega arith
  past-end (x ∷ xs) zero is = cc
  past-end (x ∷ xs) (suc n) is = omega (arith, past-end xs n is)

  pub drop-past : (xs : List X) (n : ℕ) → slice_get xs n ≡ None → drop n xs ≡ []
  drop-past xs n is = drop_of_length-le xs (past-end xs n is)

  -- what stands at a place is the first of those from there on
  pub drop-here : (xs : List X) (n : ℕ) (x : X) → slice_get xs n ≡ Some x → drop n xs ≡ x ∷ drop (suc n) xs
  drop-here [] n x is = absurd (omega (arith, slice_get_within [] n x is))
  drop-here (y ∷ xs) zero x is = let same : y ≡ x = cc in ap (λ z. z ∷ xs) same ∙ ap (λ rest. x ∷ rest) (sym (drop-zero xs))
  drop-here (y ∷ xs) (suc n) x is = drop-here xs n x is

  -- an item that is put in, and one that is taken out
  pub insert-parts : (xs : List X) (n : ℕ) (x : X) → n ≤ length xs → take n xs ++ x ∷ drop n xs ≡ insert xs n x
  insert-parts [] zero x le = refl
  insert-parts [] (suc n) x le = absurd (omega arith)
  insert-parts (y ∷ xs) zero x le = refl
  insert-parts (y ∷ xs) (suc n) x le = ap (λ rest. y ∷ rest) (insert-parts xs n x (omega arith))

  pub remove-parts : (xs : List X) (n : ℕ) → n < length xs → take n xs ++ drop (suc n) xs ≡ remove xs n
  remove-parts [] n lt = absurd (omega arith)
  remove-parts (y ∷ xs) zero lt = drop-zero xs
  remove-parts (y ∷ xs) (suc n) lt = ap (λ rest. y ∷ rest) (remove-parts xs n (omega arith))

  -- the items from one place to another, and the next
  pub take-next : (xs : List X) (start at : ℕ) (x : X) → start ≤ at → slice_get xs at ≡ Some x → take (at + 1 - start) (drop start xs) ≡ take (at - start) (drop start xs) ++ x ∷ []
  take-next xs start at x le is =
      let within : at < length xs = slice_get_within xs at x is in
      let next : at + 1 - start ≡ suc (at - start) = omega arith in
      let there : start + (at - start) ≡ at = omega arith in
      ap (λ n. take n (drop start xs)) next ∙ take-suc (drop start xs) (at - start) x (omega (arith, length-drop start xs))
      ∙ ap (λ y. take (at - start) (drop start xs) ++ y ∷ []) (get_or-drop start xs (at - start) x ∙ ap (λ n. get_or xs n x) there ∙ get_or_from_slice_get xs at x x is)

  pub take-no_next : (xs : List X) (start at : ℕ) → start ≤ at → slice_get xs at ≡ None → take (at + 1 - start) (drop start xs) ≡ take (at - start) (drop start xs)
  take-no_next xs start at le is =
      let past : length xs ≤ at = past-end xs at is in
      take_all (at + 1 - start) (drop start xs) (omega (arith, length-drop start xs)) ∙ sym (take_all (at - start) (drop start xs) (omega (arith, length-drop start xs)))
