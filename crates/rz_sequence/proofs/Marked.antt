-- The first place from a place on whose item passes a test, in a list with an item x in the middle.
use Rattle.std.proofs.Common.{◌≡◌, ℕ, suc, ◌+◌, ◌-◌, ◌<◌, ◌≤◌, Bool, true, false, ◌||◌, List, ◌∷◌, ◌++◌, length, take, drop, Option, Some, None, refl, ap, sym, ◌∙◌, length-drop, inl, inr, arith}
use Rattle.std.specs.List.{list_any, slice_get}
use Rattle.std.specs.Option.{option_map}
use Rattle.std.proofs.lemmas.Bool.{or_parts, cases_lt}
use Rattle.std.proofs.lemmas.List.{take-append-le, drop-append-le, take_at, drop_all, take-append-drop}
use Rattle.std.proofs.lemmas.List.Folds.{list_any-append}
use Rattle.std.proofs.lemmas.Option.{none-some, slice_get_within}
use Rattle.rz_sequence.proofs.Places.{take_past, drop_past, get_past, get_front}

-- i is that place
pub record IsNext {X : Type 0} (test : X → Bool) (from : ℕ) (items : List X) (i : ℕ) : Type 0 where
  pub from_there : from ≤ i
  pub passes : option_map test (slice_get items i) ≡ Some true
  pub none_before : list_any test (take (i - from) (drop from items)) ≡ false

some_passes : {X : Type 0} (test : X → Bool) (o : Option X) → option_map test o ≡ Some true → (x : X) × (o ≡ Some x)
some_passes test None e = absurd (none-some true e)
some_passes test (Some x) e = (x, refl)

pub within : {X : Type 0} (test : X → Bool) (items : List X) (i : ℕ) → option_map test (slice_get items i) ≡ Some true → i < length items
within test items i e = let s = some_passes test (slice_get items i) e in slice_get_within items i s.0 s.1

-- where no item passes, none does from a place on
pub none_from : {X : Type 0} (test : X → Bool) (items : List X) (from : ℕ) → list_any test items ≡ false → list_any test (drop from items) ≡ false
none_from test items from h =
    let all : list_any test (take from items ++ drop from items) ≡ false = rw (take-append-drop from items) h in
    let parts : (list_any test (take from items) || list_any test (drop from items)) ≡ false = sym (list_any-append test (take from items) (drop from items)) ∙ all in
    (or_parts _ _ parts).1

pub none_past : {X : Type 0} (test : X → Bool) (items : List X) (from : ℕ) → length items ≤ from → list_any test (drop from items) ≡ false
none_past test items from h = rw (drop_all from items h)

none_joined : {X : Type 0} (test : X → Bool) (l : List X) (x : X) (r : List X) → list_any test l ≡ false → test x ≡ false → list_any test r ≡ false → list_any test (l ++ x ∷ r) ≡ false
none_joined test l x r a b c = rw (list_any-append test l (x ∷ r), a, b, c)

-- it is in the front
pub next_left : {X : Type 0} (test : X → Bool) (from : ℕ) (l m : List X) (i : ℕ) → IsNext test from l i → IsNext test from (l ++ m) i
next_left test from l m i n =
    let s = some_passes test (slice_get l i) n.passes in
    let inside = slice_get_within l i s.0 s.1 in
    let there = get_front l m i s.0 s.1 in
    let from_there = n.from_there in
    let d : drop from (l ++ m) ≡ drop from l ++ m = drop-append-le from l m (omega arith) in
    let size = length-drop from l in
    let t : take (i - from) (drop from l ++ m) ≡ take (i - from) (drop from l) = take-append-le (i - from) (drop from l) m (omega arith) in
    record {
      from_there = n.from_there;
      passes = ap (option_map test) there ∙ sym (ap (option_map test) s.1) ∙ n.passes;
      none_before = rw (d, t) n.none_before;
    }

-- it is x
pub next_middle : {X : Type 0} (test : X → Bool) (from : ℕ) (l : List X) (x : X) (r : List X) (i : ℕ) → i ≡ length l → from ≤ i → list_any test (drop from l) ≡ false → test x ≡ true → IsNext test from (l ++ x ∷ r) i
next_middle test from l x r i e h none met =
    let d : drop from (l ++ x ∷ r) ≡ drop from l ++ x ∷ r = drop-append-le from l (x ∷ r) (omega arith) in
    let size = length-drop from l in
    let t : take (i - from) (drop from l ++ x ∷ r) ≡ drop from l = take_at (drop from l) (x ∷ r) (i - from) (omega arith) in
    let there : slice_get (l ++ x ∷ r) i ≡ Some x = get_past l (x ∷ r) i 0 (omega arith) in
    record {
      from_there = h;
      passes = ap (option_map test) there ∙ ap Some met;
      none_before = rw (d, t) none;
    }

-- it is behind x, at k of the items there
next_behind_near : {X : Type 0} (test : X → Bool) (from : ℕ) (l : List X) (x : X) (r : List X) (i k : ℕ) → i ≡ length l + suc k → from ≤ length l → list_any test (drop from l) ≡ false → test x ≡ false → IsNext test 0 r k → IsNext test from (l ++ x ∷ r) i
next_behind_near test from l x r i k e h none fails n =
    let d : drop from (l ++ x ∷ r) ≡ drop from l ++ x ∷ r = drop-append-le from l (x ∷ r) (omega arith) in
    let size = length-drop from l in
    let t : take (i - from) (drop from l ++ x ∷ r) ≡ drop from l ++ x ∷ take k r = take_past (drop from l) (x ∷ r) (i - from) (suc k) (omega arith) in
    let there : slice_get (l ++ x ∷ r) i ≡ slice_get r k = get_past l (x ∷ r) i (suc k) e in
    let all : k - 0 ≡ k = omega arith in
    let rest : list_any test (take k r) ≡ false = rw all at n.none_before in
    record {
      from_there = omega arith;
      passes = ap (option_map test) there ∙ n.passes;
      none_before = rw (d, t) (none_joined test (drop from l) x (take k r) none fails rest);
    }

next_behind_far : {X : Type 0} (test : X → Bool) (from : ℕ) (l : List X) (x : X) (r : List X) (i j k : ℕ) → i ≡ length l + suc k → from ≡ length l + suc j → IsNext test j r k → IsNext test from (l ++ x ∷ r) i
next_behind_far test from l x r i j k e f n =
    let d : drop from (l ++ x ∷ r) ≡ drop j r = drop_past l (x ∷ r) from (suc j) f in
    let there : slice_get (l ++ x ∷ r) i ≡ slice_get r k = get_past l (x ∷ r) i (suc k) e in
    let steps : i - from ≡ k - j = omega arith in
    let from_there = n.from_there in
    record {
      from_there = omega arith;
      passes = ap (option_map test) there ∙ n.passes;
      none_before = rw (d, steps) n.none_before;
    }

pub next_behind : {X : Type 0} (test : X → Bool) (from : ℕ) (l : List X) (x : X) (r : List X) (i j k : ℕ) → i ≡ length l + suc k → j ≡ from - suc (length l) → list_any test (drop from l) ≡ false → (from ≤ length l → test x ≡ false) → IsNext test j r k → IsNext test from (l ++ x ∷ r) i
next_behind test from l x r i j k e f none fails n =
    elim (cases_lt (length l) from) [
      | inr near ↦ let z : j ≡ 0 = omega arith in next_behind_near test from l x r i k e near none (fails near) (rw z at n)
      | inl far ↦ next_behind_far test from l x r i j k e (omega arith) n
    ]

-- there is none
pub none_behind : {X : Type 0} (test : X → Bool) (from : ℕ) (l : List X) (x : X) (r : List X) (j : ℕ) → j ≡ from - suc (length l) → list_any test (drop from l) ≡ false → (from ≤ length l → test x ≡ false) → list_any test (drop j r) ≡ false → list_any test (drop from (l ++ x ∷ r)) ≡ false
none_behind test from l x r j f none fails rest =
    elim (cases_lt (length l) from) [
      | inr near ↦
          let z : j ≡ 0 = omega arith in
          rw (drop-append-le from l (x ∷ r) near) (none_joined test (drop from l) x r none (fails near) (rw z at rest))
      | inl far ↦ rw (drop_past l (x ∷ r) from (suc j) (omega arith)) rest
    ]
