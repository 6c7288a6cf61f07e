-- A list that is cut, or changed at a place, in its front p or behind it.
use Rattle.std.proofs.Common.{◌≡◌, ℕ, zero, suc, ◌+◌, ◌<◌, ◌≤◌, List, [], ◌∷◌, ◌++◌, length, take, drop, Some, refl, sym, append_assoc, length-append, arith}
use Rattle.std.specs.List.{slice_get}
use Rattle.std.proofs.Math.Seq.{take-append-add, drop-append-add}
use Rattle.std.proofs.lemmas.List.{length-take, length-drop, drop-drop, take-append-le, drop-append-le, take_at}
use Rattle.std.proofs.lemmas.Option.{none-some}

pub take_past : {X : Type 0} (p r : List X) (n k : ℕ) → n ≡ length p + k → take n (p ++ r) ≡ p ++ take k r
take_past p r n k e = rw e (take-append-add p r k)

pub drop_past : {X : Type 0} (p r : List X) (n k : ℕ) → n ≡ length p + k → drop n (p ++ r) ≡ drop k r
drop_past p r n k e = rw e (drop-append-add p r k)

slice_get-append_add : {X : Type 0} (p r : List X) (k : ℕ) → slice_get (p ++ r) (length p + k) ≡ slice_get r k
slice_get-append_add [] r k = let e : 0 + k ≡ k = omega arith in rw e refl
slice_get-append_add (x ∷ p) r k =
    let e : suc (length p) + k ≡ suc (length p + k) = omega arith in
    rw e (slice_get-append_add p r k)

pub get_past : {X : Type 0} (p r : List X) (n k : ℕ) → n ≡ length p + k → slice_get (p ++ r) n ≡ slice_get r k
get_past p r n k e = rw e (slice_get-append_add p r k)

pub get_front : {X : Type 0} (p r : List X) (i : ℕ) (x : X) → slice_get p i ≡ Some x → slice_get (p ++ r) i ≡ Some x
get_front [] r i x e = absurd (none-some x e)
get_front (y ∷ p) r zero x e = e
get_front (y ∷ p) r (suc i) x e = get_front p r i x e

-- items of which the first ones are l, m, of one item, and then r, cut behind m
pub take_behind : {X : Type 0} (items l m r : List X) (n k : ℕ) (front joined : List X) → items ≡ l ++ m ++ r → length m ≡ 1 → n ≡ length l + 1 + k → front ≡ take k r → joined ≡ l ++ m ++ front → joined ≡ take n items
take_behind items l m r n k front joined is one e cut join =
    rw (is, join, cut) (sym (take_past (l ++ m) r n k (omega (arith, length-append l m))))

pub drop_behind : {X : Type 0} (items l m r : List X) (n k : ℕ) (back : List X) → items ≡ l ++ m ++ r → length m ≡ 1 → n ≡ length l + 1 + k → back ≡ drop k r → back ≡ drop n items
drop_behind items l m r n k back is one e cut =
    rw (is, cut) (sym (drop_past (l ++ m) r n k (omega (arith, length-append l m))))

-- an item taken out: the whole is cut before it, and the rest is what lies behind it
pub taken_out : {X : Type 0} (items whole front back rest : List X) (at : ℕ) → whole ≡ items → front ≡ take at whole → back ≡ drop at whole → rest ≡ drop 1 back → front ++ rest ≡ take at items ++ drop (suc at) items
taken_out items whole front back rest at same f b r =
    let next : at + 1 ≡ suc at = omega arith in
    rw (f, r, b, same, drop-drop 1 at items, next)

pub taken_out_fits : {X : Type 0} (whole front back rest : List X) (at : ℕ) → front ≡ take at whole → back ≡ drop at whole → rest ≡ drop 1 back → length front + length rest ≤ length whole
taken_out_fits whole front back rest at f b r =
    rw (f, r, b) (omega (arith, length-take at whole, length-drop at whole, length-drop 1 (drop at whole)))

-- an item put in the place of another, before, at and behind the item x
pub put_before : {X : Type 0} (items l : List X) (x : X) (r new : List X) (at : ℕ) (y : X) → l ++ x ∷ r ≡ items → new ≡ take at l ++ y ∷ drop (suc at) l → at < length l → new ++ x ∷ r ≡ take at items ++ y ∷ drop (suc at) items
put_before items l x r new at y is put h =
    let a : take at (l ++ x ∷ r) ≡ take at l = take-append-le at l (x ∷ r) (omega arith) in
    let b : drop (suc at) (l ++ x ∷ r) ≡ drop (suc at) l ++ x ∷ r = drop-append-le (suc at) l (x ∷ r) (omega arith) in
    rw (← is, put, a, b) (append_assoc (take at l) (y ∷ drop (suc at) l) (x ∷ r))

pub put_at : {X : Type 0} (items l : List X) (x : X) (r : List X) (at : ℕ) (y : X) → l ++ x ∷ r ≡ items → at ≡ length l → l ++ y ∷ r ≡ take at items ++ y ∷ drop (suc at) items
put_at items l x r at y is h =
    let a : take at (l ++ x ∷ r) ≡ l = take_at l (x ∷ r) at (sym h) in
    let b : drop (suc at) (l ++ x ∷ r) ≡ r = drop_past l (x ∷ r) (suc at) 1 (omega arith) in
    rw (← is, a, b)

pub put_behind : {X : Type 0} (items l : List X) (x : X) (r new : List X) (at k : ℕ) (y : X) → l ++ x ∷ r ≡ items → new ≡ take k r ++ y ∷ drop (suc k) r → at ≡ length l + suc k → l ++ x ∷ new ≡ take at items ++ y ∷ drop (suc at) items
put_behind items l x r new at k y is put h =
    let a : take at (l ++ x ∷ r) ≡ l ++ x ∷ take k r = take_past l (x ∷ r) at (suc k) h in
    let b : drop (suc at) (l ++ x ∷ r) ≡ drop (suc k) r = drop_past l (x ∷ r) (suc at) (suc (suc k)) (omega arith) in
    rw (← is, put, a, b) (sym (append_assoc l (x ∷ take k r) (y ∷ drop (suc k) r)))
