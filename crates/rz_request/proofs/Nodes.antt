-- The first element that passes a test, among lists one after another.
use Rattle.std.proofs.Common.{zero, suc, ◌≡◌, refl, ℕ, ◌+◌, ◌<◌, Bool, true, false, cond, Option, Some, None, List, [], ◌∷◌, ◌++◌, length, drop, get_or, sym, ◌∙◌, ap, subst, arith}
use Rattle.std.specs.Prelude.{All}
use Rattle.std.specs.List.{find}
use Rattle.rz_events.specs.Volume.{Cluster, nodes_of}

-- where one alternative leads to a fact, so does the choice
some_then : {A : Type 0} (b : Bool) (z x : A) (y y' : Option A) → (y ≡ Some x → y' ≡ Some x) → cond b (Some z) y ≡ Some x → cond b (Some z) y' ≡ Some x
some_then true z x y y' f is = is
some_then false z x y y' f is = f is

none_then : {A : Type 0} (b : Bool) (z : A) (y y' w : Option A) → (y ≡ None → y' ≡ w) → cond b (Some z) y ≡ None → cond b (Some z) y' ≡ w
none_then true z y y' w f is = absurd (cc)
none_then false z y y' w f is = f is

-- what is found in the first list is found in both
pub find_first : {A : Type 0} (test : A → Bool) (xs ys : List A) (x : A) → find test xs ≡ Some x → find test (xs ++ ys) ≡ Some x
find_first test [] ys x is = absurd (cc)
find_first test (z ∷ zs) ys x is = some_then (test z) z x (find test zs) (find test (zs ++ ys)) (find_first test zs ys x) is

-- where nothing is found in the first list, it is found in the second
pub find_second : {A : Type 0} (test : A → Bool) (xs ys : List A) → find test xs ≡ None → find test (xs ++ ys) ≡ find test ys
find_second test [] ys is = refl
find_second test (z ∷ zs) ys is = none_then (test z) z (find test zs) (find test (zs ++ ys)) (find test ys) (find_second test zs ys) is

chosen : {A : Type 0} (P : A → Type 0) (b : Bool) (z x : A) (y : Option A) → P z → (y ≡ Some x → P x) → cond b (Some z) y ≡ Some x → P x
chosen P true z x y here there is = let one : z ≡ x = cc in subst P one here
chosen P false z x y here there is = there is

-- what is found is as all are
pub find_all : {A : Type 0} (P : A → Type 0) (test : A → Bool) (xs : List A) (x : A) → All P xs → find test xs ≡ Some x → P x
find_all P test [] x all is = absurd (cc)
find_all P test (z ∷ zs) x all is = chosen P (test z) z x (find test zs) (all 0 z (omega arith)) (find_all P test zs x (λ k d lt. all (suc k) d (omega arith))) is

drop_item : {A : Type 0} (xs : List A) (k : ℕ) (x : A) → k < length xs → x ≡ get_or xs k x → drop k xs ≡ x ∷ drop (k + 1) xs
drop_item [] k x lt is = absurd (omega arith)
drop_item (y ∷ ys) zero x lt is = ap (λ (z : _). z ∷ ys) (sym is)
drop_item (y ∷ ys) (suc k) x lt is =
    let next : suc (k + 1) ≡ suc k + 1 = omega arith in
    drop_item ys k x (omega arith) is ∙ ap (λ (n : ℕ). x ∷ drop n (y ∷ ys)) next

-- the nodes from a cluster on
pub nodes_step : (items : List Cluster) (k : ℕ) (item : Cluster) → k < length items → item ≡ get_or items k item → nodes_of (drop k items) ≡ item.nodes ++ nodes_of (drop (k + 1) items)
nodes_step items k item lt is = ap nodes_of (drop_item items k item lt is)
