-- Entries l, m and r in the order of their keys: what is found among them, and what an edit on one side leaves.
use Rattle.std.proofs.Common.{◌≡◌, suc, ◌+◌, Bool, true, false, cond, T, List, [], ◌∷◌, ◌++◌, length, Some, sym, ap, subst, ◌∙◌, refl, append_assoc, length-append, arith}
use Rattle.std.specs.Ordering.{is_lt, is_eq, ordering_reverse}
use Rattle.std.specs.declared.cmp.Ordering.{Ordering}
use Rattle.std.specs.declared.cmp.Ordering.TheVariants.{Less, Equal, Greater}
use Rattle.std.specs.FinMap.Entries.{find, put, where_key, below_all, by_order}
use Rattle.rz_events.specs.Keys.{key_cmp, keys_total, exact_keys}
use Rattle.rz_events.specs.declared.keys.Key.{Key}
use Rattle.rz_index.specs.declared.index.Entry.{Entry}
use Rattle.rz_index.specs.Indexed.{pairs_of, IsSorted}
use Rattle.rz_index.proofs.Row.{first, second, both, less, lower, find-below, flip_less, other, all-stay}

-- the key comes behind all of these
abbrev pub IsPast : Key → List Entry → Type 0
IsPast k [] = Unit {0}
IsPast k (e ∷ es) = (key_cmp k e.key ≡ Greater) × IsPast k es

below-front : (k : Key) (l xs : List Entry) → T (below_all key_cmp k (pairs_of (l ++ xs))) → T (below_all key_cmp k (pairs_of l))
below-front k [] xs h = tt
below-front k (e ∷ l) xs h = both _ _ (first _ _ h) (below-front k l xs (second _ _ h))

pub below-middle : (k : Key) (l : List Entry) (m : Entry) (r : List Entry) → T (below_all key_cmp k (pairs_of (l ++ m ∷ r))) → key_cmp k m.key ≡ Less
below-middle k [] m r h = less _ (first _ _ h)
below-middle k (e ∷ l) m r h = below-middle k l m r (second _ _ h)

pub front-sorted : (l xs : List Entry) → IsSorted (l ++ xs) → IsSorted l
front-sorted [] xs h = tt
front-sorted (e ∷ l) xs h = both _ _ (below-front e.key l xs (first _ _ h)) (front-sorted l xs (second _ _ h))

pub back-sorted : (l xs : List Entry) → IsSorted (l ++ xs) → IsSorted xs
back-sorted [] xs h = h
back-sorted (e ∷ l) xs h = back-sorted l xs (second _ _ h)

pub rest-sorted : (l : List Entry) (m : Entry) (r : List Entry) → IsSorted (l ++ m ∷ r) → IsSorted r
rest-sorted l m r h = second _ _ (back-sorted l (m ∷ r) h)

-- a key of the middle, or behind it, comes behind the front
pub past-front : (k : Key) (l : List Entry) (m : Entry) (r : List Entry) → IsSorted (l ++ m ∷ r) → ((q : Key) → key_cmp q m.key ≡ Less → key_cmp q k ≡ Less) → IsPast k l
past-front k [] m r h beyond = tt
past-front k (e ∷ l) m r h beyond = (flip_less e.key k (beyond e.key (below-middle e.key l m r (first _ _ h))), past-front k l m r (second _ _ h) beyond)

pub beyond-greater : (k m : Key) → key_cmp k m ≡ Greater → (q : Key) → key_cmp q m ≡ Less → key_cmp q k ≡ Less
beyond-greater k m is q lt = keys_total.trans q m k lt (keys_total.antisymm m k ∙ ap ordering_reverse is)

pub beyond-equal : (k m : Key) → key_cmp k m ≡ Equal → (q : Key) → key_cmp q m ≡ Less → key_cmp q k ≡ Less
beyond-equal k m is q lt = ap (key_cmp q) (exact_keys k m is) ∙ lt

-- a lesser key than the middle one comes before the rest
below-rest : (k : Key) (l : List Entry) (m : Entry) (r : List Entry) → IsSorted (l ++ m ∷ r) → key_cmp k m.key ≡ Less → T (below_all key_cmp k (pairs_of (m ∷ r)))
below-rest k l m r h lt =
    both _ _ (subst (λ o. T (is_lt o)) (sym lt) tt) (lower k m.key r lt (first _ _ (back-sorted l (m ∷ r) h)))

pairs-append : (l xs : List Entry) → pairs_of (l ++ xs) ≡ pairs_of l ++ pairs_of xs
pairs-append [] xs = refl
pairs-append (e ∷ l) xs = ap (λ ps. (e.key, e) ∷ ps) (pairs-append l xs)

-- ---- what is found

find-past : (k : Key) (l xs : List Entry) → IsPast k l → find key_cmp k (pairs_of (l ++ xs)) ≡ find key_cmp k (pairs_of xs)
find-past k [] xs h = refl
find-past k (e ∷ l) xs h = ap (λ o. cond (is_eq o) (Some e) (find key_cmp k (pairs_of (l ++ xs)))) h.0 ∙ find-past k l xs h.1

find-before : (k : Key) (l xs : List Entry) → T (below_all key_cmp k (pairs_of xs)) → find key_cmp k (pairs_of (l ++ xs)) ≡ find key_cmp k (pairs_of l)
find-before k [] xs h = find-below k xs h
find-before k (e ∷ l) xs h = ap (λ o. cond (is_eq (key_cmp k e.key)) (Some e) o) (find-before k l xs h)

pub find-left : (k : Key) (l : List Entry) (m : Entry) (r : List Entry) → IsSorted (l ++ m ∷ r) → key_cmp k m.key ≡ Less → find key_cmp k (pairs_of (l ++ m ∷ r)) ≡ find key_cmp k (pairs_of l)
find-left k l m r h lt = find-before k l (m ∷ r) (below-rest k l m r h lt)

pub find-middle : (k : Key) (l : List Entry) (m : Entry) (r : List Entry) → IsSorted (l ++ m ∷ r) → key_cmp k m.key ≡ Equal → find key_cmp k (pairs_of (l ++ m ∷ r)) ≡ Some m
find-middle k l m r h is =
    find-past k l (m ∷ r) (past-front k l m r h (beyond-equal k m.key is)) ∙ ap (λ o. cond (is_eq o) (Some m) (find key_cmp k (pairs_of r))) is

pub find-right : (k : Key) (l : List Entry) (m : Entry) (r : List Entry) → IsSorted (l ++ m ∷ r) → key_cmp k m.key ≡ Greater → find key_cmp k (pairs_of (l ++ m ∷ r)) ≡ find key_cmp k (pairs_of r)
find-right k l m r h is =
    find-past k l (m ∷ r) (past-front k l m r h (beyond-greater k m.key is)) ∙ ap (λ o. cond (is_eq o) (Some m) (find key_cmp k (pairs_of r))) is

-- ---- what is put

put-past : (x : Entry) (l xs : List Entry) → IsPast x.key l → put key_cmp x.key x (pairs_of (l ++ xs)) ≡ pairs_of l ++ put key_cmp x.key x (pairs_of xs)
put-past x [] xs h = refl
put-past x (e ∷ l) xs h = rw h.0 (ap (λ ps. (e.key, e) ∷ ps) (put-past x l xs h.1))

put-first : (x m : Entry) (r : List Entry) → key_cmp x.key m.key ≡ Less → put key_cmp x.key x (pairs_of (m ∷ r)) ≡ (x.key, x) ∷ pairs_of (m ∷ r)
put-first x m r lt = rw lt refl

put-step : (x e : Entry) (all front back : List (Key × Entry)) (o : Ordering) → all ≡ front ++ back → put key_cmp x.key x all ≡ put key_cmp x.key x front ++ back
    → by_order o ((x.key, x) ∷ (e.key, e) ∷ all) ((e.key, x) ∷ all) ((e.key, e) ∷ put key_cmp x.key x all) ≡ by_order o ((x.key, x) ∷ (e.key, e) ∷ front) ((e.key, x) ∷ front) ((e.key, e) ∷ put key_cmp x.key x front) ++ back
put-step x e all front back Less parts rest = ap (λ ps. (x.key, x) ∷ (e.key, e) ∷ ps) parts
put-step x e all front back Equal parts rest = ap (λ ps. (e.key, x) ∷ ps) parts
put-step x e all front back Greater parts rest = ap (λ ps. (e.key, e) ∷ ps) rest

put-before : (x : Entry) (l : List Entry) (m : Entry) (r : List Entry) → key_cmp x.key m.key ≡ Less → put key_cmp x.key x (pairs_of (l ++ m ∷ r)) ≡ put key_cmp x.key x (pairs_of l) ++ pairs_of (m ∷ r)
put-before x [] m r lt = put-first x m r lt
put-before x (e ∷ l) m r lt = put-step x e (pairs_of (l ++ m ∷ r)) (pairs_of l) (pairs_of (m ∷ r)) (key_cmp x.key e.key) (pairs-append l (m ∷ r)) (put-before x l m r lt)

pub put-left : (x : Entry) (l l' : List Entry) (m : Entry) (r : List Entry) → key_cmp x.key m.key ≡ Less → pairs_of l' ≡ put key_cmp x.key x (pairs_of l) → pairs_of (l' ++ m ∷ r) ≡ put key_cmp x.key x (pairs_of (l ++ m ∷ r))
put-left x l l' m r lt is = pairs-append l' (m ∷ r) ∙ ap (λ ps. ps ++ pairs_of (m ∷ r)) is ∙ sym (put-before x l m r lt)

pub put-middle : (x : Entry) (l : List Entry) (m : Entry) (r : List Entry) → IsSorted (l ++ m ∷ r) → key_cmp x.key m.key ≡ Equal → pairs_of (l ++ x ∷ r) ≡ put key_cmp x.key x (pairs_of (l ++ m ∷ r))
put-middle x l m r h is =
    pairs-append l (x ∷ r) ∙ sym (put-past x l (m ∷ r) (past-front x.key l m r h (beyond-equal x.key m.key is)) ∙ ap (λ ps. pairs_of l ++ ps) at)
  where
    at : put key_cmp x.key x (pairs_of (m ∷ r)) ≡ pairs_of (x ∷ r)
    at = rw is (ap (λ (k : Key). (k, x) ∷ pairs_of r) (sym (exact_keys x.key m.key is)))

pub put-right : (x : Entry) (l : List Entry) (m : Entry) (r r' : List Entry) → IsSorted (l ++ m ∷ r) → key_cmp x.key m.key ≡ Greater → pairs_of r' ≡ put key_cmp x.key x (pairs_of r) → pairs_of (l ++ m ∷ r') ≡ put key_cmp x.key x (pairs_of (l ++ m ∷ r))
put-right x l m r r' h is done =
    pairs-append l (m ∷ r') ∙ ap (λ ps. pairs_of l ++ (m.key, m) ∷ ps) done
    ∙ sym (put-past x l (m ∷ r) (past-front x.key l m r h (beyond-greater x.key m.key is)) ∙ ap (λ ps. pairs_of l ++ ps) at)
  where
    at : put key_cmp x.key x (pairs_of (m ∷ r)) ≡ (m.key, m) ∷ put key_cmp x.key x (pairs_of r)
    at = rw is refl

-- ---- what is taken away

abbrev pub without : Key → List Entry → List (Key × Entry)
without k es = where_key key_cmp (other k) (pairs_of es)

without-step : (e : Entry) (all front back : List (Key × Entry)) (b : Bool) → all ≡ front ++ back → cond b ((e.key, e) ∷ all) all ≡ cond b ((e.key, e) ∷ front) front ++ back
without-step e all front back true rest = ap (λ ps. (e.key, e) ∷ ps) rest
without-step e all front back false rest = rest

without-append : (k : Key) (l xs : List Entry) → without k (l ++ xs) ≡ without k l ++ without k xs
without-append k [] xs = refl
without-append k (e ∷ l) xs = without-step e _ _ _ (other k e.key) (without-append k l xs)

past-stay : (k : Key) (l : List Entry) → IsPast k l → pairs_of l ≡ without k l
past-stay k [] h = refl
past-stay k (e ∷ l) h = rw h.0 (ap (λ ps. (e.key, e) ∷ ps) (past-stay k l h.1))

pub take-left : (k : Key) (l l' : List Entry) (m : Entry) (r : List Entry) → IsSorted (l ++ m ∷ r) → key_cmp k m.key ≡ Less → pairs_of l' ≡ without k l → pairs_of (l' ++ m ∷ r) ≡ without k (l ++ m ∷ r)
take-left k l l' m r h lt is =
    pairs-append l' (m ∷ r) ∙ ap (λ ps. ps ++ pairs_of (m ∷ r)) is ∙ ap (λ ps. without k l ++ ps) (all-stay k (m ∷ r) (below-rest k l m r h lt)) ∙ sym (without-append k l (m ∷ r))

pub take-middle : (k : Key) (l : List Entry) (m : Entry) (r : List Entry) → IsSorted (l ++ m ∷ r) → key_cmp k m.key ≡ Equal → pairs_of (l ++ r) ≡ without k (l ++ m ∷ r)
take-middle k l m r h is =
    pairs-append l r ∙ ap (λ ps. ps ++ pairs_of r) (past-stay k l (past-front k l m r h (beyond-equal k m.key is))) ∙ ap (λ ps. without k l ++ ps) at ∙ sym (without-append k l (m ∷ r))
  where
    stay : pairs_of r ≡ without k r
    stay = all-stay k r (subst (λ (q : Key). T (below_all key_cmp q (pairs_of r))) (sym (exact_keys k m.key is)) (first _ _ (back-sorted l (m ∷ r) h)))

    at : pairs_of r ≡ without k (m ∷ r)
    at = rw is stay

pub take-right : (k : Key) (l : List Entry) (m : Entry) (r r' : List Entry) → IsSorted (l ++ m ∷ r) → key_cmp k m.key ≡ Greater → pairs_of r' ≡ without k r → pairs_of (l ++ m ∷ r') ≡ without k (l ++ m ∷ r)
take-right k l m r r' h is done =
    pairs-append l (m ∷ r') ∙ ap (λ ps. ps ++ (m.key, m) ∷ pairs_of r') (past-stay k l (past-front k l m r h (beyond-greater k m.key is))) ∙ ap (λ ps. without k l ++ (m.key, m) ∷ ps) done
    ∙ ap (λ ps. without k l ++ ps) at ∙ sym (without-append k l (m ∷ r))
  where
    at : (m.key, m) ∷ without k r ≡ without k (m ∷ r)
    at = rw is refl

-- a node's entry
pub one-entry : (l : List Entry) (e : Entry) (r : List Entry) → length (l ++ e ∷ r) ≡ 1 → l ++ e ∷ r ≡ e ∷ []
one-entry [] e [] h = refl
one-entry [] e (x ∷ r) h = absurd (omega arith)
one-entry (x ∷ l) e r h = absurd (go l h)
  where
    go : (l : List Entry) → suc (length (l ++ e ∷ r)) ≡ 1 → ⊥
    go [] h = omega arith
    go (y ∷ l) h = omega arith

-- entries whose middle part is the one entry of a node
pub parted : (all l mid r : List Entry) (m : Entry) → all ≡ l ++ mid ++ r → mid ≡ m ∷ [] → all ≡ l ++ m ∷ r
parted all l mid r m is one = is ∙ ap (λ xs. l ++ xs ++ r) one ∙ append_assoc l (m ∷ []) r

pub parts-long : (all l : List Entry) (m : Entry) (r : List Entry) → all ≡ l ++ m ∷ r → length all ≡ length l + suc (length r)
parts-long all l m r is = ap length is ∙ length-append l (m ∷ r)
