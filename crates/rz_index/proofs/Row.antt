-- A row of entries whose keys rise, and what an edit of it does to the map.
use Rattle.std.proofs.Common.{◌≡◌, ◌+◌, Bool, true, false, cond, not, ◌&&◌, T, List, [], ◌∷◌, length, Option, Some, None, is_some, sym, ap, subst, ◌∙◌, refl}
use Rattle.std.specs.Ordering.{is_lt, is_eq, ordering_reverse, eq_by_cmp}
use Rattle.std.specs.Cmp.{tied_itself, eq_by_cmp_equiv}
use Rattle.std.specs.declared.cmp.Ordering.{Ordering}
use Rattle.std.specs.declared.cmp.Ordering.TheVariants.{Less, Equal, Greater}
use Rattle.std.specs.FinMap as maps
use Rattle.std.specs.FinMap.{same_map, same_entries_map, entries-insert, entries-from_sorted, get-from_sorted, get-empty, get-remove}
use Rattle.std.specs.FinMap.Entries.{find, put, where_key, is_sorted, below_all, is_sorted-put, is_sorted-where_key, find-where_key, length-put, length_without}
use Rattle.std.proofs.lemmas.List.{length-map}
use Rattle.rz_events.specs.Keys.{key_cmp, keys_total, exact_keys}
use Rattle.rz_events.specs.declared.keys.Key.{Key}
use Rattle.rz_index.specs.declared.index.Entry.{Entry}
use Rattle.rz_index.specs.Indexed.{pairs_of, IsSorted}

pub first : (a b : Bool) → T (a && b) → T a
first true b p = tt
first false b p = absurd p

pub second : (a b : Bool) → T (a && b) → T b
second true b p = p
second false b p = absurd p

pub less : (o : Ordering) → T (is_lt o) → o ≡ Less
less Less p = refl
less Equal p = absurd p
less Greater p = absurd p

pub flip_less : (a b : Key) → key_cmp a b ≡ Less → key_cmp b a ≡ Greater
flip_less a b h = keys_total.antisymm b a ∙ ap ordering_reverse h

pub same_key : (a b : Key) → a ≡ b → key_cmp a b ≡ Equal
same_key a b h = ap (key_cmp a) (sym h) ∙ tied_itself keys_total a

pub find-below : (k : Key) (es : List Entry) → T (below_all key_cmp k (pairs_of es)) → find key_cmp k (pairs_of es) ≡ None
find-below k [] h = refl
find-below k (e ∷ es) h = ap (λ o. cond (is_eq o) (Some e) (find key_cmp k (pairs_of es))) (less _ (first _ _ h)) ∙ find-below k es (second _ _ h)

pub both : (a b : Bool) → T a → T b → T (a && b)
both true b p q = q
both false b p q = p

-- what is above a key is above a smaller one
pub lower : (k q : Key) (es : List Entry) → key_cmp k q ≡ Less → T (below_all key_cmp q (pairs_of es)) → T (below_all key_cmp k (pairs_of es))
lower k q [] lt h = tt
lower k q (e ∷ es) lt h = both _ _ (subst (λ o. T (is_lt o)) (sym (keys_total.trans k q e.key lt (less _ (first _ _ h)))) tt) (lower k q es lt (second _ _ h))

abbrev pub other : Key → Key → Bool
other k q = not (eq_by_cmp key_cmp k q)

pub all-stay : (k : Key) (es : List Entry) → T (below_all key_cmp k (pairs_of es)) → pairs_of es ≡ where_key key_cmp (other k) (pairs_of es)
all-stay k [] h = refl
all-stay k (e ∷ es) h = rw (less (key_cmp k e.key) (first _ _ h)) (ap (λ ps. (e.key, e) ∷ ps) (all-stay k es (second _ _ h)))

abbrev Map : Type 0
Map = maps.FinMap key_cmp Entry

abbrev pub made : List Entry → Map
made es = maps.from_sorted (pairs_of es)

pub get-made : (es : List Entry) (k : Key) → IsSorted es → maps.get (made es) k ≡ find key_cmp k (pairs_of es)
get-made es k s = get-from_sorted key_cmp (pairs_of es) k s

pub sorted-put : (x : Entry) (es fs : List Entry) → IsSorted es → pairs_of fs ≡ put key_cmp x.key x (pairs_of es) → IsSorted fs
sorted-put x es fs s is = subst (λ ps. T (is_sorted key_cmp ps)) (sym is) (is_sorted-put key_cmp keys_total x.key x (pairs_of es) s)

pub made-put : (x : Entry) (es fs : List Entry) → IsSorted es → pairs_of fs ≡ put key_cmp x.key x (pairs_of es) → made fs ≡ maps.insert (made es) x.key x
made-put x es fs s is = same_entries_map _ _ (
    entries-from_sorted key_cmp (pairs_of fs) (sorted-put x es fs s is) ∙ is
    ∙ sym (entries-insert keys_total (made es) x.key x ∙ ap (put key_cmp x.key x) (entries-from_sorted key_cmp (pairs_of es) s)))

pub sorted-take : (k : Key) (es fs : List Entry) → IsSorted es → pairs_of fs ≡ where_key key_cmp (other k) (pairs_of es) → IsSorted fs
sorted-take k es fs s is = subst (λ ps. T (is_sorted key_cmp ps)) (sym is) (is_sorted-where_key key_cmp (other k) (pairs_of es) s)

pub made-take : (k : Key) (es fs : List Entry) → IsSorted es → pairs_of fs ≡ where_key key_cmp (other k) (pairs_of es) → made fs ≡ maps.remove (made es) k
made-take k es fs s is = same_map keys_total exact_keys _ _ (λ q.
    get-made fs q (sorted-take k es fs s is) ∙ ap (find key_cmp q) is
    ∙ find-where_key key_cmp (other k) q (λ x is. ap (other k) (sym (exact_keys q x is))) (pairs_of es)
    ∙ turned (eq_by_cmp key_cmp k q) (find key_cmp q (pairs_of es))
    ∙ ap (λ b. cond b None (find key_cmp q (pairs_of es))) ((eq_by_cmp_equiv keys_total).symm k q)
    ∙ sym (get-remove keys_total (made es) k q ∙ ap (cond (eq_by_cmp key_cmp q k) None) (get-made es q s)))
  where
    turned : (b : Bool) (o : Option Entry) → cond (not b) o None ≡ cond b None o
    turned true o = refl
    turned false o = refl

pairs-long : (es : List Entry) → length (pairs_of es) ≡ length es
pairs-long es = length-map es (λ (e : Entry). (e.key, e))

pub put-length : (x : Entry) (es fs : List Entry) → IsSorted es → pairs_of fs ≡ put key_cmp x.key x (pairs_of es) → length fs ≡ cond (is_some (find key_cmp x.key (pairs_of es))) (length es) (length es + 1)
put-length x es fs s is =
    sym (pairs-long fs) ∙ ap length is ∙ length-put key_cmp keys_total x.key x (pairs_of es) s
    ∙ ap (λ n. cond (is_some (find key_cmp x.key (pairs_of es))) n (n + 1)) (pairs-long es)

pub take-length : (k : Key) (es fs : List Entry) → IsSorted es → pairs_of fs ≡ where_key key_cmp (other k) (pairs_of es) → cond (is_some (find key_cmp k (pairs_of es))) 1 0 + length fs ≡ length es
take-length k es fs s is =
    ap (λ n. cond (is_some (find key_cmp k (pairs_of es))) 1 0 + n) (sym (pairs-long fs) ∙ ap length is) ∙ length_without key_cmp keys_total k (pairs_of es) s ∙ pairs-long es

pub made-nothing : made [] ≡ maps.empty
made-nothing = same_map keys_total exact_keys _ _ (λ q. get-made [] q tt ∙ sym (get-empty key_cmp q))
