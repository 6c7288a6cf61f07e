-- How many blocks pass a test, after a block is set or taken out.
use Rattle.std.proofs.Common.{◌≡◌, ℕ, ◌+◌, ◌≤◌, Bool, true, false, cond, T, List, [], ◌∷◌, Option, Some, None, Ordering, sym, ap, ◌∙◌, refl, arith, subst}
use Rattle.std.specs.Prelude.{count_by}
use Rattle.std.proofs.lemmas.List.Sums.{sum_by-cons, count_by-le-length}
use Rattle.std.specs.declared.cmp.Ordering.TheVariants.{Less, Equal, Greater}
use Rattle.std.specs.Option.{option_map_or}
use Rattle.std.specs.Ordering.{is_eq, is_lt, eq_by_cmp}
use Rattle.std.specs.Cmp.{tied_itself}
use Rattle.std.specs.FinMap as maps
use Rattle.std.specs.FinMap.{same_map, entries-insert, get-entries, get-insert, get-remove, entries_sorted, len-entries}
use Rattle.std.specs.FinMap.Entries.{find, put, is_sorted, below_all, by_order}
use Rattle.rz_events.specs.Keys.{key_cmp, keys_total, exact_keys}
use Rattle.rz_events.specs.declared.keys.Key.{Key}
use Rattle.rz_export_model.proofs.Tests.{left, right, both, is_less, eq_true}
use Rattle.rz_export_model.specs.Export.{Block, Blocks}

abbrev pub Entries : Type 0
Entries = List (Key × Block)

abbrev pub one_if : Bool → ℕ
one_if b = cond b 1 0

-- whether the test passes of what stands at a key
abbrev pub at_key : (Key × Block → Bool) → Key → Option Block → Bool
at_key p k o = option_map_or (λ b. p (k, b)) o false

pub count-cons : (p : Key × Block → Bool) (e : Key × Block) (es : Entries) → count_by p (e ∷ es) ≡ one_if (p e) + count_by p es
count-cons p e es = sum_by-cons (λ (x : Key × Block). cond (p x) 1 0) e es

-- a key below all others is not among them
pub find-below : (k : Key) (es : Entries) → T (below_all key_cmp k es) → find key_cmp k es ≡ None
find-below k [] h = refl
find-below k (e ∷ es) h =
    ap (λ r. cond (is_eq r) (Some e.1) (find key_cmp k es)) (is_less _ (left _ _ h)) ∙ find-below k es (right _ _ h)

pub below-less : (x y : Key) (es : Entries) → key_cmp x y ≡ Less → T (below_all key_cmp y es) → T (below_all key_cmp x es)
below-less x y [] less h = tt
below-less x y (e ∷ es) less h =
    both _ _ (subst (λ r. T (is_lt r)) (sym (keys_total.trans x y e.0 less (is_less _ (left _ _ h)))) tt) (below-less x y es less (right _ _ h))

sum_first : (a b o z : ℕ) → a ≡ o + b → z ≡ 0 → a + z ≡ b + o
sum_first a b o z e is = omega arith

sum_same : (a b c m n m' n' : ℕ) → a ≡ m + c → b ≡ n + c → m' ≡ m → n' ≡ n → a + n' ≡ b + m'
sum_same a b c m n m' n' p q r s = omega arith

sum_later : (a b c d o w m : ℕ) → a ≡ o + d → b ≡ o + c → d + w ≡ c + m → a + w ≡ b + m
sum_later a b c d o w m p q r = omega arith

put_step : (p : Key × Block → Bool) (k : Key) (v : Block) (e : Key × Block) (es : Entries) (r : Ordering) → key_cmp k e.0 ≡ r → T (is_sorted key_cmp (e ∷ es))
    → count_by p (put key_cmp k v es) + one_if (at_key p k (find key_cmp k es)) ≡ count_by p es + one_if (p (k, v))
    → count_by p (by_order r ((k, v) ∷ e ∷ es) ((e.0, v) ∷ es) (e ∷ put key_cmp k v es)) + one_if (at_key p k (cond (is_eq r) (Some e.1) (find key_cmp k es))) ≡ count_by p (e ∷ es) + one_if (p (k, v))
put_step p k v e es Less is h more =
    sum_first (count_by p ((k, v) ∷ e ∷ es)) (count_by p (e ∷ es)) (one_if (p (k, v))) (one_if (at_key p k (find key_cmp k es))) (count-cons p (k, v) (e ∷ es))
    (ap (λ o. one_if (at_key p k o)) (find-below k es (below-less k e.0 es is (left _ _ h))))
put_step p k v e es Equal is h more =
    let same : k ≡ e.0 = exact_keys k e.0 is in
    sum_same (count_by p ((e.0, v) ∷ es)) (count_by p (e ∷ es)) (count_by p es) (one_if (p (e.0, v))) (one_if (p e)) (one_if (p (k, v))) (one_if (p (k, e.1)))
    (count-cons p (e.0, v) es) (count-cons p e es) (ap (λ (x : Key). one_if (p (x, v))) same) (ap (λ (x : Key). one_if (p (x, e.1))) same)
put_step p k v e es Greater is h more =
    sum_later (count_by p (e ∷ put key_cmp k v es)) (count_by p (e ∷ es)) (count_by p es) (count_by p (put key_cmp k v es)) (one_if (p e)) (one_if (at_key p k (find key_cmp k es))) (one_if (p (k, v)))
    (count-cons p e (put key_cmp k v es)) (count-cons p e es) more

put-count : (p : Key × Block → Bool) (k : Key) (v : Block) (es : Entries) → T (is_sorted key_cmp es)
    → count_by p (put key_cmp k v es) + one_if (at_key p k (find key_cmp k es)) ≡ count_by p es + one_if (p (k, v))
put-count p k v [] h = sum_first (count_by p ((k, v) ∷ [])) (count_by p []) (one_if (p (k, v))) 0 (count-cons p (k, v) []) refl
put-count p k v (e ∷ es) h = put_step p k v e es (key_cmp k e.0) refl h (put-count p k v es (right _ _ h))

-- what a set block adds, and what stood there before
pub count-insert : (p : Key × Block → Bool) (m : Blocks) (k : Key) (v : Block)
    → count_by p (maps.entries (maps.insert m k v)) + one_if (at_key p k (maps.get m k)) ≡ count_by p (maps.entries m) + one_if (p (k, v))
count-insert p m k v =
    ap (λ es. count_by p es + one_if (at_key p k (maps.get m k))) (entries-insert keys_total m k v)
    ∙ ap (λ o. count_by p (put key_cmp k v (maps.entries m)) + one_if (at_key p k o)) (get-entries m k)
    ∙ put-count p k v (maps.entries m) (entries_sorted m)

again : (m : Blocks) (k : Key) (b : Block) → maps.get m k ≡ Some b → m ≡ maps.insert (maps.remove m k) k b
again m k b is = same_map keys_total exact_keys _ _ (λ q.
    go q (eq_by_cmp key_cmp q k) refl
    ∙ sym (get-insert keys_total (maps.remove m k) k b q ∙ ap (λ o. cond (eq_by_cmp key_cmp q k) (Some b) o) (get-remove keys_total m k q)))
  where
    go : (q : Key) (t : Bool) → eq_by_cmp key_cmp q k ≡ t → maps.get m q ≡ cond t (Some b) (cond t None (maps.get m q))
    go q true on = ap (maps.get m) (exact_keys q k (eq_true _ on)) ∙ is
    go q false off = refl

sum_less : (a n r z o : ℕ) → a ≡ n → n + z ≡ r + o → z ≡ 0 → r + o ≡ a
sum_less a n r z o p q s = omega arith

-- a block that is taken out counts no more
pub count-remove : (p : Key × Block → Bool) (m : Blocks) (k : Key) (b : Block) → maps.get m k ≡ Some b
    → count_by p (maps.entries (maps.remove m k)) + one_if (p (k, b)) ≡ count_by p (maps.entries m)
count-remove p m k b is =
    let rest : Blocks = maps.remove m k in
    sum_less (count_by p (maps.entries m)) (count_by p (maps.entries (maps.insert rest k b))) (count_by p (maps.entries rest)) (one_if (at_key p k (maps.get rest k))) (one_if (p (k, b)))
    (ap (λ n. count_by p (maps.entries n)) (again m k b is)) (count-insert p rest k b)
    (ap (λ o. one_if (at_key p k o)) (get-remove keys_total m k k ∙ ap (λ r. cond (is_eq r) None (maps.get m k)) (tied_itself keys_total k)))

alike_entries : (p q : Key × Block → Bool) (es : Entries) → T (is_sorted key_cmp es) → ((k : Key) (b : Block) → find key_cmp k es ≡ Some b → p (k, b) ≡ q (k, b))
    → count_by p es ≡ count_by q es
alike_entries p q [] h same = refl
alike_entries p q (e ∷ es) h same =
    let first : p e ≡ q e = same e.0 e.1 (ap (λ r. cond (is_eq r) (Some e.1) (find key_cmp e.0 es)) (tied_itself keys_total e.0)) in
    let rest = alike_entries p q es (right _ _ h) (λ k b at. same k b (ap (λ t. cond t (Some e.1) (find key_cmp k es)) (apart k b at (eq_by_cmp key_cmp k e.0) refl) ∙ at)) in
    count-cons p e es ∙ ap (λ t. one_if t + count_by p es) first ∙ ap (λ n. one_if (q e) + n) rest ∙ sym (count-cons q e es)
  where
    apart : (k : Key) (b : Block) → find key_cmp k es ≡ Some b → (t : Bool) → eq_by_cmp key_cmp k e.0 ≡ t → t ≡ false
    apart k b at true on =
        let gone : find key_cmp k es ≡ None = ap (λ (x : Key). find key_cmp x es) (exact_keys k e.0 (eq_true _ on)) ∙ find-below e.0 es (left _ _ h) in cc
    apart k b at false off = refl

-- two tests that agree at each block count the same
pub alike : (p q : Key × Block → Bool) (m : Blocks) → ((k : Key) (b : Block) → maps.get m k ≡ Some b → p (k, b) ≡ q (k, b))
    → count_by p (maps.entries m) ≡ count_by q (maps.entries m)
alike p q m same = alike_entries p q (maps.entries m) (entries_sorted m) (λ k b at. same k b (get-entries m k ∙ at))

pub count-len : (p : Key × Block → Bool) (m : Blocks) → count_by p (maps.entries m) ≤ maps.len m
count-len p m = omega (arith, len-entries m, count_by-le-length p (maps.entries m))
