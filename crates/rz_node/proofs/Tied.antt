-- What an index shows of the heads of cells.
use Rattle.std.proofs.Common.{◌≡◌, ◌≢◌, ℕ, zero, suc, ◌+◌, ◌<◌, ◌≤◌, true, false, cond, T, List, [], ◌∷◌, length, map, Option, Some, None, refl, sym, ◌∙◌, ap, subst, arith}
use Rattle.std.specs.Prelude.{◌&&◌}
use Rattle.std.specs.Option.{option_map}
use Rattle.std.specs.List.{AllByRecursion, range_with_len}
use Rattle.std.specs.Ordering.{eq_by_cmp, is_lt}
use Rattle.std.specs.FinMap as maps
use Rattle.std.specs.FinMap.{find, is_sorted, entries_sorted, entries-from_sorted, get-entries, len-entries, get-empty, len-empty, same_map}
use Rattle.std.specs.FinMap.Entries.{below_all}
use Rattle.std.proofs.lemmas.List.{length-map}
use Rattle.rz_events.specs.Keys.{key_cmp, keys_total, exact_keys}
use Rattle.rz_events.specs.declared.keys.Key.{Key}
use Rattle.rz_events.specs.declared.records.Head.{Head}
use Rattle.rz_events.specs.declared.records.Held.{Held}
use Rattle.rz_node_model.specs.Records.{held_of, listed}
use Rattle.rz_index.specs.declared.index.Entry.{Entry}
use Rattle.rz_index.specs.Indexed.{Indexed}
use Rattle.rz_cells_slots.specs.Held.{in_cell}
use Rattle.rz_node.specs.Kept.{records_in, held_by, IsFree, Distinct, IsTied}

abbrev pub Entries : Type 0
Entries = maps.FinMap key_cmp Entry

-- ---- the held map

abbrev shown_as : List (Option Head) → Key × Entry → Key × List Held
shown_as heads p = (p.0, records_in heads p.1.cell)

find-shown : (heads : List (Option Head)) (q : Key) (es : List (Key × Entry)) → find key_cmp q (map (shown_as heads) es) ≡ option_map (λ (e : Entry). records_in heads e.cell) (find key_cmp q es)
find-shown heads q [] = refl
find-shown heads q (e ∷ es) =
    elim (eq_by_cmp key_cmp q e.0) as (λ b. cond b (Some (records_in heads e.1.cell)) (find key_cmp q (map (shown_as heads) es)) ≡ option_map (λ (e : Entry). records_in heads e.cell) (cond b (Some e.1) (find key_cmp q es))) [
      | true ↦ refl
      | false ↦ find-shown heads q es
    ]

below-shown : (heads : List (Option Head)) (k : Key) (es : List (Key × Entry)) → below_all key_cmp k (map (shown_as heads) es) ≡ below_all key_cmp k es
below-shown heads k [] = refl
below-shown heads k (e ∷ es) = ap (λ b. is_lt (key_cmp k e.0) && b) (below-shown heads k es)

sorted-shown : (heads : List (Option Head)) (es : List (Key × Entry)) → is_sorted key_cmp (map (shown_as heads) es) ≡ is_sorted key_cmp es
sorted-shown heads [] = refl
sorted-shown heads (e ∷ es) = λ i. below-shown heads e.0 es i && sorted-shown heads es i

pub entries-held : (entries : Entries) (heads : List (Option Head)) → maps.entries (held_by entries heads) ≡ map (shown_as heads) (maps.entries entries)
entries-held entries heads = entries-from_sorted key_cmp (map (shown_as heads) (maps.entries entries)) (subst T (sym (sorted-shown heads (maps.entries entries))) (entries_sorted entries))

pub get-held : (entries : Entries) (heads : List (Option Head)) (q : Key) → maps.get (held_by entries heads) q ≡ option_map (λ (e : Entry). records_in heads e.cell) (maps.get entries q)
get-held entries heads q =
    get-entries (held_by entries heads) q ∙ ap (find key_cmp q) (entries-held entries heads) ∙ find-shown heads q (maps.entries entries)
    ∙ ap (option_map (λ (e : Entry). records_in heads e.cell)) (sym (get-entries entries q))

pub len-held : (entries : Entries) (heads : List (Option Head)) → maps.len (held_by entries heads) ≡ maps.len entries
len-held entries heads =
    len-entries (held_by entries heads) ∙ ap length (entries-held entries heads) ∙ length-map (maps.entries entries) (shown_as heads) ∙ sym (len-entries entries)

keys-shown : (heads : List (Option Head)) (es : List (Key × Entry)) → map (λ (e : Key × List Held). e.0) (map (shown_as heads) es) ≡ map (λ (e : Key × Entry). e.0) es
keys-shown heads [] = refl
keys-shown heads (e ∷ es) = ap (λ (ks : List Key). e.0 ∷ ks) (keys-shown heads es)

pub keys-held : (entries : Entries) (heads : List (Option Head)) → maps.keys (held_by entries heads) ≡ maps.keys entries
keys-held entries heads = ap (map (λ (e : Key × List Held). e.0)) (entries-held entries heads) ∙ keys-shown heads (maps.entries entries)

pub held-empty : (heads : List (Option Head)) → held_by maps.empty heads ≡ maps.empty
held-empty heads = same_map keys_total exact_keys _ _ (λ q. get-held maps.empty heads q ∙ ap (option_map (λ (e : Entry). records_in heads e.cell)) (get-empty key_cmp q) ∙ sym (get-empty key_cmp q))

-- the records of a key are those of its pair
pub held-shown : (entries : Entries) (heads : List (Option Head)) (key : Key) (e : Entry) → maps.get entries key ≡ Some e → held_of (held_by entries heads) key ≡ records_in heads e.cell
held-shown entries heads key e is = ap listed (get-held entries heads key ∙ ap (option_map (λ (e : Entry). records_in heads e.cell)) is)

pub held-not : (entries : Entries) (heads : List (Option Head)) (key : Key) → maps.get entries key ≡ None → held_of (held_by entries heads) key ≡ []
held-not entries heads key is = ap listed (get-held entries heads key ∙ ap (option_map (λ (e : Entry). records_in heads e.cell)) is)

-- ---- an empty index

module _ (pairs : ℕ) (heads : List (Option Head)) (empty : (cell : ℕ) → in_cell heads cell ≡ None) where
  all-free : (first n : ℕ) → first + n ≤ pairs → AllByRecursion (IsFree pairs heads) (range_with_len first n)
  all-free first zero le = tt
  all-free first (suc n) le = (record { within = omega arith; zero = empty _; one = empty _ }, all-free (first + 1) n (omega arith))

later : (low first n : ℕ) → low < first → AllByRecursion (λ q. q ≢ low) (range_with_len first n)
later low first zero lt = tt
later low first (suc n) lt = (λ same. omega arith, later low (first + 1) n (omega arith))

range-distinct : (first n : ℕ) → Distinct (range_with_len first n)
range-distinct first zero = tt
range-distinct first (suc n) = (later first (first + 1) n (omega arith), range-distinct (first + 1) n)

length-range : (first n : ℕ) → length (range_with_len first n) ≡ n
length-range first zero = refl
length-range first (suc n) = ap suc (length-range (first + 1) n)

pub tied-fresh : (pairs : ℕ) (heads : List (Option Head)) → ((cell : ℕ) → in_cell heads cell ≡ None) → (index : Indexed) → index ≡ record { entries = maps.empty; free = range_with_len 0 pairs } → IsTied pairs heads index
tied-fresh pairs heads empty index is = subst (IsTied pairs heads) (sym is) (record {
  shown = λ key e there. let none : None ≡ Some e = sym (get-empty key_cmp key) ∙ there in absurd (cc);
  heads_in = λ cell h there. let none : None ≡ Some h = sym (empty cell) ∙ there in absurd (cc);
  free = all-free pairs heads empty 0 pairs (omega arith);
  distinct = range-distinct 0 pairs;
  count = omega (arith, len-empty key_cmp Entry, length-range 0 pairs);
})
