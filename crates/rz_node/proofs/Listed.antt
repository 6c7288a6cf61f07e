-- The rows of an index, from the heads of cells.
use Rattle.std.proofs.Common.{◌≡◌, ◌≢◌, ⊎_elim, ℕ, suc, ◌+◌, ◌*◌, ◌/◌, ◌<◌, ◌≤◌, false, List, [], ◌∷◌, ◌++◌, length, get_or, map, Option, Some, None, refl, sym, ◌∙◌, ap, subst, arith}
use Rattle.std.specs.Prelude.{◌||◌}
use Rattle.std.specs.Option.{option_map}
use Rattle.std.specs.List.{AllByRecursion, Contains, IsDistinct, list_any}
use Rattle.std.specs.Ordering.{eq_by_cmp}
use Rattle.std.specs.Cmp.{eq_by_cmp_equiv}
use Rattle.std.specs.FinMap as maps
use Rattle.std.specs.FinMap.{same_map}
use Rattle.std.proofs.lemmas.Bool.{cases_lt}
use Rattle.std.proofs.lemmas.List.{map-append, get_or_past}
use Rattle.std.proofs.lemmas.List.Elements.{Contains-append_left, Contains-push, Contains-append_cases}
use Rattle.std.proofs.lemmas.Map.Keys.{IsDistinct-push}
use Rattle.rz_events.specs.Keys.{key_cmp, keys_total, exact_keys}
use Rattle.rz_events.specs.declared.keys.Key.{Key}
use Rattle.rz_events.specs.declared.records.Head.{Head}
use Rattle.rz_index.specs.declared.index.Entry.{Entry}
use Rattle.rz_index.specs.Indexed.{Indexed}
use Rattle.rz_cells_slots.specs.Held.{Apart, in_cell}
use Rattle.rz_node.specs.Kept.{records_in, held_by, IsShown, IsFree, Distinct, IsTied}
use Rattle.rz_node.specs.Rows.{IsRows}
use Rattle.rz_node.proofs.Tied.{get-held}
use Rattle.rz_node.proofs.Places.{some-head, no-head}
use Rattle.rz_node.proofs.Clears.{all-push, distinct-push, length-push}
use Rattle.rz_node.proofs.Changes.{key-cases}

-- ---- two indexes of the same heads show the same records

module _ (pairs : ℕ) (heads : List (Option Head)) (i j : Indexed) (tied_i : IsTied pairs heads i) (tied_j : IsTied pairs heads j) where
  shown-too : (q : Key) (e : Entry) → maps.get i.entries q ≡ Some e → option_map (λ (f : Entry). records_in heads f.cell) (maps.get j.entries q) ≡ Some (records_in heads e.cell)
  shown-too q e is =
      let shown = tied_i.shown q e is in
      let at = some-head heads e.cell shown.some in
      let named = shown.keys at.0 at.1 at.2 at.3 in
      let other = tied_j.heads_in at.0 at.1 at.3 in
      ap (λ (k : Key). option_map (λ (f : Entry). records_in heads f.cell) (maps.get j.entries k)) (sym named)
      ∙ ap (option_map (λ (f : Entry). records_in heads f.cell)) other.1
      ∙ ap (λ (c : ℕ). Some (records_in heads c)) (sym other.2 ∙ at.2)

module _ (pairs : ℕ) (heads : List (Option Head)) (i j : Indexed) (tied_i : IsTied pairs heads i) (tied_j : IsTied pairs heads j) where
  same-records : (q : Key) (a b : Option Entry) → maps.get i.entries q ≡ a → maps.get j.entries q ≡ b → option_map (λ (f : Entry). records_in heads f.cell) a ≡ option_map (λ (f : Entry). records_in heads f.cell) b
  same-records q None None p r = refl
  same-records q (Some e) b p r = sym (shown-too pairs heads i j tied_i tied_j q e p) ∙ ap (option_map (λ (f : Entry). records_in heads f.cell)) r
  same-records q None (Some f) p r = sym (ap (option_map (λ (f : Entry). records_in heads f.cell)) p) ∙ shown-too pairs heads j i tied_j tied_i q f r

  pub same-held : held_by i.entries heads ≡ held_by j.entries heads
  same-held = same_map keys_total exact_keys _ _ (λ q. get-held i.entries heads q ∙ same-records q (maps.get i.entries q) (maps.get j.entries q) refl refl ∙ sym (get-held j.entries heads q))

-- ---- rows

abbrev pub keys_in : List Entry → List Key
keys_in es = map (λ (e : Entry). e.key) es

none-distinct : IsDistinct (eq_by_cmp key_cmp) []
unfolding IsDistinct
none-distinct = tt

pub rows-none : (pairs : ℕ) (heads : List (Option Head)) → IsRows pairs heads 0 [] []
rows-none pairs heads = record {
  shown = λ e there. absurd (omega (arith, there.1));
  there = λ cell h lt is. absurd (omega (arith, lt));
  keys = none-distinct;
  empty = tt;
  below = tt;
  distinct = tt;
  count = refl;
}

less-all : (k : ℕ) (ps : List ℕ) → AllByRecursion (λ p. p < k) ps → AllByRecursion (λ p. p < k + 1) ps
less-all k [] all = tt
less-all k (p ∷ ps) all = (omega (arith, all.0), less-all k ps all.1)

differ-all : (k : ℕ) (ps : List ℕ) → AllByRecursion (λ p. p < k) ps → AllByRecursion (λ p. p ≢ k) ps
differ-all k [] all = tt
differ-all k (p ∷ ps) all = (λ same. omega (arith, same, all.0), differ-all k ps all.1)

-- no key among these is this one
none-equal : (key : Key) (es : List Entry) → ((e : Entry) → Contains es e → e.key ≢ key) → list_any (eq_by_cmp key_cmp key) (keys_in es) ≡ false
none-equal key [] differ = refl
none-equal key (e ∷ es) differ =
    λ i. ⊎_elim (λ (same : key ≡ e.key). absurd (differ e (0, omega arith, refl) (sym same))) (λ (is : eq_by_cmp key_cmp key e.key ≡ false). is) (key-cases key e.key) i
    || none-equal key es (λ f there. differ f (suc there.0, omega (arith, there.1), there.2)) i

module _ (pairs : ℕ) (heads : List (Option Head)) (k : ℕ) (entries : List Entry) (free : List ℕ) (rows : IsRows pairs heads k entries free) where
  -- one more free pair
  pub rows-free : IsFree pairs heads k → IsRows pairs heads (k + 1) entries (free ++ k ∷ [])
  rows-free is_free = record {
    shown = λ e there. let s = rows.shown e there in (s.0, omega (arith, s.1));
    there = λ cell h lt is. ⊎_elim
        (λ (low : cell / 2 < k). rows.there cell h low is)
        (λ (high : k ≤ cell / 2). absurd (no-head pairs heads k cell h is_free (omega (arith, lt, high)) is))
        (cases_lt (cell / 2) k);
    keys = rows.keys;
    empty = all-push (IsFree pairs heads) free k rows.empty is_free;
    below = all-push (λ p. p < k + 1) free k (less-all k free rows.below) (omega arith);
    distinct = distinct-push free k rows.distinct (differ-all k free rows.below);
    count = let more = length-push free k in omega (arith, rows.count, more);
  }

  -- one more entry
  pub rows-entry : Apart heads → (e : Entry) → IsShown pairs heads e.key e → e.cell ≡ k → IsRows pairs heads (k + 1) (entries ++ e ∷ []) free
  rows-entry apart e shown at = record {
    shown = λ f there. ⊎_elim
        (λ (was : Contains entries f). let s = rows.shown f was in (s.0, omega (arith, s.1)))
        (λ (new : Contains (e ∷ []) f). subst (λ (x : Entry). IsShown pairs heads x.key x × (x.cell < k + 1)) (only-one f new) (shown, omega (arith, at)))
        (Contains-append_cases entries (e ∷ []) f there);
    there = λ cell h lt is. ⊎_elim
        (λ (low : cell / 2 < k). let was = rows.there cell h low is in (was.0, Contains-append_left entries (e ∷ []) was.0 was.1, was.2, was.3))
        (λ (high : k ≤ cell / 2). (e, Contains-push entries e, sym (shown.keys cell h (omega (arith, lt, high, at)) is), omega (arith, lt, high, at)))
        (cases_lt (cell / 2) k);
    keys = subst (IsDistinct (eq_by_cmp key_cmp)) (sym (map-append (λ (x : Entry). x.key) entries (e ∷ []))) (IsDistinct-push (eq_by_cmp_equiv keys_total) (keys_in entries) e.key rows.keys (none-equal e.key entries new-key));
    empty = rows.empty;
    below = less-all k free rows.below;
    distinct = rows.distinct;
    count = let more = length-more entries e in omega (arith, rows.count, more);
  }
    where
      only-one : (f : Entry) → Contains (e ∷ []) f → e ≡ f
      only-one f there = subst (λ (n : ℕ). get_or (e ∷ []) n f ≡ f) (let z : there.0 ≡ 0 = omega (arith, there.1) in z) there.2

      length-more : (es : List Entry) (x : Entry) → length (es ++ x ∷ []) ≡ length es + 1
      length-more [] x = omega arith
      length-more (y ∷ ys) x = let more = length-more ys x in omega arith

      -- no earlier pair has the key
      new-key : (f : Entry) → Contains entries f → f.key ≢ e.key
      new-key f there same =
          let was = rows.shown f there in
          let a = some-head heads f.cell was.0.some in
          let b = some-head heads e.cell shown.some in
          let ka = was.0.keys a.0 a.1 a.2 a.3 in
          let kb = shown.keys b.0 b.1 b.2 b.3 in
          let apart_cells : a.0 ≢ b.0 = λ one. omega (arith, one, a.2, b.2, was.1, at) in
          let pair : a.0 / 2 ≡ b.0 / 2 = (apart a.0 b.0 a.1 b.1 apart_cells a.3 b.3).one_pair (ka ∙ same ∙ sym kb) in
          absurd (omega (arith, pair, a.2, b.2, was.1, at))

-- all rows are those of an index of the heads
pub tied-rows : (pairs : ℕ) (heads : List (Option Head)) (entries : List Entry) (free : List ℕ) (index : Indexed) → IsRows pairs heads pairs entries free → length heads ≡ 2 * pairs
    → ((e : Entry) → Contains entries e → maps.get index.entries e.key ≡ Some e) → ((key : Key) (e : Entry) → maps.get index.entries key ≡ Some e → Contains entries e × (e.key ≡ key))
    → maps.len index.entries ≡ length entries → index.free ≡ free → IsTied pairs heads index
tied-rows pairs heads entries free index rows long has only count free_is = record {
  shown = λ key e is. let o = only key e is in subst (λ (q : Key). IsShown pairs heads q e) o.1 (rows.shown e o.0).0;
  heads_in = λ cell h is. let t = rows.there cell h (within cell h is) is in (t.0, ap (maps.get index.entries) (sym t.2) ∙ has t.0 t.1, t.3);
  free = subst (AllByRecursion (IsFree pairs heads)) (sym free_is) rows.empty;
  distinct = subst Distinct (sym free_is) rows.distinct;
  count = let more = ap length free_is in omega (arith, count, more, rows.count);
}
  where
    within : (cell : ℕ) (h : Head) → in_cell heads cell ≡ Some h → cell / 2 < pairs
    within cell h is = ⊎_elim
        (λ (low : cell < length heads). omega (arith, low, long))
        (λ (past : length heads ≤ cell). let none : None ≡ Some h = sym (past-none heads cell past) ∙ is in absurd (cc))
        (cases_lt cell (length heads))
      where
        past-none : (hs : List (Option Head)) (c : ℕ) → length hs ≤ c → in_cell hs c ≡ None
        past-none hs c past = get_or_past hs c None past
