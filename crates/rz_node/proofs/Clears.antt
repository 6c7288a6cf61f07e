-- A record is cleared from a side of its pair.
use Rattle.std.proofs.Common.{◌≡◌, ◌≢◌, ⊎_elim, ℕ, ◌+◌, ◌-◌, ◌*◌, ◌/◌, ◌<◌, Bool, true, false, cond, List, [], ◌∷◌, ◌++◌, length, map, set, Option, Some, None, refl, sym, ◌∙◌, ap, subst, arith}
use Rattle.std.specs.Prelude.{is_some, nat_lt}
use Rattle.std.specs.Option.{option_map}
use Rattle.std.specs.List.{AllByRecursion}
use Rattle.std.specs.Ordering.{eq_by_cmp}
use Rattle.std.specs.FinMap as maps
use Rattle.std.specs.FinMap.{same_map, len-remove}
use Rattle.std.proofs.lemmas.Bool.{cases_eq}
use Rattle.rz_events.specs.Keys.{key_cmp, keys_total, exact_keys}
use Rattle.rz_events.specs.declared.keys.Key.{Key}
use Rattle.rz_events.specs.declared.records.Head.{Head}
use Rattle.rz_events.specs.declared.records.Held.{Held}
use Rattle.rz_node_model.specs.Records.{Records, record_of, stamp_of, with_held}
use Rattle.rz_versions.specs.declared.versions.Version.{Version}
use Rattle.rz_versions.specs.Sides.{Sides, ordered, in_order, put_at}
use Rattle.rz_versions.specs.Sides as sides
use Rattle.rz_index.specs.declared.index.Entry.{Entry}
use Rattle.rz_index.specs.Indexed.{Indexed, taken_in, freed_by}
use Rattle.rz_cells_slots.specs.Held.{in_cell}
use Rattle.rz_node.specs.Kept.{sides_in, records_in, held_by, version_of, versions_of, IsShown, IsFree, IsIndexed, Distinct, IsTied}
use Rattle.rz_node.proofs.Tied.{get-held}
use Rattle.rz_node.proofs.Turns.{order-map}
use Rattle.rz_node.proofs.Places.{Placed, two-cells}
use Rattle.rz_node.proofs.Changes.{key-cases, not-key, get-own, get-other, gone-own, gone-other, put-versions, own, other, sides-other, sides-own, shown-other, free-other}

pub all-push : (P : ℕ → Type 0) (ps : List ℕ) (p : ℕ) → AllByRecursion P ps → P p → AllByRecursion P (ps ++ p ∷ [])
all-push P [] p all last = (last, tt)
all-push P (q ∷ ps) p all last = (all.0, all-push P ps p all.1 last)

pub distinct-push : (ps : List ℕ) (p : ℕ) → Distinct ps → AllByRecursion (λ q. q ≢ p) ps → Distinct (ps ++ p ∷ [])
distinct-push [] p all ne = (tt, tt)
distinct-push (q ∷ ps) p all ne = (all-push (λ r. r ≢ q) ps p all.0 (λ same. ne.0 (sym same)), distinct-push ps p all.1 ne.1)

pub length-push : (ps : List ℕ) (p : ℕ) → length (ps ++ p ∷ []) ≡ length ps + 1
length-push [] p = omega arith
length-push (q ∷ ps) p = let more = length-push ps p in omega arith

module _ (pairs : ℕ) (heads : List (Option Head)) (index : Indexed) (tied : IsTied pairs heads index) (key : Key) (e : Entry) (there : maps.get index.entries key ≡ Some e) (placed : Placed pairs heads index key e)
    (side cell : ℕ) (two : side < 2) (at : cell ≡ 2 * e.cell + side) (long : length heads ≡ 2 * pairs) where
  abbrev after : List (Option Head)
  after = set heads cell None

  abbrev entry : Entry
  entry = record { key = key; cell = e.cell; versions = put_at e.versions side None }

  fits : cell < length heads
  fits = let within = placed.within in omega (arith, within, at, two, long)

  sides-after : sides_in after e.cell ≡ put_at (sides_in heads e.cell) side None
  sides-after = sides-own pairs heads e.cell side cell None two at fits

  pub records-after : records_in after e.cell ≡ in_order stamp_of (put_at (sides_in heads e.cell) side None)
  records-after = ap (in_order stamp_of) sides-after

  -- what an index shows when the pair's entry is this one, or none
  was-there : (c : ℕ) (k : Head) → in_cell after c ≡ Some k → (c ≢ cell) × (in_cell heads c ≡ Some k)
  was-there c k is = ⊎_elim
      (λ (same : c ≡ cell). let none : None ≡ Some k = sym (own pairs heads e.cell side cell None two at fits c same) ∙ is in absurd (cc))
      (λ (ne : c ≢ cell). (ne, sym (other pairs heads e.cell side cell None two at fits c ne) ∙ is))
      (cases_eq c cell)

  elsewhere : (q : Key) (f : Entry) → eq_by_cmp key_cmp q key ≡ false → maps.get index.entries q ≡ Some f → f.cell ≢ e.cell
  elsewhere q f differs is same = not-key q key differs (placed.apart q f is same)

  the-entry : (f g : Entry) → Some f ≡ Some g → f ≡ g
  the-entry f g is = cc

  same-records : (q : Key) → eq_by_cmp key_cmp q key ≡ false → (o : Option Entry) → maps.get index.entries q ≡ o → option_map (λ (f : Entry). records_in after f.cell) o ≡ option_map (λ (f : Entry). records_in heads f.cell) (maps.get index.entries q)
  same-records q differs None is = ap (option_map (λ (f : Entry). records_in heads f.cell)) (sym is)
  same-records q differs (Some f) is =
      ap (λ (s : Sides Held). Some (in_order stamp_of s)) (sides-other pairs heads e.cell side cell None two at fits f.cell (elsewhere q f differs is))
      ∙ ap (option_map (λ (g : Entry). records_in heads g.cell)) (sym is)

  -- ---- a record is left

  module _ (left : records_in after e.cell ≢ []) where
    shown-own : IsShown pairs after key entry
    shown-own = record {
      named = refl;
      within = placed.within;
      keys = λ c k in_pair is. placed.keys c k in_pair (was-there c k is).1;
      versions =
          ap (λ (v : Sides Version). put_at v side None) placed.versions
          ∙ sym (put-versions (sides_in heads e.cell) side None) ∙ ap versions_of (sym sides-after);
      some = left;
    }

    abbrev index_after : Indexed
    index_after = record { entries = maps.insert index.entries key entry; free = taken_in (maps.get index.entries key) e.cell index.free }

    shown-after : (q : Key) (f : Entry) → maps.get index_after.entries q ≡ Some f → IsShown pairs after q f
    shown-after q f is = ⊎_elim
        (λ (same : q ≡ key).
        let own_is : Some entry ≡ Some f = sym (get-own index.entries key entry) ∙ ap (maps.get index_after.entries) (sym same) ∙ is in
        subst (λ (k : Key). IsShown pairs after k f) (sym same) (subst (IsShown pairs after key) (the-entry entry f own_is) shown-own))
        (λ (differs : eq_by_cmp key_cmp q key ≡ false).
        let was : maps.get index.entries q ≡ Some f = sym (get-other index.entries key entry q differs) ∙ is in
        shown-other pairs heads e.cell side cell None two at fits q f (elsewhere q f differs was) (tied.shown q f was))
        (key-cases q key)

    indexed-after : (c : ℕ) (k : Head) → in_cell after c ≡ Some k → IsIndexed index_after.entries c k
    indexed-after c k is =
        let was = tied.heads_in c k (was-there c k is).1 in
        ⊎_elim
        (λ (same : k.key ≡ key).
        (entry, ap (maps.get index_after.entries) same ∙ get-own index.entries key entry, was.2 ∙ placed.same was.0 (ap (maps.get index.entries) (sym same) ∙ was.1)))
        (λ (differs : eq_by_cmp key_cmp k.key key ≡ false). (was.0, get-other index.entries key entry k.key differs ∙ was.1, was.2))
        (key-cases k.key key)

    pub tied-left : (index' : Indexed) → index'.entries ≡ maps.insert index.entries key entry → index'.free ≡ taken_in (maps.get index.entries key) e.cell index.free → IsTied pairs after index'
    tied-left index' entries_is free_is = subst (IsTied pairs after) (λ i. record { entries = sym entries_is i; free = sym free_is i }) (record {
      shown = shown-after;
      heads_in = indexed-after;
      free = free-other pairs heads e.cell side cell None two at fits (taken_in (maps.get index.entries key) e.cell index.free) placed.others placed.free;
      distinct = placed.distinct;
      count = placed.count entry;
    })

    held-insert : (q : Key) → maps.get (held_by (maps.insert index.entries key entry) after) q ≡ maps.get (maps.insert (held_by index.entries heads) key (records_in after e.cell)) q
    held-insert q = get-held (maps.insert index.entries key entry) after q ∙ ⊎_elim
        (λ (same : q ≡ key). subst (λ (k : Key). option_map (λ (f : Entry). records_in after f.cell) (maps.get (maps.insert index.entries key entry) k) ≡ maps.get (maps.insert (held_by index.entries heads) key (records_in after e.cell)) k) (sym same)
        (ap (option_map (λ (f : Entry). records_in after f.cell)) (get-own index.entries key entry) ∙ sym (get-own (held_by index.entries heads) key (records_in after e.cell))))
        (λ (differs : eq_by_cmp key_cmp q key ≡ false).
        ap (option_map (λ (f : Entry). records_in after f.cell)) (get-other index.entries key entry q differs) ∙ same-records q differs (maps.get index.entries q) refl
        ∙ sym (get-held index.entries heads q) ∙ sym (get-other (held_by index.entries heads) key (records_in after e.cell) q differs))
        (key-cases q key)

    with-some : (held : Records) (rs : List Held) → rs ≢ [] → with_held held key rs ≡ maps.insert held key rs
    with-some held [] some = absurd (some refl)
    with-some held (r ∷ rs) some = refl

    pub held-left : (entries' : maps.FinMap key_cmp Entry) → entries' ≡ maps.insert index.entries key entry → held_by entries' after ≡ with_held (held_by index.entries heads) key (records_in after e.cell)
    held-left entries' is = ap (λ (m : maps.FinMap key_cmp Entry). held_by m after) is ∙ same_map keys_total exact_keys _ _ held-insert ∙ sym (with-some (held_by index.entries heads) (records_in after e.cell) left)

  -- ---- none is left

  module _ (none : records_in after e.cell ≡ []) (zero : in_cell after (2 * e.cell) ≡ None) (one : in_cell after (2 * e.cell + 1) ≡ None) where
    abbrev index_gone : Indexed
    index_gone = record { entries = maps.remove index.entries key; free = freed_by (maps.get index.entries key) index.free }

    free-is : freed_by (maps.get index.entries key) index.free ≡ index.free ++ e.cell ∷ []
    free-is = ap (λ (o : Option Entry). freed_by o index.free) there

    taken-is : taken_in (maps.get index.entries key) e.cell index.free ≡ index.free
    taken-is = ap (λ (o : Option Entry). taken_in o e.cell index.free) there

    others-free : AllByRecursion (λ p. p ≢ e.cell) index.free
    others-free = subst (AllByRecursion (λ p. p ≢ e.cell)) taken-is placed.others

    shown-gone : (q : Key) (f : Entry) → maps.get index_gone.entries q ≡ Some f → IsShown pairs after q f
    shown-gone q f is = ⊎_elim
        (λ (same : q ≡ key). let no_entry : None ≡ Some f = sym (gone-own index.entries key) ∙ ap (maps.get index_gone.entries) (sym same) ∙ is in absurd (cc))
        (λ (differs : eq_by_cmp key_cmp q key ≡ false).
        let was : maps.get index.entries q ≡ Some f = sym (gone-other index.entries key q differs) ∙ is in
        shown-other pairs heads e.cell side cell None two at fits q f (elsewhere q f differs was) (tied.shown q f was))
        (key-cases q key)

    indexed-gone : (c : ℕ) (k : Head) → in_cell after c ≡ Some k → IsIndexed index_gone.entries c k
    indexed-gone c k is =
        let was = tied.heads_in c k (was-there c k is).1 in
        ⊎_elim
        (λ (same : k.key ≡ key).
        let in_pair : c / 2 ≡ e.cell = was.2 ∙ placed.same was.0 (ap (maps.get index.entries) (sym same) ∙ was.1) in
        absurd (not-here in_pair))
        (λ (differs : eq_by_cmp key_cmp k.key key ≡ false). (was.0, gone-other index.entries key k.key differs ∙ was.1, was.2))
        (key-cases k.key key)
      where
        not-here : c / 2 ≡ e.cell → ⊥
        not-here in_pair = ⊎_elim
            (λ (low : c ≡ 2 * e.cell). let no_head : None ≡ Some k = sym zero ∙ ap (in_cell after) (sym low) ∙ is in absurd (cc))
            (λ (high : c ≡ 2 * e.cell + 1). let no_head : None ≡ Some k = sym one ∙ ap (in_cell after) (sym high) ∙ is in absurd (cc))
            (two-cells c e.cell in_pair)

    gone-count : maps.len (maps.remove index.entries key) + length (index.free ++ e.cell ∷ []) ≡ pairs
    gone-count =
        let less : maps.len (maps.remove index.entries key) ≡ maps.len index.entries - 1 = len-remove keys_total index.entries key ∙ ap (λ (o : Option Entry). cond (is_some o) (maps.len index.entries - 1) (maps.len index.entries)) there in
        let more : length (index.free ++ e.cell ∷ []) ≡ length index.free + 1 = length-push index.free e.cell in
        let some : maps.len index.entries ≢ 0 = λ zero_len. no-entries zero_len in
        omega (arith, less, more, some, tied.count)
      where
        no-entries : maps.len index.entries ≡ 0 → ⊥
        no-entries zero_len =
            let empty = maps.empty_of_len index.entries zero_len in
            let none_there : None ≡ Some e = sym (maps.get-empty key_cmp key) ∙ ap (λ (m : maps.FinMap key_cmp Entry). maps.get m key) (sym empty) ∙ there in
            absurd (cc)

    pub tied-gone : (index' : Indexed) → index'.entries ≡ maps.remove index.entries key → index'.free ≡ freed_by (maps.get index.entries key) index.free → IsTied pairs after index'
    tied-gone index' entries_is free_is' = subst (IsTied pairs after) (λ i. record { entries = sym entries_is i; free = sym free_is' i }) (record {
      shown = shown-gone;
      heads_in = indexed-gone;
      free = subst (AllByRecursion (IsFree pairs after)) (sym free-is)
          (all-push (IsFree pairs after) index.free e.cell (free-other pairs heads e.cell side cell None two at fits index.free others-free tied.free) (record { within = placed.within; zero = zero; one = one }));
      distinct = subst Distinct (sym free-is) (distinct-push index.free e.cell tied.distinct others-free);
      count = ap (λ (ps : List ℕ). maps.len (maps.remove index.entries key) + length ps) free-is ∙ gone-count;
    })

    held-remove : (q : Key) → maps.get (held_by (maps.remove index.entries key) after) q ≡ maps.get (maps.remove (held_by index.entries heads) key) q
    held-remove q = get-held (maps.remove index.entries key) after q ∙ ⊎_elim
        (λ (same : q ≡ key). subst (λ (k : Key). option_map (λ (f : Entry). records_in after f.cell) (maps.get (maps.remove index.entries key) k) ≡ maps.get (maps.remove (held_by index.entries heads) key) k) (sym same)
        (ap (option_map (λ (f : Entry). records_in after f.cell)) (gone-own index.entries key) ∙ sym (gone-own (held_by index.entries heads) key)))
        (λ (differs : eq_by_cmp key_cmp q key ≡ false).
        ap (option_map (λ (f : Entry). records_in after f.cell)) (gone-other index.entries key q differs) ∙ same-records q differs (maps.get index.entries q) refl
        ∙ sym (get-held index.entries heads q) ∙ sym (gone-other (held_by index.entries heads) key q differs))
        (key-cases q key)

    pub held-gone : (entries' : maps.FinMap key_cmp Entry) → entries' ≡ maps.remove index.entries key → held_by entries' after ≡ with_held (held_by index.entries heads) key (records_in after e.cell)
    held-gone entries' is = ap (λ (m : maps.FinMap key_cmp Entry). held_by m after) is ∙ same_map keys_total exact_keys _ _ held-remove ∙ ap (with_held (held_by index.entries heads) key) (sym none)

  empty-sides : (a b : Option Held) → ordered stamp_of a b ≡ [] → (a ≡ None) × (b ≡ None)
  empty-sides None None is = (refl, refl)
  empty-sides (Some a) None is = absurd (cc)
  empty-sides None (Some b) is = absurd (cc)
  empty-sides (Some a) (Some b) is = absurd (two-not a b (nat_lt a.stamp b.stamp) is)
    where
      two-not : (a b : Held) (lt : Bool) → cond lt (b ∷ a ∷ []) (a ∷ b ∷ []) ≡ [] → ⊥
      two-not a b true is = absurd (cc)
      two-not a b false is = absurd (cc)

  no-head-of : (o : Option Head) → option_map record_of o ≡ None → o ≡ None
  no-head-of None is = refl
  no-head-of (Some h) is = absurd (cc)

  map-none : (rs : List Held) → rs ≡ [] → map version_of rs ≡ []
  map-none rs is = ap (map version_of) is

  none-map : (rs : List Held) → map version_of rs ≡ [] → rs ≡ []
  none-map [] is = refl
  none-map (r ∷ rs) is = absurd (cc)

  -- the index that was noted is of the heads without the record, and shows what is held
  pub cleared : (index' : Indexed) (v : Sides Version) → v ≡ put_at e.versions side None
      → (in_order sides.version_stamp v ≢ [] → index'.entries ≡ maps.insert index.entries key (record { key = key; cell = e.cell; versions = v }))
      → (in_order sides.version_stamp v ≢ [] → index'.free ≡ taken_in (maps.get index.entries key) e.cell index.free)
      → (in_order sides.version_stamp v ≡ [] → index'.entries ≡ maps.remove index.entries key)
      → (in_order sides.version_stamp v ≡ [] → index'.free ≡ freed_by (maps.get index.entries key) index.free)
      → IsTied pairs after index' × (held_by index'.entries after ≡ with_held (held_by index.entries heads) key (records_in after e.cell))
  cleared index' v v_is left left_free gone gone_free = go (records_in after e.cell) refl
    where
      shows : in_order sides.version_stamp v ≡ map version_of (records_in after e.cell)
      shows =
          ap (in_order sides.version_stamp) (v_is ∙ ap (λ (x : Sides Version). put_at x side None) placed.versions ∙ sym (put-versions (sides_in heads e.cell) side None) ∙ ap versions_of (sym sides-after))
          ∙ order-map (sides_in after e.cell)

      entries-left : index'.entries ≡ maps.insert index.entries key (record { key = key; cell = e.cell; versions = v }) → index'.entries ≡ maps.insert index.entries key entry
      entries-left is = is ∙ ap (λ (x : Sides Version). maps.insert index.entries key (record { key = key; cell = e.cell; versions = x })) v_is

      go : (rs : List Held) → records_in after e.cell ≡ rs → IsTied pairs after index' × (held_by index'.entries after ≡ with_held (held_by index.entries heads) key (records_in after e.cell))
      go [] none =
          let empty : in_order sides.version_stamp v ≡ [] = shows ∙ map-none (records_in after e.cell) none in
          let both = empty-sides (sides_in after e.cell).zero (sides_in after e.cell).one none in
          let zero = no-head-of (in_cell after (2 * e.cell)) both.0 in
          let one = no-head-of (in_cell after (2 * e.cell + 1)) both.1 in
          (tied-gone none zero one index' (gone empty) (gone_free empty), held-gone none zero one index'.entries (gone empty))
      go (r ∷ rs) some =
          let not-empty : records_in after e.cell ≢ [] = λ none. (let never : r ∷ rs ≡ [] = sym some ∙ none in absurd (cc)) in
          let shown : in_order sides.version_stamp v ≢ [] = λ none. not-empty (none-map (records_in after e.cell) (sym shows ∙ none)) in
          (tied-left not-empty index' (entries-left (left shown)) (left_free shown), held-left not-empty index'.entries (entries-left (left shown)))
