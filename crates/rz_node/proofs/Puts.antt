-- A record is put on a side of its pair.
use Rattle.std.proofs.Common.{◌≡◌, ◌≢◌, ⊎_elim, ℕ, ◌+◌, ◌*◌, ◌/◌, ◌<◌, false, List, [], ◌∷◌, length, set, Option, Some, None, refl, sym, ◌∙◌, ap, subst, arith}
use Rattle.std.specs.Option.{option_map}
use Rattle.std.specs.Ordering.{eq_by_cmp}
use Rattle.std.specs.FinMap as maps
use Rattle.std.specs.FinMap.{same_map}
use Rattle.std.proofs.lemmas.Bool.{cases_eq}
use Rattle.rz_events.specs.Keys.{key_cmp, keys_total, exact_keys}
use Rattle.rz_events.specs.declared.keys.Key.{Key}
use Rattle.rz_events.specs.declared.records.Head.{Head}
use Rattle.rz_events.specs.declared.records.Held.{Held}
use Rattle.rz_node_model.specs.Records.{Records, record_of, stamp_of, with_held}
use Rattle.rz_versions.specs.declared.versions.Version.{Version}
use Rattle.rz_versions.specs.Sides.{Sides, in_order, put_at, Differ}
use Rattle.rz_versions.specs.Sides as sides
use Rattle.rz_index.specs.declared.index.Entry.{Entry}
use Rattle.rz_index.specs.Indexed.{Indexed, taken_in}
use Rattle.rz_cells_slots.specs.Held.{Goes, in_cell}
use Rattle.rz_node.specs.Kept.{sides_in, records_in, held_by, version_of, versions_of, IsShown, IsIndexed, IsTied}
use Rattle.rz_node.proofs.Tied.{get-held}
use Rattle.rz_node.proofs.Places.{Placed, two-cells}
use Rattle.rz_node.proofs.Changes.{key-cases, not-key, get-own, get-other, put-versions, put-some, own, other, sides-other, sides-own, shown-other, free-other}

module _ (pairs : ℕ) (heads : List (Option Head)) (index : Indexed) (tied : IsTied pairs heads index) (h : Head) (e : Entry) (placed : Placed pairs heads index h.key e)
    (side cell : ℕ) (two : side < 2) (at : cell ≡ 2 * e.cell + side) (long : length heads ≡ 2 * pairs) where
  abbrev after : List (Option Head)
  after = set heads cell (Some h)

  abbrev entry : Entry
  entry = record { key = h.key; cell = e.cell; versions = put_at e.versions side (Some (version_of (record_of h))) }

  abbrev index_after : Indexed
  index_after = record { entries = maps.insert index.entries h.key entry; free = taken_in (maps.get index.entries h.key) e.cell index.free }

  fits : cell < length heads
  fits = let within = placed.within in omega (arith, within, at, two, long)

  here : cell / 2 ≡ e.cell
  here = omega (arith, at, two)

  sides-after : sides_in after e.cell ≡ put_at (sides_in heads e.cell) side (Some (record_of h))
  sides-after = sides-own pairs heads e.cell side cell (Some h) two at fits

  pub records-after : records_in after e.cell ≡ in_order stamp_of (put_at (sides_in heads e.cell) side (Some (record_of h)))
  records-after = ap (in_order stamp_of) sides-after

  some-after : records_in after e.cell ≢ []
  some-after none = put-some (sides_in heads e.cell) side (record_of h) (sym records-after ∙ none)

  the-head : (k : Head) → Some h ≡ Some k → h ≡ k
  the-head k is = cc

  keys-after : (c : ℕ) (k : Head) → c / 2 ≡ e.cell → in_cell after c ≡ Some k → k.key ≡ h.key
  keys-after c k in_pair is = ⊎_elim
      (λ (same : c ≡ cell). ap (λ (q : Head). q.key) (sym (the-head k (sym (own pairs heads e.cell side cell (Some h) two at fits c same) ∙ is))))
      (λ (ne : c ≢ cell). placed.keys c k in_pair (sym (other pairs heads e.cell side cell (Some h) two at fits c ne) ∙ is))
      (cases_eq c cell)

  shown-own : IsShown pairs after h.key entry
  shown-own = record {
    named = refl;
    within = placed.within;
    keys = keys-after;
    versions =
        ap (λ (v : Sides Version). put_at v side (Some (version_of (record_of h)))) placed.versions
        ∙ sym (put-versions (sides_in heads e.cell) side (Some (record_of h))) ∙ ap versions_of (sym sides-after);
    some = some-after;
  }

  the-entry : (f g : Entry) → Some f ≡ Some g → f ≡ g
  the-entry f g is = cc

  -- an entry of another key is of another pair
  elsewhere : (q : Key) (f : Entry) → eq_by_cmp key_cmp q h.key ≡ false → maps.get index.entries q ≡ Some f → f.cell ≢ e.cell
  elsewhere q f differs is same = not-key q h.key differs (placed.apart q f is same)

  shown-after : (q : Key) (f : Entry) → maps.get index_after.entries q ≡ Some f → IsShown pairs after q f
  shown-after q f is = ⊎_elim
      (λ (same : q ≡ h.key).
      let own_is : Some entry ≡ Some f = sym (get-own index.entries h.key entry) ∙ ap (maps.get index_after.entries) (sym same) ∙ is in
      subst (λ (k : Key). IsShown pairs after k f) (sym same) (subst (IsShown pairs after h.key) (the-entry entry f own_is) shown-own))
      (λ (differs : eq_by_cmp key_cmp q h.key ≡ false).
      let was : maps.get index.entries q ≡ Some f = sym (get-other index.entries h.key entry q differs) ∙ is in
      shown-other pairs heads e.cell side cell (Some h) two at fits q f (elsewhere q f differs was) (tied.shown q f was))
      (key-cases q h.key)

  indexed-after : (c : ℕ) (k : Head) → in_cell after c ≡ Some k → IsIndexed index_after.entries c k
  indexed-after c k is = ⊎_elim
      (λ (same : c ≡ cell).
      let one = the-head k (sym (own pairs heads e.cell side cell (Some h) two at fits c same) ∙ is) in
      (entry, ap (λ (q : Head). maps.get index_after.entries q.key) (sym one) ∙ get-own index.entries h.key entry, ap (λ (n : ℕ). n / 2) same ∙ here))
      (λ (ne : c ≢ cell).
      let was = tied.heads_in c k (sym (other pairs heads e.cell side cell (Some h) two at fits c ne) ∙ is) in
      ⊎_elim
      (λ (same : k.key ≡ h.key).
      (entry, ap (maps.get index_after.entries) same ∙ get-own index.entries h.key entry, was.2 ∙ placed.same was.0 (ap (maps.get index.entries) (sym same) ∙ was.1)))
      (λ (differs : eq_by_cmp key_cmp k.key h.key ≡ false). (was.0, get-other index.entries h.key entry k.key differs ∙ was.1, was.2))
      (key-cases k.key h.key))
      (cases_eq c cell)

  tied-made : IsTied pairs after index_after
  tied-made = record {
    shown = shown-after;
    heads_in = indexed-after;
    free = free-other pairs heads e.cell side cell (Some h) two at fits (taken_in (maps.get index.entries h.key) e.cell index.free) placed.others placed.free;
    distinct = placed.distinct;
    count = placed.count entry;
  }

  -- the index with the new version is of the heads with the new one
  pub tied-put : (index' : Indexed) → index'.entries ≡ maps.insert index.entries h.key entry → index'.free ≡ taken_in (maps.get index.entries h.key) e.cell index.free → IsTied pairs after index'
  tied-put index' entries_is free_is = subst (IsTied pairs after) (λ i. record { entries = sym entries_is i; free = sym free_is i }) tied-made

  held-insert : (q : Key) → maps.get (held_by (maps.insert index.entries h.key entry) after) q ≡ maps.get (maps.insert (held_by index.entries heads) h.key (records_in after e.cell)) q
  held-insert q = get-held (maps.insert index.entries h.key entry) after q ∙ ⊎_elim
      (λ (same : q ≡ h.key). subst (λ (k : Key). option_map (λ (f : Entry). records_in after f.cell) (maps.get (maps.insert index.entries h.key entry) k) ≡ maps.get (maps.insert (held_by index.entries heads) h.key (records_in after e.cell)) k) (sym same)
      (ap (option_map (λ (f : Entry). records_in after f.cell)) (get-own index.entries h.key entry) ∙ sym (get-own (held_by index.entries heads) h.key (records_in after e.cell))))
      (λ (differs : eq_by_cmp key_cmp q h.key ≡ false).
      ap (option_map (λ (f : Entry). records_in after f.cell)) (get-other index.entries h.key entry q differs) ∙ same-records q differs (maps.get index.entries q) refl
      ∙ sym (get-held index.entries heads q) ∙ sym (get-other (held_by index.entries heads) h.key (records_in after e.cell) q differs))
      (key-cases q h.key)
    where
      same-records : (q : Key) → eq_by_cmp key_cmp q h.key ≡ false → (o : Option Entry) → maps.get index.entries q ≡ o → option_map (λ (f : Entry). records_in after f.cell) o ≡ option_map (λ (f : Entry). records_in heads f.cell) (maps.get index.entries q)
      same-records q differs None is = ap (option_map (λ (f : Entry). records_in heads f.cell)) (sym is)
      same-records q differs (Some f) is =
          ap (λ (s : Sides Held). Some (in_order stamp_of s)) (sides-other pairs heads e.cell side cell (Some h) two at fits f.cell (elsewhere q f differs is))
          ∙ ap (option_map (λ (g : Entry). records_in heads g.cell)) (sym is)

  with-some : (held : Records) (key : Key) (rs : List Held) → rs ≢ [] → with_held held key rs ≡ maps.insert held key rs
  with-some held key [] some = absurd (some refl)
  with-some held key (r ∷ rs) some = refl

  -- and what is held has the pair's records in the place of the key's
  pub held-put : (entries' : maps.FinMap key_cmp Entry) → entries' ≡ maps.insert index.entries h.key entry → held_by entries' after ≡ with_held (held_by index.entries heads) h.key (records_in after e.cell)
  held-put entries' is = ap (λ (m : maps.FinMap key_cmp Entry). held_by m after) is ∙ same_map keys_total exact_keys _ _ held-insert ∙ sym (with-some (held_by index.entries heads) h.key (records_in after e.cell) some-after)

  -- ---- the cell may take it

  other-stamp : (k : Head) → Differ sides.version_stamp (option_map version_of (option_map record_of (Some k))) (Some (version_of (record_of h))) → k.stamp ≢ h.stamp
  other-stamp k differ = differ

  two-stamps : (d : ℕ) (k : Head) → d ≢ cell → in_cell heads d ≡ Some k → d / 2 ≡ e.cell → Differ sides.version_stamp (sides.other e.versions side) (Some (version_of (record_of h))) → k.stamp ≢ h.stamp
  two-stamps d k ne is in_pair differ =
      let shows : Differ sides.version_stamp (sides.other (versions_of (sides_in heads e.cell)) side) (Some (version_of (record_of h))) = subst (λ (v : Sides Version). Differ sides.version_stamp (sides.other v side) (Some (version_of (record_of h)))) placed.versions differ in
      ⊎_elim
      (λ (low : side ≡ 0).
      let shown : Differ sides.version_stamp (option_map version_of (option_map record_of (in_cell heads (2 * e.cell + 1)))) (Some (version_of (record_of h))) = subst (λ (n : ℕ). Differ sides.version_stamp (sides.other (versions_of (sides_in heads e.cell)) n) (Some (version_of (record_of h)))) low shows in
      let d-is : 2 * e.cell + 1 ≡ d = other-cell-one low in
      subst (λ (o : Option Head). Differ sides.version_stamp (option_map version_of (option_map record_of o)) (Some (version_of (record_of h)))) (ap (in_cell heads) d-is ∙ is) shown)
      (λ (high : side ≢ 0).
      let shown : Differ sides.version_stamp (option_map version_of (option_map record_of (in_cell heads (2 * e.cell)))) (Some (version_of (record_of h))) = subst (λ (n : ℕ). Differ sides.version_stamp (sides.other (versions_of (sides_in heads e.cell)) n) (Some (version_of (record_of h)))) (one-of high) shows in
      let d-is : 2 * e.cell ≡ d = other-cell-zero high in
      subst (λ (o : Option Head). Differ sides.version_stamp (option_map version_of (option_map record_of o)) (Some (version_of (record_of h)))) (ap (in_cell heads) d-is ∙ is) shown)
      (cases_eq side 0)
    where
      one-of : side ≢ 0 → side ≡ 1
      one-of high = ⊎_elim (λ (same : side ≡ 1). same) (λ (ne : side ≢ 1). absurd (high (omega (arith, ne, two)))) (cases_eq side 1)

      other-cell-one : side ≡ 0 → 2 * e.cell + 1 ≡ d
      other-cell-one low = ⊎_elim (λ (low_d : d ≡ 2 * e.cell). absurd (ne (omega (arith, low_d, at, low)))) (λ (is_d : d ≡ 2 * e.cell + 1). sym is_d) (two-cells d e.cell in_pair)

      other-cell-zero : side ≢ 0 → 2 * e.cell ≡ d
      other-cell-zero high = ⊎_elim (λ (low_d : d ≡ 2 * e.cell). sym low_d) (λ (is_d : d ≡ 2 * e.cell + 1). absurd (ne (omega (arith, is_d, at, one-of high)))) (two-cells d e.cell in_pair)

  pub goes-put : Differ sides.version_stamp (sides.other e.versions side) (Some (version_of (record_of h))) → Goes heads cell h
  goes-put differ = record {
    no_other_pair = λ d k is same.
        let was = tied.heads_in d k is in
        was.2 ∙ placed.same was.0 (ap (maps.get index.entries) (sym same) ∙ was.1) ∙ sym here;
    one_key = λ d k ne is pair. placed.keys d k (pair ∙ here) is;
    two_stamps = λ d k ne is pair. two-stamps d k ne is (pair ∙ here) differ;
  }
