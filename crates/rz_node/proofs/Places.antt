-- The pair on which a record of a key goes.
use Rattle.std.proofs.Common.{◌≡◌, ◌≢◌, ◌⊎◌, inl, inr, ⊎_elim, ℕ, ◌+◌, ◌*◌, ◌/◌, ◌<◌, ◌≤◌, cond, List, [], ◌∷◌, length, Option, Some, None, refl, sym, ◌∙◌, ap, subst, arith, eq-eqb}
use Rattle.std.specs.Prelude.{MatchOption, is_some}
use Rattle.std.specs.Option.{option_map}
use Rattle.std.specs.List.{AllByRecursion, Contains}
use Rattle.std.specs.FinMap as maps
use Rattle.std.proofs.lemmas.Bool.{cases_lt}
use Rattle.std.specs.FinMap.{len-insert}
use Rattle.rz_events.specs.Keys.{keys_total}
use Rattle.rz_events.specs.declared.keys.Key.{Key}
use Rattle.rz_events.specs.declared.records.Head.{Head}
use Rattle.rz_node_model.specs.Records.{record_of, held_of, stamp_of}
use Rattle.rz_versions.specs.Sides.{ordered}
use Rattle.rz_index.specs.declared.index.Entry.{Entry}
use Rattle.rz_index.specs.Indexed.{Indexed, taken_in}
use Rattle.rz_cells_slots.specs.Held.{in_cell}
use Rattle.rz_node.specs.Kept.{sides_in, records_in, held_by, versions_of, IsFree, Distinct, IsTied, place_at, place_in}
use Rattle.rz_node.proofs.Tied.{held-shown, held-not}

-- a pair that has a record has a head
pub some-head : (heads : List (Option Head)) (pair : ℕ) → records_in heads pair ≢ [] → (cell : ℕ) × (h : Head) × (cell / 2 ≡ pair) × (in_cell heads cell ≡ Some h)
some-head heads pair some = go (in_cell heads (2 * pair)) (in_cell heads (2 * pair + 1)) refl refl
  where
    go : (a b : Option Head) → in_cell heads (2 * pair) ≡ a → in_cell heads (2 * pair + 1) ≡ b → (cell : ℕ) × (h : Head) × (cell / 2 ≡ pair) × (in_cell heads cell ≡ Some h)
    go (Some h) b p q = (2 * pair, h, omega arith, p)
    go None (Some h) p q = (2 * pair + 1, h, omega arith, q)
    go None None p q = absurd (some (λ i. ordered stamp_of (option_map record_of (p i)) (option_map record_of (q i))))

-- both cells of a pair are empty
pub no-records : (heads : List (Option Head)) (pair : ℕ) → in_cell heads (2 * pair) ≡ None → in_cell heads (2 * pair + 1) ≡ None → records_in heads pair ≡ []
no-records heads pair p q = λ i. ordered stamp_of (option_map record_of (p i)) (option_map record_of (q i))

-- the cells of a pair
pub two-cells : (c p : ℕ) → c / 2 ≡ p → (c ≡ 2 * p) ⊎ (c ≡ 2 * p + 1)
two-cells c p half = ⊎_elim
    (λ (high : 2 * p < c). inr (omega arith))
    (λ (low : c ≤ 2 * p). inl (omega arith))
    (cases_lt (2 * p) c)

-- no head stands in a free pair
pub no-head : (pairs : ℕ) (heads : List (Option Head)) (pair cell : ℕ) (h : Head) → IsFree pairs heads pair → cell / 2 ≡ pair → in_cell heads cell ≡ Some h → ⊥
no-head pairs heads pair cell h free half is = ⊎_elim
    (λ (low : cell ≡ 2 * pair). let none : None ≡ Some h = sym free.zero ∙ ap (in_cell heads) (sym low) ∙ is in absurd (cc))
    (λ (high : cell ≡ 2 * pair + 1). let none : None ≡ Some h = sym free.one ∙ ap (in_cell heads) (sym high) ∙ is in absurd (cc))
    (two-cells cell pair half)

-- where a record of a key may go, and what is so of the index
pub record Placed (pairs : ℕ) (heads : List (Option Head)) (index : Indexed) (key : Key) (e : Entry) : Type 0 where
  pub named : e.key ≡ key
  pub within : e.cell < pairs
  pub keys : (cell : ℕ) (h : Head) → cell / 2 ≡ e.cell → in_cell heads cell ≡ Some h → h.key ≡ key
  pub versions : e.versions ≡ versions_of (sides_in heads e.cell)
  pub held : held_of (held_by index.entries heads) key ≡ records_in heads e.cell
  pub apart : (q : Key) (f : Entry) → maps.get index.entries q ≡ Some f → f.cell ≡ e.cell → q ≡ key
  pub same : (f : Entry) → maps.get index.entries key ≡ Some f → f.cell ≡ e.cell
  pub fits : MatchOption (maps.get index.entries key) (Contains index.free e.cell) (λ f. f.cell ≡ e.cell)
  pub free : AllByRecursion (IsFree pairs heads) (taken_in (maps.get index.entries key) e.cell index.free)
  pub others : AllByRecursion (λ p. p ≢ e.cell) (taken_in (maps.get index.entries key) e.cell index.free)
  pub distinct : Distinct (taken_in (maps.get index.entries key) e.cell index.free)
  pub count : (x : Entry) → maps.len (maps.insert index.entries key x) + length (taken_in (maps.get index.entries key) e.cell index.free) ≡ pairs

module _ (pairs : ℕ) (heads : List (Option Head)) (index : Indexed) (tied : IsTied pairs heads index) (key : Key) where
  -- two entries on one pair are one key's
  pub one-key : (q : Key) (f e : Entry) → maps.get index.entries q ≡ Some f → maps.get index.entries key ≡ Some e → f.cell ≡ e.cell → q ≡ key
  one-key q f e there here same =
      let shown = tied.shown q f there in
      let at = some-head heads f.cell shown.some in
      sym (shown.keys at.0 at.1 at.2 at.3) ∙ (tied.shown key e here).keys at.0 at.1 (at.2 ∙ same) at.3

  apart-from : (e : Entry) → records_in heads e.cell ≢ [] → (ps : List ℕ) → AllByRecursion (IsFree pairs heads) ps → AllByRecursion (λ p. p ≢ e.cell) ps
  apart-from e some [] all = tt
  apart-from e some (p ∷ ps) all = (
    λ same. some (subst (λ (c : ℕ). records_in heads c ≡ []) same (no-records heads p all.0.zero all.0.one)),
    apart-from e some ps all.1,
  )

  -- the entry of a key shows where its records may go
  pub held-key : (e : Entry) → maps.get index.entries key ≡ Some e → Placed pairs heads index key e
  held-key e there =
      let shown = tied.shown key e there in
      record {
        named = shown.named;
        within = shown.within;
        keys = shown.keys;
        versions = shown.versions;
        held = held-shown index.entries heads key e there;
        apart = λ q f is same. one-key q f e is there same;
        same = λ f is. let one : Some f ≡ Some e = sym is ∙ there in ap (λ (x : Entry). x.cell) (same-entry f e one);
        fits = subst (λ (o : Option Entry). MatchOption o (Contains index.free e.cell) (λ f. f.cell ≡ e.cell)) (sym there) refl;
        free = subst (λ (o : Option Entry). AllByRecursion (IsFree pairs heads) (taken_in o e.cell index.free)) (sym there) tied.free;
        others = subst (λ (o : Option Entry). AllByRecursion (λ p. p ≢ e.cell) (taken_in o e.cell index.free)) (sym there) (apart-from e shown.some index.free tied.free);
        distinct = subst (λ (o : Option Entry). Distinct (taken_in o e.cell index.free)) (sym there) tied.distinct;
        count = λ x. subst (λ (o : Option Entry). cond (is_some o) (maps.len index.entries) (maps.len index.entries + 1) + length (taken_in o e.cell index.free) ≡ pairs → maps.len (maps.insert index.entries key x) + length (taken_in (maps.get index.entries key) e.cell index.free) ≡ pairs) there
            (λ h. ap (λ (n : ℕ). n + length (taken_in (maps.get index.entries key) e.cell index.free)) (len-insert keys_total index.entries key x) ∙ h) tied.count;
      }
    where
      same-entry : (f e : Entry) → Some f ≡ Some e → f ≡ e
      same-entry f e is = cc

  abbrev new_entry : ℕ → Entry
  new_entry p = record { key = key; cell = p; versions = record { zero = None; one = None } }

  erase-first : (p : ℕ) (ps : List ℕ) → taken_in None p (p ∷ ps) ≡ ps
  erase-first p ps = ap (λ b. cond b ps (p ∷ taken_in None p ps)) (eq-eqb p p refl)

  new-key : (p : ℕ) (ps : List ℕ) → maps.get index.entries key ≡ None → index.free ≡ p ∷ ps → Placed pairs heads index key (new_entry p)
  new-key p ps none free =
      let all : AllByRecursion (IsFree pairs heads) (p ∷ ps) = subst (AllByRecursion (IsFree pairs heads)) free tied.free in
      let apart : Distinct (p ∷ ps) = subst Distinct free tied.distinct in
      let empty : records_in heads p ≡ [] = no-records heads p all.0.zero all.0.one in
      let rest : taken_in (maps.get index.entries key) p index.free ≡ ps = (λ i. taken_in (none i) p (free i)) ∙ erase-first p ps in
      record {
        named = refl;
        within = all.0.within;
        keys = λ cell h half is. absurd (no-head pairs heads p cell h all.0 half is);
        versions = λ i. versions_of (record { zero = option_map record_of (sym all.0.zero i); one = option_map record_of (sym all.0.one i) });
        held = held-not index.entries heads key none ∙ sym empty;
        apart = λ q f is same. absurd ((tied.shown q f is).some (subst (λ (c : ℕ). records_in heads c ≡ []) (sym same) empty));
        same = λ f is. let no : None ≡ Some f = sym none ∙ is in absurd (cc);
        fits = subst (λ (o : Option Entry). MatchOption o (Contains index.free p) (λ f. f.cell ≡ p)) (sym none) (subst (λ (xs : List ℕ). Contains xs p) (sym free) (0, omega arith, refl));
        free = subst (AllByRecursion (IsFree pairs heads)) (sym rest) all.1;
        others = subst (AllByRecursion (λ q. q ≢ p)) (sym rest) apart.0;
        distinct = subst Distinct (sym rest) apart.1;
        count = λ x.
            let more : maps.len (maps.insert index.entries key x) ≡ maps.len index.entries + 1 = len-insert keys_total index.entries key x ∙ ap (λ (o : Option Entry). cond (is_some o) (maps.len index.entries) (maps.len index.entries + 1)) none in
            let long : length index.free ≡ length ps + 1 = ap length free ∙ omega arith in
            let less : length (taken_in (maps.get index.entries key) p index.free) ≡ length ps = ap length rest in
            omega (arith, tied.count, more, long, less);
      }

  -- the place of a key is one where its record may go
  pub placed : (e : Entry) → place_in index key ≡ Some e → Placed pairs heads index key e
  placed e is = go (maps.get index.entries key) index.free refl refl is
    where
      the-entry : (f e : Entry) → Some f ≡ Some e → f ≡ e
      the-entry f e is = cc

      go : (o : Option Entry) (free : List ℕ) → maps.get index.entries key ≡ o → index.free ≡ free → place_at o key free ≡ Some e → Placed pairs heads index key e
      go (Some f) free there all same = held-key e (there ∙ same)
      go None [] none all same = absurd (cc)
      go None (p ∷ ps) none all same = subst (Placed pairs heads index key) (the-entry (new_entry p) e same) (new-key p ps none all)

  -- no place is left where the key is not held and every pair holds one
  pub no-place : place_in index key ≡ None → (maps.get index.entries key ≡ None) × (maps.len index.entries ≡ pairs)
  no-place is = go (maps.get index.entries key) index.free refl refl is
    where
      go : (o : Option Entry) (free : List ℕ) → maps.get index.entries key ≡ o → index.free ≡ free → place_at o key free ≡ None → (maps.get index.entries key ≡ None) × (maps.len index.entries ≡ pairs)
      go (Some f) free there all same = absurd (cc)
      go None [] none all same = let long : length index.free ≡ 0 = ap length all in (none, omega (arith, tied.count, long))
      go None (p ∷ ps) none all same = absurd (cc)
