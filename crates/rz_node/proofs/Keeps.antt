-- What a keep or a refill answers, and what it leaves.
use Rattle.std.proofs.Common.{◌≡◌, ◌≢◌, ⊎_elim, ℕ, ◌+◌, ◌*◌, ◌<◌, Bool, true, false, cond, not, List, [], ◌∷◌, length, Option, Some, None, refl, sym, ◌∙◌, ap, subst, arith}
use Rattle.std.specs.Prelude.{◌==◌, ◌&&◌, nat_le, is_some}
use Rattle.std.specs.Option.{option_map}
use Rattle.std.specs.FinMap as maps
use Rattle.std.proofs.lemmas.Bool.{cases_eq}
use Rattle.std.proofs.lemmas.Bool.Decides.{nat_tests}
use Rattle.rz_events.specs.declared.keys.Key.{Key}
use Rattle.rz_events.specs.declared.records.Head.{Head}
use Rattle.rz_events.specs.declared.records.Held.{Held}
use Rattle.rz_events.specs.declared.nodes.Phase.TheVariants.{Up}
use Rattle.rz_events.specs.declared.nodes.KeepAnswer.TheVariants as keep
use Rattle.rz_events.specs.declared.nodes.RefillAnswer.TheVariants as refill
use Rattle.rz_record.specs.Slot.{Rec}
use Rattle.rz_node_model.specs.Answers.{is_full, keep_in, keep_unless, keep_room, keep_answer, refill_in, refill_unless, refill_room, refill_answer}
use Rattle.rz_node_model.specs.Records.{record_of, held_of, stamp_of, base_of}
use Rattle.rz_node_model.specs.States.{NodeState}
use Rattle.rz_node_model.specs.Versions.{greater_goes, kept, refilled, passes_keep, passes_refill}
use Rattle.rz_versions.specs.declared.versions.Version.{Version}
use Rattle.rz_versions.specs.declared.versions.Room.TheVariants.{Put, Passed}
use Rattle.rz_versions.specs.Sides.{Sides, in_order, put_at, side_for, never, room, Differ}
use Rattle.rz_versions.specs.Sides as sides
use Rattle.rz_index.specs.declared.index.Entry.{Entry}
use Rattle.rz_index.specs.Indexed.{Indexed}
use Rattle.rz_cells_slots.specs.Held.{Apart, in_cell, names}
use Rattle.rz_node.specs.CrashOutcomes.{GivesWay}
use Rattle.rz_node.specs.Kept.{sides_in, records_in, held_by, IsTied, place_in, place_at}
use Rattle.rz_node.proofs.Tied.{get-held, len-held, held-not}
use Rattle.rz_node.proofs.Places.{Placed, no-place}
use Rattle.rz_node.proofs.Turns.{passes-keep, passes-refill, side-map, keep-leaves, refill-leaves}
use Rattle.rz_node.proofs.Ways.{names-has, way-sides}

-- ---- rooms

pub room-put : (o : Option ℕ) (side s : ℕ) → Put side ≡ room o s → (o ≡ None) × (side ≡ s)
room-put None side s is = (refl, cc)
room-put (Some t) side s is = absurd (cc)

pub room-passed : (o : Option ℕ) (held s : ℕ) → Passed held ≡ room o s → o ≡ Some held
room-passed None held s is = absurd (cc)
room-passed (Some t) held s is = cc

module _ (pairs : ℕ) (heads : List (Option Head)) (index : Indexed) (h : Head) (e : Entry) (placed : Placed pairs heads index h.key e) where
  abbrev s : Sides Held
  s = sides_in heads e.cell

  abbrev before : List Held
  before = held_of (held_by index.entries heads) h.key

  keep-passes : passes_keep sides.version_stamp h.stamp (in_order sides.version_stamp e.versions) ≡ passes_keep stamp_of h.stamp before
  keep-passes = ap (λ (v : Sides Version). passes_keep sides.version_stamp h.stamp (in_order sides.version_stamp v)) placed.versions ∙ passes-keep s h.stamp ∙ ap (passes_keep stamp_of h.stamp) (sym placed.held)

  pub keep-passed : (t : ℕ) → Passed t ≡ room (passes_keep sides.version_stamp h.stamp (in_order sides.version_stamp e.versions)) (side_for sides.version_stamp (greater_goes h.base) e.versions) → passes_keep stamp_of h.stamp before ≡ Some t
  keep-passed t is = sym keep-passes ∙ room-passed _ t _ is

  pub keep-put : (side : ℕ) → Put side ≡ room (passes_keep sides.version_stamp h.stamp (in_order sides.version_stamp e.versions)) (side_for sides.version_stamp (greater_goes h.base) e.versions)
      → (passes_keep stamp_of h.stamp before ≡ None) × (in_order stamp_of (put_at s side (Some (record_of h))) ≡ kept stamp_of h.base (record_of h) before)
  keep-put side is =
      let put = room-put (passes_keep sides.version_stamp h.stamp (in_order sides.version_stamp e.versions)) side (side_for sides.version_stamp (greater_goes h.base) e.versions) is in
      let none : passes_keep stamp_of h.stamp before ≡ None = sym keep-passes ∙ put.0 in
      let same : side ≡ side_for stamp_of (greater_goes h.base) s = put.1 ∙ ap (side_for sides.version_stamp (greater_goes h.base)) placed.versions ∙ side-map (greater_goes h.base) s in (
        none,
        ap (λ (n : ℕ). in_order stamp_of (put_at s n (Some (record_of h)))) same
            ∙ keep-leaves s (record_of h) (ap (passes_keep stamp_of h.stamp) (sym placed.held) ∙ none) ∙ ap (kept stamp_of h.base (record_of h)) (sym placed.held),
      )

  refill-passes : passes_refill sides.version_stamp sides.version_base h.stamp (in_order sides.version_stamp e.versions) ≡ passes_refill stamp_of base_of h.stamp before
  refill-passes = ap (λ (v : Sides Version). passes_refill sides.version_stamp sides.version_base h.stamp (in_order sides.version_stamp v)) placed.versions ∙ passes-refill s h.stamp ∙ ap (passes_refill stamp_of base_of h.stamp) (sym placed.held)

  pub refill-passed : (t : ℕ) → Passed t ≡ room (passes_refill sides.version_stamp sides.version_base h.stamp (in_order sides.version_stamp e.versions)) (side_for sides.version_stamp never e.versions) → passes_refill stamp_of base_of h.stamp before ≡ Some t
  refill-passed t is = sym refill-passes ∙ room-passed _ t _ is

  pub refill-put : (side : ℕ) → Put side ≡ room (passes_refill sides.version_stamp sides.version_base h.stamp (in_order sides.version_stamp e.versions)) (side_for sides.version_stamp never e.versions)
      → (passes_refill stamp_of base_of h.stamp before ≡ None) × (in_order stamp_of (put_at s side (Some (record_of h))) ≡ refilled stamp_of (record_of h) before)
  refill-put side is =
      let put = room-put (passes_refill sides.version_stamp sides.version_base h.stamp (in_order sides.version_stamp e.versions)) side (side_for sides.version_stamp never e.versions) is in
      let none : passes_refill stamp_of base_of h.stamp before ≡ None = sym refill-passes ∙ put.0 in
      let same : side ≡ side_for stamp_of never s = put.1 ∙ ap (side_for sides.version_stamp never) placed.versions ∙ side-map never s in (
        none,
        ap (λ (n : ℕ). in_order stamp_of (put_at s n (Some (record_of h)))) same
            ∙ refill-leaves s (record_of h) (ap (passes_refill stamp_of base_of h.stamp) (sym placed.held) ∙ none) ∙ ap (refilled stamp_of (record_of h)) (sym placed.held),
      )

-- ---- whether there is room

module _ (pairs : ℕ) (heads : List (Option Head)) (index : Indexed) (tied : IsTied pairs heads index) (key : Key) where
  holds-key : maps.contains_key (held_by index.entries heads) key ≡ is_some (maps.get index.entries key)
  holds-key = ap is_some (get-held index.entries heads key) ∙ some-map (maps.get index.entries key)
    where
      some-map : (o : Option Entry) → is_some (option_map (λ (e : Entry). records_in heads e.cell) o) ≡ is_some o
      some-map None = refl
      some-map (Some e) = refl

  full-is : is_full pairs (held_by index.entries heads) key ≡ not (is_some (maps.get index.entries key)) && nat_le pairs (maps.len index.entries)
  full-is = λ i. not (holds-key i) && nat_le pairs (len-held index.entries heads i)

  pub not-full : (e : Entry) → place_in index key ≡ Some e → is_full pairs (held_by index.entries heads) key ≡ false
  not-full e is = full-is ∙ go (maps.get index.entries key) index.free refl is
    where
      less : (m n : ℕ) → m < n → nat_le n m ≡ false
      less m n lt = grind (arith, nat_tests)

      go : (o : Option Entry) (free : List ℕ) → index.free ≡ free → place_at o key free ≡ Some e → not (is_some o) && nat_le pairs (maps.len index.entries) ≡ false
      go (Some f) free all same = refl
      go None [] all same = absurd (cc)
      go None (p ∷ ps) all same = let long = ap length all in less (maps.len index.entries) pairs (omega (arith, tied.count, long))

  pub full : place_in index key ≡ None → is_full pairs (held_by index.entries heads) key ≡ true
  full is =
      let none = no-place pairs heads index tied key is in
      full-is ∙ (λ i. not (is_some (none.0 i)) && nat_le pairs (none.1 i)) ∙ at-most pairs
    where
      at-most : (n : ℕ) → nat_le n n ≡ true
      at-most n = grind (arith, nat_tests)

  pub nothing-held : place_in index key ≡ None → held_of (held_by index.entries heads) key ≡ []
  nothing-held is = held-not index.entries heads key (no-place pairs heads index tied key is).0

-- ---- answers of a node that is up

pub keep-answers : (pairs : ℕ) (s : NodeState) (key : Key) (stamp : ℕ) (fenced : Bool) (passed : Option ℕ) (no_room : Bool) → s.phase ≡ Up → nat_le stamp s.fence ≡ fenced → passes_keep stamp_of stamp (held_of s.held key) ≡ passed → is_full pairs s.held key ≡ no_room
    → keep_answer pairs s key stamp ≡ cond fenced (keep.Fenced s.fence) (keep_unless passed (keep_room no_room))
keep-answers pairs s key stamp fenced passed no_room up f p r = λ i. keep_in (up i) (cond (f i) (keep.Fenced s.fence) (keep_unless (p i) (keep_room (r i))))

pub refill-answers : (pairs : ℕ) (s : NodeState) (fence : ℕ) (key : Key) (stamp : ℕ) (same : Bool) (passed : Option ℕ) (no_room : Bool) → s.phase ≡ Up → (fence == s.fence) ≡ same → passes_refill stamp_of base_of stamp (held_of s.held key) ≡ passed → is_full pairs s.held key ≡ no_room
    → refill_answer pairs s fence key stamp ≡ cond same (refill_unless passed (refill_room no_room)) (refill.OtherFence s.fence)
refill-answers pairs s fence key stamp same passed no_room up f p r = λ i. refill_in (up i) (cond (f i) (refill_unless (p i) (refill_room (r i))) (refill.OtherFence s.fence))

-- ---- which record gives way

module _ (pairs : ℕ) (heads : List (Option Head)) (index : Indexed) (key : Key) (e : Entry) (placed : Placed pairs heads index key e) (apart : Apart heads) where
  pub sides-differ : Differ stamp_of (sides_in heads e.cell).zero (sides_in heads e.cell).one
  sides-differ = go (in_cell heads (2 * e.cell)) (in_cell heads (2 * e.cell + 1)) refl refl
    where
      go : (a b : Option Head) → in_cell heads (2 * e.cell) ≡ a → in_cell heads (2 * e.cell + 1) ≡ b → Differ stamp_of (option_map record_of a) (option_map record_of b)
      go None b p q = tt
      go (Some a) None p q = tt
      go (Some a) (Some b) p q =
          (apart (2 * e.cell) (2 * e.cell + 1) a b (λ same. omega arith) p q).two_stamps
          (placed.keys (2 * e.cell) a (omega arith) p ∙ sym (placed.keys (2 * e.cell + 1) b (omega arith) q))

  at-side : (side : ℕ) → side < 2 → option_map record_of (in_cell heads (2 * e.cell + side)) ≡ cond (side == 0) (sides_in heads e.cell).zero (sides_in heads e.cell).one
  at-side side two = ⊎_elim
      (λ (low : side ≡ 0). subst (λ (n : ℕ). option_map record_of (in_cell heads (2 * e.cell + n)) ≡ cond (n == 0) (sides_in heads e.cell).zero (sides_in heads e.cell).one) (sym low)
      (ap (λ (c : ℕ). option_map record_of (in_cell heads c)) (add-none (2 * e.cell))))
      (λ (high : side ≢ 0). subst (λ (n : ℕ). option_map record_of (in_cell heads (2 * e.cell + n)) ≡ cond (n == 0) (sides_in heads e.cell).zero (sides_in heads e.cell).one) (one-of high) refl)
      (cases_eq side 0)
    where
      add-none : (n : ℕ) → n + 0 ≡ n
      add-none n = omega arith

      one-of : side ≢ 0 → 1 ≡ side
      one-of high = ⊎_elim (λ (same : side ≡ 1). sym same) (λ (ne : side ≢ 1). absurd (high (omega (arith, ne, two)))) (cases_eq side 1)

  -- what stands in the cell gives way to what is put there
  pub gives-way : (side : ℕ) (new : Option Rec) → side < 2 → GivesWay key (records_in heads e.cell) (in_order stamp_of (put_at (sides_in heads e.cell) side (option_map (λ (r : Rec). record_of r.head) new))) new (in_cell heads (2 * e.cell + side))
  gives-way side new two =
      let named : (h : Head) → in_cell heads (2 * e.cell + side) ≡ Some h → h.key ≡ key = λ h is. placed.keys (2 * e.cell + side) h (omega (arith, two)) is in
      record {
        named = named;
        stays = λ t. way-sides (sides_in heads e.cell) side (option_map (λ (r : Rec). record_of r.head) new) t (names (in_cell heads (2 * e.cell + side)) key t) two sides-differ
            (names-has (in_cell heads (2 * e.cell + side)) key t named ∙ ap (λ (o : Option Held). sides.has stamp_of o t) (at-side side two));
      }
