-- The entry of a pair, and what an index has of a change.
use Rattle.std.proofs.Common.{◌≡◌, ◌≢◌, ⊎_elim, ℕ, ◌+◌, ◌*◌, ◌<◌, Bool, true, false, List, [], Option, Some, None, refl, sym, ◌∙◌, ap, subst, arith}
use Rattle.std.specs.Prelude.{◌||◌, is_some}
use Rattle.std.specs.Option.{option_map}
use Rattle.std.specs.FinMap as maps
use Rattle.rz_events.specs.declared.keys.Key.{Key}
use Rattle.rz_events.specs.declared.records.Head.{Head}
use Rattle.rz_node_model.specs.Records.{record_of, stamp_of, held_of}
use Rattle.rz_node_model.specs.Versions.{has_stamp}
use Rattle.rz_versions.specs.declared.versions.Version.{Version}
use Rattle.rz_versions.specs.Sides.{Sides, ordered, has, side_with}
use Rattle.rz_versions.specs.Sides as sides
use Rattle.rz_index.specs.declared.index.Entry.{Entry}
use Rattle.rz_index.specs.Indexed.{Indexed}
use Rattle.rz_cells_slots.specs.Held.{Apart, in_cell}
use Rattle.rz_node.specs.Kept.{sides_in, records_in, held_by, version_of, versions_of, IsShown, IsFree, IsTied}
use Rattle.rz_node.proofs.Tied.{held-shown, held-not}
use Rattle.rz_node.proofs.Places.{two-cells}
use Rattle.rz_node.proofs.Ways.{has-sides}
use Rattle.rz_node.proofs.Found.{side-versions, chosen}

-- ---- the entry of a pair

-- the version that an index has of a head, if any
abbrev pub version_in : Option Head → Option Version
version_in o = option_map version_of (option_map record_of o)

module _ (pairs : ℕ) (heads : List (Option Head)) (pair : ℕ) (within : pair < pairs) (e : Entry) (at : e.cell ≡ pair) where
  the-head : (x y : Head) → Some x ≡ Some y → x ≡ y
  the-head x y is = cc

  -- a pair with these two sides
  pub shown-pair : (a b : Option Head) → in_cell heads (2 * pair) ≡ a → in_cell heads (2 * pair + 1) ≡ b
      → e.versions ≡ (let s : Sides Version = record { zero = version_in a; one = version_in b } in s)
      → ((h : Head) → a ≡ Some h → h.key ≡ e.key) → ((h : Head) → b ≡ Some h → h.key ≡ e.key) → ordered stamp_of (option_map record_of a) (option_map record_of b) ≢ [] → IsShown pairs heads e.key e
  shown-pair a b p q versions zero one some = record {
    named = refl;
    within = subst (λ (c : ℕ). c < pairs) (sym at) within;
    keys = λ cell h half is. ⊎_elim
        (λ (low : cell ≡ 2 * pair). zero h (sym p ∙ ap (in_cell heads) (sym low) ∙ is))
        (λ (high : cell ≡ 2 * pair + 1). one h (sym q ∙ ap (in_cell heads) (sym high) ∙ is))
        (two-cells cell pair (half ∙ at));
    versions = subst (λ (c : ℕ). e.versions ≡ versions_of (sides_in heads c)) (sym at)
        (versions ∙ (λ i. let s : Sides Version = record { zero = version_in (sym p i); one = version_in (sym q i) } in s));
    some = subst (λ (c : ℕ). records_in heads c ≢ []) (sym at) (λ none. some ((λ i. ordered stamp_of (option_map record_of (sym p i)) (option_map record_of (sym q i))) ∙ none));
  }

pub some-key : (a h : Head) → Some a ≡ Some h → h.key ≡ a.key
some-key a h is = let one : a ≡ h = cc in ap (λ (x : Head). x.key) (sym one)

-- two heads in the cells of a pair are of one key and have distinct stamps
pub pair-key : (heads : List (Option Head)) (pair : ℕ) (h k : Head) → Apart heads → in_cell heads (2 * pair) ≡ Some h → in_cell heads (2 * pair + 1) ≡ Some k → k.key ≡ h.key
pair-key heads pair h k apart p q = sym ((apart (2 * pair) (2 * pair + 1) h k (λ same. omega (arith, same)) p q).one_key (omega arith))

pub pair-stamps : (heads : List (Option Head)) (pair : ℕ) (h k : Head) → Apart heads → in_cell heads (2 * pair) ≡ Some h → in_cell heads (2 * pair + 1) ≡ Some k → h.stamp ≢ k.stamp
pair-stamps heads pair h k apart p q = (apart (2 * pair) (2 * pair + 1) h k (λ same. omega (arith, same)) p q).two_stamps (sym (pair-key heads pair h k apart p q))

pub free-pair : (pairs : ℕ) (heads : List (Option Head)) (pair : ℕ) → pair < pairs → in_cell heads (2 * pair) ≡ None → in_cell heads (2 * pair + 1) ≡ None → IsFree pairs heads pair
free-pair pairs heads pair within p q = record { within = within; zero = p; one = q }

-- ---- whether a stamp is held

is-chosen : (x y : Bool) → is_some (chosen x y) ≡ x || y
is-chosen true y = refl
is-chosen false true = refl
is-chosen false false = refl

module _ (index : Indexed) (key : Key) (t : ℕ) (pairs : ℕ) (heads : List (Option Head)) (tied : IsTied pairs heads index) where
  pub holds-some : (e : Entry) → maps.get index.entries key ≡ Some e → is_some (side_with sides.version_stamp e.versions t) ≡ has_stamp stamp_of t (held_of (held_by index.entries heads) key)
  holds-some e there =
      let s = sides_in heads e.cell in
      ap (λ (v : Sides Version). is_some (side_with sides.version_stamp v t)) (tied.shown key e there).versions
      ∙ ap is_some (side-versions s t) ∙ is-chosen (has stamp_of s.zero t) (has stamp_of s.one t) ∙ sym (has-sides t s)
      ∙ sym (ap (has_stamp stamp_of t) (held-shown index.entries heads key e there))

  pub holds-none : maps.get index.entries key ≡ None → false ≡ has_stamp stamp_of t (held_of (held_by index.entries heads) key)
  holds-none none = sym (ap (has_stamp stamp_of t) (held-not index.entries heads key none))
