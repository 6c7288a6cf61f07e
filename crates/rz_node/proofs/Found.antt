-- The record of a stamp stands on the side of its version.
use Rattle.std.proofs.Common.{◌≡◌, ◌⊎◌, inl, inr, ⊎_elim, ℕ, ◌+◌, ◌*◌, ◌<◌, Bool, true, false, cond, List, [], ◌∷◌, Option, Some, None, refl, sym, ◌∙◌, ap, arith}
use Rattle.std.specs.Prelude.{◌==◌, nat_lt}
use Rattle.std.specs.Option.{option_map}
use Rattle.std.specs.FinMap as maps
use Rattle.std.proofs.lemmas.Bool.Decides.{nat_tests}
use Rattle.rz_events.specs.declared.keys.Key.{Key}
use Rattle.rz_events.specs.declared.records.Head.{Head}
use Rattle.rz_events.specs.declared.records.Held.{Held}
use Rattle.rz_node_model.specs.Records.{record_of, held_of, stamp_of, found}
use Rattle.rz_versions.specs.declared.versions.Version.{Version}
use Rattle.rz_versions.specs.Sides.{Sides, ordered, has, side_with}
use Rattle.rz_versions.specs.Sides as sides
use Rattle.rz_index.specs.declared.index.Entry.{Entry}
use Rattle.rz_index.specs.Indexed.{Indexed}
use Rattle.rz_cells_slots.specs.Held.{in_cell}
use Rattle.rz_node.specs.Kept.{sides_in, held_by, version_of, versions_of, IsTied, IsThere}
use Rattle.rz_node.proofs.Tied.{held-shown}

-- two tests of which one holds at most may be asked in either order
either_first : (x y : Bool) (a b : Option Held) → (x ≡ true → y ≡ true → ⊥) → cond y b (cond x a None) ≡ cond x a (cond y b None)
either_first true true a b apart = absurd (apart refl refl)
either_first true false a b apart = refl
either_first false true a b apart = refl
either_first false false a b apart = refl

not_both : (a b t : ℕ) → nat_lt a b ≡ true → (a == t) ≡ true → (b == t) ≡ true → ⊥
not_both a b t lt x y = grind (arith, nat_tests)

found-two : (a b : Held) (t : ℕ) (lt : Bool) → nat_lt a.stamp b.stamp ≡ lt → found t (cond lt (b ∷ a ∷ []) (a ∷ b ∷ [])) ≡ cond (a.stamp == t) (Some a) (cond (b.stamp == t) (Some b) None)
found-two a b t true is = either_first (a.stamp == t) (b.stamp == t) (Some a) (Some b) (not_both a.stamp b.stamp t is)
found-two a b t false is = refl

pub found-ordered : (t : ℕ) (a b : Option Held) → found t (ordered stamp_of a b) ≡ cond (has stamp_of a t) a (cond (has stamp_of b t) b None)
found-ordered t None None = refl
found-ordered t (Some a) None = refl
found-ordered t None (Some b) = refl
found-ordered t (Some a) (Some b) = found-two a b t (nat_lt a.stamp b.stamp) refl

has-version : (o : Option Held) (t : ℕ) → has sides.version_stamp (option_map version_of o) t ≡ has stamp_of o t
has-version None t = refl
has-version (Some r) t = refl

-- the first of two sides of which the test holds
abbrev pub chosen : Bool → Bool → Option ℕ
chosen x y = cond x (Some 0) (cond y (Some 1) None)

pub side-versions : (s : Sides Held) (t : ℕ) → side_with sides.version_stamp (versions_of s) t ≡ chosen (has stamp_of s.zero t) (has stamp_of s.one t)
side-versions s t = λ i. chosen (has-version s.zero t i) (has-version s.one t i)

no-side : (x y : Bool) (a b : Option Held) → chosen x y ≡ None → cond x a (cond y b None) ≡ None
no-side true y a b is = absurd (cc)
no-side false true a b is = absurd (cc)
no-side false false a b is = refl

a-side : (x y : Bool) (a b : Option Held) (i : ℕ) → chosen x y ≡ Some i → ((i ≡ 0) × (cond x a (cond y b None) ≡ a)) ⊎ ((i ≡ 1) × (cond x a (cond y b None) ≡ b))
a-side true y a b i is = inl (cc, refl)
a-side false true a b i is = inr (cc, refl)
a-side false false a b i is = absurd (cc)

-- the test holds on the side that is chosen
chosen-has : (x y : Bool) (i : ℕ) → chosen x y ≡ Some i → ((i ≡ 0) × (x ≡ true)) ⊎ ((i ≡ 1) × (y ≡ true))
chosen-has true y i is = inl (cc, refl)
chosen-has false true i is = inr (cc, refl)
chosen-has false false i is = absurd (cc)

-- an empty cell has no stamp
no-stamp : (o : Option Head) (t : ℕ) → has stamp_of (option_map record_of o) t ≡ true → None ≡ o → ⊥
no-stamp None t has_it none = absurd (cc)
no-stamp (Some h) t has_it none = absurd (cc)

module _ (pairs : ℕ) (heads : List (Option Head)) (index : Indexed) (tied : IsTied pairs heads index) (key : Key) (e : Entry) (there : maps.get index.entries key ≡ Some e) (t : ℕ) where
  abbrev s : Sides Held
  s = sides_in heads e.cell

  abbrev at_sides : Option ℕ
  at_sides = chosen (has stamp_of s.zero t) (has stamp_of s.one t)

  found-is : found t (held_of (held_by index.entries heads) key) ≡ cond (has stamp_of s.zero t) s.zero (cond (has stamp_of s.one t) s.one None)
  found-is = ap (found t) (held-shown index.entries heads key e there) ∙ found-ordered t s.zero s.one

  sides-are : (o : Option ℕ) → o ≡ side_with sides.version_stamp e.versions t → at_sides ≡ o
  sides-are o is = sym (side-versions s t) ∙ ap (λ (v : Sides Version). side_with sides.version_stamp v t) (sym (tied.shown key e there).versions) ∙ sym is

  -- no version with this stamp, and no record
  pub found-none : None ≡ side_with sides.version_stamp e.versions t → found t (held_of (held_by index.entries heads) key) ≡ None
  found-none is = found-is ∙ no-side (has stamp_of s.zero t) (has stamp_of s.one t) s.zero s.one (sides-are None is)

  -- the record of the side's cell
  pub found-side : (i cell : ℕ) → Some i ≡ side_with sides.version_stamp e.versions t → cell ≡ 2 * e.cell + i → (found t (held_of (held_by index.entries heads) key) ≡ option_map record_of (in_cell heads cell)) × (i < 2)
  found-side i cell is at = ⊎_elim
      (λ (zero : (i ≡ 0) × (cond (has stamp_of s.zero t) s.zero (cond (has stamp_of s.one t) s.one None) ≡ s.zero)).
      let here : cell ≡ 2 * e.cell = omega (arith, at, zero.0) in
      (found-is ∙ zero.1 ∙ ap (λ (c : ℕ). option_map record_of (in_cell heads c)) (sym here), omega (arith, zero.0)))
      (λ (one : (i ≡ 1) × (cond (has stamp_of s.zero t) s.zero (cond (has stamp_of s.one t) s.one None) ≡ s.one)).
      let here : cell ≡ 2 * e.cell + 1 = omega (arith, at, one.0) in
      (found-is ∙ one.1 ∙ ap (λ (c : ℕ). option_map record_of (in_cell heads c)) (sym here), omega (arith, one.0)))
      (a-side (has stamp_of s.zero t) (has stamp_of s.one t) s.zero s.one i (sides-are (Some i) is))

  -- which is not empty
  pub side-full : (i cell : ℕ) → Some i ≡ side_with sides.version_stamp e.versions t → cell ≡ 2 * e.cell + i → None ≡ in_cell heads cell → ⊥
  side-full i cell is at none = ⊎_elim
      (λ (zero : (i ≡ 0) × (has stamp_of s.zero t ≡ true)).
      let here : cell ≡ 2 * e.cell = omega (arith, at, zero.0) in
      no-stamp (in_cell heads (2 * e.cell)) t zero.1 (none ∙ ap (in_cell heads) here))
      (λ (one : (i ≡ 1) × (has stamp_of s.one t ≡ true)).
      let here : cell ≡ 2 * e.cell + 1 = omega (arith, at, one.0) in
      no-stamp (in_cell heads (2 * e.cell + 1)) t one.1 (none ∙ ap (in_cell heads) here))
      (chosen-has (has stamp_of s.zero t) (has stamp_of s.one t) i (sides-are (Some i) is))

  -- and is the key's
  pub there-side : (i cell : ℕ) (h : Head) → i < 2 → cell ≡ 2 * e.cell + i → in_cell heads cell ≡ Some h → IsThere pairs heads key cell h
  there-side i cell h lt at is =
      let shown = tied.shown key e there in
      record { within = omega (arith, lt, at, shown.within); is = is; named = shown.keys cell h (omega (arith, lt, at)) is }
