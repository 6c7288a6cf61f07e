-- What the slots say of the bins.
use Rattle.std.proofs.Common.{◌≡◌, ℕ, zero, suc, ◌<◌, ◌≤◌, Bool, true, false, cond, List, [], ◌∷◌, length, map, get_or, set, replicate, Option, Some, None, refl, sym, arith, ap, ◌∙◌, subst, inl, inr, ◌⊎◌, vec_len}
use Rattle.std.specs.Prelude.{All, is_some, IfSome}
use Rattle.std.proofs.lemmas.Bool.{cases_lt, cases_eq, false≢true}
use Rattle.std.proofs.lemmas.List.{get_or-map, get_or_past, get_or-set_same, get_or-set_other, length-map, length-set, map-set}
use Rattle.std.proofs.lemmas.List.Elements.{All-head, All-tail}
use Rattle.mj_angles.specs.declared.layout.Layout.{Layout}
use Rattle.mj_angles.specs.Layout.{bins_at_of}
use Rattle.rz_scrub.specs.Records.{Records, IsRecords, bins_at, has_bins, no_records, with_bins}
use Rattle.rz_scrub.specs.Inside.{bins_in, records_of, IsSlots}
use Rattle.rz_scrub.specs.declared.slots.BinSlot.{BinSlot}

-- the element in a place of a list
element : (xs : List BinSlot) (i : ℕ) → i < length xs → (x : BinSlot) × ((d : BinSlot) → get_or xs i d ≡ x)
element [] i h = absurd (omega arith)
element (x ∷ xs) zero h = (x, λ d. refl)
element (x ∷ xs) (suc i) h = element xs i (omega arith)

-- the bins at a position are those in its slot
pub bins-slot : (layout : Layout) (slots : List BinSlot) (position : ℕ) (slot : BinSlot) → position < length slots → slot ≡ get_or slots position slot →
    bins_at (records_of layout slots) position ≡ bins_in slot
bins-slot layout slots position slot h is = get_or-map bins_in slots position slot None h ∙ ap bins_in (sym is)

pub is_some-bins_in : (slot : BinSlot) → is_some (bins_in slot) ≡ slot.is_added
is_some-bins_in slot = by_flag slot.is_added slot.bins.items
  where
    by_flag : (b : Bool) (xs : List ℕ) → is_some (cond b (Some xs) None) ≡ b
    by_flag true xs = refl
    by_flag false xs = refl

pub bins_in-added : (slot : BinSlot) → slot.is_added ≡ true → bins_in slot ≡ Some slot.bins.items
bins_in-added slot h = ap (λ (b : Bool). cond b (Some slot.bins.items) None) h

-- a position with bins is one of the layout
pub has-within : (s : Records) (position : ℕ) → has_bins s position ≡ true → position < length s.bins
has-within s position h =
    elim (cases_lt position (length s.bins)) [
      | inl within ↦ within
      | inr past ↦ absurd (false≢true (sym (ap is_some (get_or_past s.bins position None past)) ∙ h))
    ]

sized : (n : ℕ) (b : Bool) (xs : List ℕ) → length xs ≡ n → IfSome (cond b (Some xs) None) (λ ys. length ys ≡ n)
sized n true xs h = h
sized n false xs h = tt

pub records-slots : (layout : Layout) (slots : List BinSlot) → IsSlots layout slots → IsRecords (records_of layout slots)
records-slots layout slots is = record {
  places = length-map slots bins_in ∙ is.places;
  sizes = λ position. by_place position (cases_lt position (length slots));
}
  where
    by_place : (position : ℕ) → (position < length slots) ⊎ (length slots ≤ position) →
        IfSome (bins_at (records_of layout slots) position) (λ bins. length bins ≡ bins_at_of layout position)
    by_place position (inl within) =
        let at = element slots position within in
        let room : vec_len at.0.bins ≡ bins_at_of layout position =
        (let P : BinSlot → Type 0 = λ slot. vec_len slot.bins ≡ bins_at_of layout position in subst P (at.1 at.0) (is.rooms position at.0 within)) in
        let P : Option (List ℕ) → Type 0 = λ o. IfSome o (λ bins. length bins ≡ bins_at_of layout position) in
        subst P (sym (bins-slot layout slots position at.0 within (sym (at.1 at.0))))
        (sized (bins_at_of layout position) at.0.is_added at.0.bins.items (sym at.0.bins.ok.0 ∙ room))
    by_place position (inr past) =
        let P : Option (List ℕ) → Type 0 = λ o. IfSome o (λ bins. length bins ≡ bins_at_of layout position) in
        subst P (sym (get_or_past (map bins_in slots) position None (let long = length-map slots bins_in in omega (arith, long, past)))) tt

-- no slot has bins
pub none-slots : (slots : List BinSlot) → All (λ slot. bins_in slot ≡ None) slots → map bins_in slots ≡ replicate (length slots) None
none-slots [] h = refl
none-slots (slot ∷ slots) h =
    let first = All-head (λ (x : BinSlot). bins_in x ≡ None) slot slots h in
    let rest = none-slots slots (All-tail (λ (x : BinSlot). bins_in x ≡ None) slot slots h) in
    ap (λ (o : Option (List ℕ)). o ∷ map bins_in slots) first ∙ ap (λ (xs : List (Option (List ℕ))). None ∷ xs) rest

pub no-slots : (layout : Layout) (slots : List BinSlot) → IsSlots layout slots → All (λ slot. bins_in slot ≡ None) slots → records_of layout slots ≡ no_records layout
no-slots layout slots is none =
    ap (λ (bins : List (Option (List ℕ))). (let s : Records = record { layout = layout; bins = bins } in s))
    (none-slots slots none ∙ ap (λ (n : ℕ). replicate n None) is.places)

-- a slot is filled
pub slots-filled : (layout : Layout) (slots : List BinSlot) (position : ℕ) (slot : BinSlot) → IsSlots layout slots → vec_len slot.bins ≡ bins_at_of layout position →
    IsSlots layout (set slots position slot)
slots-filled layout slots position slot is room = record {
  places = length-set slots position slot ∙ is.places;
  rooms = λ place d within. by_place place d (let long = length-set slots position slot in omega (arith, long, within)) (cases_eq place position);
}
  where
    by_place : (place : ℕ) (d : BinSlot) → place < length slots → (place ≡ position) ⊎ (place ≡ position → ⊥) →
        vec_len (get_or (set slots position slot) place d).bins ≡ bins_at_of layout place
    by_place place d within (inl same) =
        let P : ℕ → Type 0 = λ p. vec_len (get_or (set slots position slot) p d).bins ≡ bins_at_of layout p in
        subst P (sym same) (ap (λ (x : BinSlot). vec_len x.bins) (get_or-set_same slots position slot d (let e = same in omega (arith, e, within))) ∙ room)
    by_place place d within (inr other) =
        ap (λ (x : BinSlot). vec_len x.bins) (get_or-set_other slots position place slot d other) ∙ is.rooms place d within

pub records-filled : (layout : Layout) (slots : List BinSlot) (position : ℕ) (slot : BinSlot) (bins : List ℕ) → bins_in slot ≡ Some bins →
    records_of layout (set slots position slot) ≡ with_bins (records_of layout slots) position bins
records-filled layout slots position slot bins is =
    ap (λ (xs : List (Option (List ℕ))). (let s : Records = record { layout = layout; bins = xs } in s))
    (map-set bins_in slots position slot ∙ ap (set (map bins_in slots) position) is)
