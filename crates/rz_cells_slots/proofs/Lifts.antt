-- From cells to the records that they stand for.
use Rattle.std.proofs.Common.{◌≡◌, ◌≢◌, inl, inr, ⊎_elim, ℕ, ◌*◌, ◌^◌, ◌<◌, ◌≤◌, Bool, IsTrue, Option, Some, None, List, [], ◌∷◌, length, length-set, take, set, sym, ◌∙◌, ap, subst, arith}
use Rattle.std.proofs.Math.Nat.{mul-le-mul_left}
use Rattle.std.proofs.lemmas.Bool.{cases_eq}
use Rattle.std.proofs.lemmas.List.{ext_get_or, length-take-le, get_or-set_same, get_or-set_other, map-set}
use Rattle.rz_disk.specs.Images.{Only, Within}
use Rattle.rz_events.specs.declared.records.Head.{Head}
use Rattle.rz_record.specs.Fields.{number_at}
use Rattle.mj_angles.specs.declared.layout.Layout.{Layout}
use Rattle.rz_record.specs.Record.{IsRecord, IsValid, record_bytes, slot_bytes}
use Rattle.rz_record.specs.Slot.{Rec, Spells}
use Rattle.rz_record.proofs.Codec.{few_bins, number_at-take}
use Rattle.rz_record.proofs.Laws.{one_reading, record-fits, record-spells}
use Rattle.rz_cells_slots.specs.declared.geometry.Geometry.{Geometry}
use Rattle.rz_cells_slots.specs.Held.{Records, Made, Goes, in_cell, heads_of, head_in, changed}
use Rattle.rz_cells_slots.specs.Shape.{IsGeometry, picked, slot_of, disk_bytes}
use Rattle.rz_cells_slots.specs.Stands.{Suits, HoldsCells, HoldsEither, HoldsChanged, StandsEither, StandsChanged}
use Rattle.rz_cells_slots.specs.Open.{IsOpen, HoldsHeads, Knows}
use Rattle.rz_cells_slots.proofs.Made.{made_set, apart-set}

-- a slot has room for a head
pub slot_long : (g : Geometry) → 48 ≤ slot_of g
unfolding slot_bytes
slot_long g = omega arith

-- no slot is long
pub slot_small : (g : Geometry) → slot_of g ≤ 16448
unfolding slot_bytes
slot_small g = omega (arith, few_bins g.layout)

pub disk_small : (g : Geometry) → IsGeometry g → disk_bytes g < 2 ^ 41
disk_small g is =
    let one : 4 * g.cells * slot_of g ≤ 4 * g.cells * 16448 = mul-le-mul_left (4 * g.cells) (slot_small g) in
    omega (arith, one, is.few)

-- any record of the geometry's layout fits a slot
pub fits_slot : (g : Geometry) (h : Head) → IsValid h → h.layout ≡ g.layout → record_bytes h ≤ slot_of g
fits_slot g h valid same = subst (λ (y : Layout). record_bytes h ≤ slot_bytes y) same (record-fits h valid)

-- the front of the buffer spells the record
pub spelled : (g : Geometry) (r : Rec) (size : ℕ) (buffer bytes : List ℕ) → IsValid r.head → r.head.layout ≡ g.layout → size ≡ record_bytes r.head → length buffer ≡ slot_of g → IsRecord (take size buffer) r.head r.bins → bytes ≡ buffer → Spells (slot_of g) (take size bytes) (Some r)
spelled g r size buffer bytes valid layout is long rec same =
    let room = fits_slot g r.head valid layout in
    subst (λ (l : List ℕ). Spells (slot_of g) (take size l) (Some r)) (sym same)
    (record-spells (slot_of g) (take size buffer) r rec (length-take-le size buffer (omega (arith, room, is, long)) ∙ is) room)

pub some_is : (P : Head → Type 0) (a b : Head) → Some a ≡ Some b → P a → P b
some_is P a b same p = let one : a ≡ b = cc in subst P one p

-- a record of the geometry's layout suits it
pub suits_one : (g : Geometry) (r : Rec) → r.head.layout ≡ g.layout → Suits g (Some r)
suits_one g r layout q same = let one : r ≡ q = cc in subst (λ (p : Rec). p.head.layout ≡ g.layout) one layout

-- eight zeros spell no record
pub zeros_spell : (slot : ℕ) → Spells slot (0 ∷ 0 ∷ 0 ∷ 0 ∷ 0 ∷ 0 ∷ 0 ∷ 0 ∷ []) None
unfolding number_at
zeros_spell slot bytes long is = sym (number_at-take 0 8 8 bytes (omega arith)) ∙ ap (number_at 0 8) is

-- a text holds one list of cells
pub same_cells : (g : Geometry) (fence fence' : ℕ) (text : List ℕ) (cells cells' : List (Option Rec)) → HoldsCells g fence text cells → HoldsCells g fence' text cells' → cells ≡ cells'
same_cells g fence fence' text cells cells' holds holds' =
    ext_get_or None cells cells' (holds.count ∙ sym holds'.count)
    (λ c lt. one_reading (picked g text c) (in_cell cells c) (in_cell cells' c) (holds.each c (omega (arith, holds.count))) (holds'.each c (omega (arith, holds.count))))

module _ (g : Geometry) (fence : ℕ) (text : List ℕ) (heads : List (Option Head)) (known : HoldsHeads g fence text heads) where
  -- the heads are those of any cells that the text holds
  pub heads_are : (cells : List (Option Rec)) → HoldsCells g fence text cells → heads_of cells ≡ heads
  heads_are cells holds = ap heads_of (same_cells g fence fence text cells known.0 holds known.1) ∙ known.2

  module _ (cell : ℕ) (new : Option Rec) (in_range : cell < 2 * g.cells) (goes : (h : Head) → head_in new ≡ Some h → Goes heads cell h) where
    made_after : (cells : List (Option Rec)) (held : Records) → HoldsCells g fence text cells → Made cells held → Made (set cells cell new) (changed held (in_cell heads cell) new)
    made_after cells held holds made =
        let same = heads_are cells holds in
        subst (λ (hs : List (Option Head)). Made (set cells cell new) (changed held (in_cell hs cell) new)) same
        (made_set cells held cell new (omega (arith, holds.count)) (λ h is. subst (λ (hs : List (Option Head)). Goes hs cell h) (sym same) (goes h is)) made)

    pub stands_either : (image : List ℕ → Type 0) → HoldsEither g fence text image cell new → StandsEither g fence text image (in_cell heads cell) new
    stands_either image either held c (cells, holds, made) left = ⊎_elim
        (λ (was : HoldsCells g fence c cells). inl (cells, was, made))
        (λ (is : HoldsCells g fence c (set cells cell new)). inr (set cells cell new, is, made_after cells held holds made))
        (either cells c holds left)

    pub stands_changed : (after : List ℕ) → HoldsChanged g fence text after cell new → StandsChanged g fence text after (in_cell heads cell) new
    stands_changed after changes held (cells, holds, made) = (set cells cell new, changes cells holds, made_after cells held holds made)

-- a change leaves the cells open
pub open_after : (tells : Bool) (text after : List ℕ) (image image' : List ℕ → Type 0) (g : Geometry) (fence : ℕ) (gates gates' : List ℕ) (heads : List (Option Head)) (cell : ℕ) (new : Option Rec) → cell < 2 * g.cells
    → IsOpen tells text image g fence gates heads → Only after image' → length after ≡ length text
    → ((h : Head) → head_in new ≡ Some h → Goes heads cell h) → ((h : Head) → head_in new ≡ Some h → IsValid h) → ((h : Head) → head_in new ≡ Some h → h.layout ≡ g.layout)
    → (IsTrue tells → HoldsChanged g fence text after cell new) → (IsTrue tells → Knows g gates' after)
    → IsOpen tells after image' g fence gates' (set heads cell (head_in new))
open_after tells text after image image' g fence gates gates' heads cell new in_range was_open settled size goes valid layout changes known = record {
  size = size ∙ was_open.size;
  settled = settled;
  count = length-set heads cell (head_in new) ∙ was_open.count;
  apart = apart-set heads cell (head_in new) (omega (arith, was_open.count)) goes was_open.apart;
  valid = λ c h is. ⊎_elim
      (λ (here : c ≡ cell). valid h (own c h here is))
      (λ (other : c ≢ cell). was_open.valid c h (sym (get_or-set_other heads cell c (head_in new) None other) ∙ is))
      (cases_eq c cell);
  layout = λ c h is. ⊎_elim
      (λ (here : c ≡ cell). layout h (own c h here is))
      (λ (other : c ≢ cell). was_open.layout c h (sym (get_or-set_other heads cell c (head_in new) None other) ∙ is))
      (cases_eq c cell);
  known = known;
  holds = λ told.
      let was = was_open.holds told in
      (set was.0 cell new, changes told was.0 was.1, map-set head_in was.0 cell new ∙ ap (λ (hs : List (Option Head)). set hs cell (head_in new)) was.2);
}
  where
    own : (c : ℕ) (h : Head) → c ≡ cell → in_cell (set heads cell (head_in new)) c ≡ Some h → head_in new ≡ Some h
    own c h here is = sym (get_or-set_same heads cell (head_in new) None (omega (arith, was_open.count))) ∙ ap (λ (d : ℕ). in_cell (set heads cell (head_in new)) d) (sym here) ∙ is

-- a disk that reads the same, with no new image, is open as before
pub open_same : (tells : Bool) (text after : List ℕ) (image image' : List ℕ → Type 0) (g : Geometry) (fence : ℕ) (gates : List ℕ) (heads : List (Option Head)) → after ≡ text → Within image image'
    → IsOpen tells text image g fence gates heads → IsOpen tells after image' g fence gates heads
open_same tells text after image image' g fence gates heads same within was_open = record {
  size = ap length same ∙ was_open.size;
  settled = λ c left. was_open.settled c (within c left) ∙ sym same;
  count = was_open.count;
  apart = was_open.apart;
  valid = was_open.valid;
  layout = was_open.layout;
  known = λ told. subst (Knows g gates) (sym same) (was_open.known told);
  holds = λ told. subst (λ (t : List ℕ). HoldsHeads g fence t heads) (sym same) (was_open.holds told);
}
