-- The record of a cell is the one that was noted.
use Rattle.std.proofs.Common.{◌≡◌, ℕ, ◌*◌, ◌<◌, List, length, Option, Some, None, refl, sym, ◌∙◌, ap, subst, arith}
use Rattle.std.specs.Option.{option_map}
use Rattle.std.proofs.lemmas.List.{get_or-map}
use Rattle.rz_events.specs.declared.records.Head.{Head}
use Rattle.rz_record.specs.Slot.{Rec, Reads}
use Rattle.rz_node_model.specs.Records.{record_of}
use Rattle.rz_cells_slots.specs.declared.geometry.Geometry.{Geometry}
use Rattle.rz_cells_slots.specs.Held.{in_cell, heads_of}
use Rattle.rz_cells_slots.specs.Shape.{picked}
use Rattle.rz_cells_slots.specs.Stands.{HoldsCells}
use Rattle.rz_cells_slots.specs.Open.{HoldsHeads}

-- a head in the heads of cells is that of a record there
record-of : (cells : List (Option Rec)) (cell : ℕ) (h : Head) → cell < length cells → in_cell (heads_of cells) cell ≡ Some h → (r : Rec) × (in_cell cells cell ≡ Some r) × (r.head ≡ h)
record-of cells cell h lt is = go (in_cell cells cell) refl (sym (get_or-map (λ (o : Option Rec). option_map (λ (r : Rec). r.head) o) cells cell None None lt) ∙ is)
  where
    go : (o : Option Rec) → in_cell cells cell ≡ o → option_map (λ (r : Rec). r.head) (in_cell cells cell) ≡ Some h → (r : Rec) × (in_cell cells cell ≡ Some r) × (r.head ≡ h)
    go None there is = let no : None ≡ Some h = sym (ap (option_map (λ (r : Rec). r.head)) there) ∙ is in absurd (cc)
    go (Some r) there is = let same : Some r.head ≡ Some h = sym (ap (option_map (λ (r : Rec). r.head)) there) ∙ is in (r, there, cc)

-- two readings of a slot have one key, stamp, length and base
same-record : (slot : List ℕ) (q : Rec) (o : Option Rec) → Reads slot (Some q) → Reads slot o → (r : Rec) × (o ≡ Some r) × (r.head.key ≡ q.head.key) × (record_of r.head ≡ record_of q.head)
same-record slot q None one other = absurd (one.head.valid.some (one.head.stamp ∙ other))
same-record slot q (Some r) one other = (
  r,
  refl,
  λ i. record { fid = (other.head.fid ∙ sym one.head.fid) i; block = (other.head.block ∙ sym one.head.block) i },
  λ i. record { stamp = (other.head.stamp ∙ sym one.head.stamp) i; length = (other.head.text_length ∙ sym one.head.text_length) i; base = (other.head.base ∙ sym one.head.base) i },
)

-- Whatever cells a text holds, this cell has the record with the head that is known of it.
pub one-record : (g : Geometry) (fence fence' : ℕ) (text : List ℕ) (heads : List (Option Head)) → HoldsHeads g fence text heads → (cells : List (Option Rec)) → HoldsCells g fence' text cells → (cell : ℕ) (h : Head) → cell < 2 * g.cells → in_cell heads cell ≡ Some h
    → (r : Rec) × (in_cell cells cell ≡ Some r) × (r.head.key ≡ h.key) × (record_of r.head ≡ record_of h)
one-record g fence fence' text heads known cells holds cell h lt is =
    let there = record-of known.0 cell h (omega (arith, known.1.count, lt)) (ap (λ (hs : List (Option Head)). in_cell hs cell) known.2 ∙ is) in
    let read = subst (Reads (picked g text cell)) there.1 (known.1.each cell lt) in
    let r = same-record (picked g text cell) there.0 (in_cell cells cell) read (holds.each cell lt) in
    (r.0, r.1, r.2 ∙ ap (λ (x : Head). x.key) there.2, r.3 ∙ ap record_of there.2)
