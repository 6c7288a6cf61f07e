-- The bins that stand in a cell.
use Rattle.std.proofs.Common.{◌≡◌, ℕ, ◌+◌, ◌-◌, ◌*◌, ◌%◌, ◌<◌, ◌≤◌, Option, Some, List, length, take, drop, get_or, sym, ◌∙◌, ap, subst, arith}
use Rattle.std.proofs.lemmas.List.{drop-drop, drop-take, take-take}
use Rattle.byteorder.specs.Endian.{IsRead, little_number}
use Rattle.rz_disk.specs.Images.{window}
use Rattle.rz_record.specs.Record.{IsRecord, bins_of}
use Rattle.rz_record.specs.Slot.{Rec, Reads}
use Rattle.rz_record.proofs.Codec.{bins-read, one_bins}
use Rattle.rz_cells_slots.specs.declared.geometry.Geometry.{Geometry}
use Rattle.rz_cells_slots.specs.Held.{in_cell}
use Rattle.rz_cells_slots.specs.Shape.{picked, slot_at, slot_of, gate_at}
use Rattle.rz_cells_slots.specs.Stands.{HoldsCells}
use Rattle.rz_disk.proofs.Images.{window-length}
use Rattle.rz_cells_slots.proofs.Slots.{picked_is, slot_within}

-- a range of a range
pub within-window : (a b m n : ℕ) (text : List ℕ) → b + m ≤ n → window (a + b) m text ≡ take m (drop b (window a n text))
within-window a b m n text fits =
    ap (take m) (sym (drop-drop b a text))
    ∙ sym (take-take m (n - b) (drop b (drop a text)) (omega arith))
    ∙ ap (take m) (sym (drop-take b (n - b) (drop a text)) ∙ ap (λ (k : ℕ). drop b (take k (drop a text))) (omega arith))

pub bins_here : (g : Geometry) (fence : ℕ) (text : List ℕ) (cells : List (Option Rec)) (cell gate : ℕ) (dst : List ℕ) (r : Rec) → HoldsCells g fence text cells → cell < 2 * g.cells → gate % 2 ≡ get_or text (gate_at cell) 0 % 2
    → in_cell cells cell ≡ Some r → length dst ≡ bins_of r.head → IsRead little_number 8 (window (slot_at g cell (gate % 2) + 48) (8 * length dst) text) dst → dst ≡ r.bins
bins_here g fence text cells cell gate dst r holds in_range known is count read =
    let slot : List ℕ = picked g text cell in
    let rec : IsRecord (picked g text cell) r.head r.bins = subst (Reads (picked g text cell)) is (holds.each cell in_range) in
    let pick : picked g text cell ≡ window (slot_at g cell (gate % 2)) (slot_of g) text = picked_is g text cell (gate % 2) (sym known) in
    let long : length (picked g text cell) ≡ slot_of g = ap length pick ∙ window-length (slot_at g cell (gate % 2)) (slot_of g) text (omega (arith, holds.size, slot_within g cell (gate % 2) in_range (omega arith))) in
    let room : 48 + 8 * length dst ≤ slot_of g = omega (arith, rec.behind.room, rec.count, count, long) in
    let here : window (slot_at g cell (gate % 2) + 48) (8 * length dst) text ≡ take (8 * length dst) (drop 48 (picked g text cell)) =
    within-window (slot_at g cell (gate % 2)) 48 (8 * length dst) (slot_of g) text room ∙ ap (λ (l : List ℕ). take (8 * length dst) (drop 48 l)) (sym pick) in
    one_bins (picked g text cell) dst r.bins (count ∙ sym rec.count)
    (bins-read (picked g text cell) dst (8 * length dst) (omega arith) (omega (arith, room, long)) (subst (λ (l : List ℕ). IsRead little_number 8 l dst) here read))
    rec.behind
