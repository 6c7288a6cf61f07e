-- What an opening of an old disk finds wrong.
use Rattle.std.specs.Prelude.{◌≡◌, ◌≢◌, ℕ, ◌+◌, ◌<◌, ◌≤◌, ◌%◌, Option, Some, None, List, length, slice_index}
use Rattle.rz_events.specs.declared.records.Head.{Head}
use Rattle.rz_events.specs.declared.nodes.OpenFault.{OpenFault}
use Rattle.rz_events.specs.declared.nodes.OpenFault.TheVariants.{NoMemory, WrongSize, DiskFault, Unformatted, BadHeader, Damaged, Twice}
use Rattle.rz_record.specs.Record.{IsValid}
use Rattle.rz_cells_slots.specs.declared.geometry.Geometry.{Geometry}
use Rattle.rz_cells_slots.specs.declared.geometry.DiskVersion.TheVariants.{One}
use Rattle.rz_cells_slots.specs.Held.{in_cell}
use Rattle.rz_cells_slots.specs.Shape.{gate_at}
use Rattle.rz_cells_slots.specs.Stands.{IsFormatted}
use Rattle.rz_cells_slots.specs.Opening.{Agrees, FirstDiffers, IsFirst, ReadsHead, Unreadable}
use Rattle.rz_cells_slots.specs.Old.{old_disk_bytes, old_slot}

-- the low bit of each gate is known
abbrev pub OldKnows : Geometry → List ℕ → List ℕ → Type 0
OldKnows g gates text = (c : ℕ) → c < g.cells → slice_index gates c % 2 ≡ slice_index text (gate_at c) % 2

-- no key stands in two cells
abbrev pub NoKeyTwice : List (Option Head) → Type 0
NoKeyTwice heads = (c d : ℕ) (h k : Head) → c < d → in_cell heads c ≡ Some h → in_cell heads d ≡ Some k → h.key ≢ k.key

-- the first k cells of the text hold these heads
abbrev pub OldReadTo : Geometry → List ℕ → List (Option Head) → ℕ → Type 0
OldReadTo g text heads k = (c : ℕ) → c < k → ReadsHead g (old_slot g text c) (in_cell heads c)

-- heads of the first k cells, valid and of the geometry's layout, each key once
pub record OldFitTo (g : Geometry) (heads : List (Option Head)) (k : ℕ) : Type 0 where
  pub past : (c : ℕ) → k ≤ c → in_cell heads c ≡ None
  pub once : NoKeyTwice heads
  pub valid : (c : ℕ) (h : Head) → in_cell heads c ≡ Some h → IsValid h
  pub layout : (c : ℕ) (h : Head) → in_cell heads c ≡ Some h → h.layout ≡ g.layout

-- the first k cells hold these heads, each key once
pub record OldFineTo (g : Geometry) (text : List ℕ) (heads : List (Option Head)) (k : ℕ) : Type 0 where
  pub reads : OldReadTo g text heads k
  pub past : (c : ℕ) → k ≤ c → in_cell heads c ≡ None
  pub once : NoKeyTwice heads

-- the earlier cells are fine, and this one begins with no head of the geometry and no zero stamp
abbrev pub OldDamaged : Geometry → List ℕ → ℕ → Type 0
OldDamaged g text c = (c < g.cells) × ((heads : List (Option Head)) × OldFineTo g text heads c × Unreadable g (old_slot g text c))

-- the earlier cells are fine, and the first of two of them with one key is this
abbrev pub OldTwice : Geometry → List ℕ → ℕ → ℕ → Type 0
OldTwice g text first second =
    (second < g.cells)
    × ((heads : List (Option Head)) × OldFineTo g text heads second
    × ((h : Head) × ReadsHead g (old_slot g text second) (Some h) × IsFirst heads second h.key (Some first)))

-- why the cells were not read
abbrev pub OldCellsFault : Geometry → List ℕ → OpenFault → Type 0
OldCellsFault g text (Damaged cell) = OldDamaged g text cell
OldCellsFault g text (Twice first second) = OldTwice g text first second
OldCellsFault g text DiskFault = Unit {0}
OldCellsFault g text _ = ⊥

-- the device calls of an opening: a sync, a read of the header, one of the gates, and one for each cell
abbrev pub old_opening_calls : Geometry → ℕ
old_opening_calls g = 3 + g.cells

-- The first thing that is wrong with the text of an old disk.
abbrev pub OldRefuses : Geometry → List ℕ → OpenFault → Type 0
OldRefuses g text NoMemory = ⊥
OldRefuses g text (WrongSize have need) = (have ≡ length text) × (need ≡ old_disk_bytes g) × (have ≢ need)
OldRefuses g text DiskFault = length text ≡ old_disk_bytes g
OldRefuses g text Unformatted = (length text ≡ old_disk_bytes g) × (¬ IsFormatted text)
OldRefuses g text (BadHeader field value) = (length text ≡ old_disk_bytes g) × IsFormatted text × FirstDiffers One g text field value
OldRefuses g text (Damaged cell) = (length text ≡ old_disk_bytes g) × IsFormatted text × Agrees One g text × OldDamaged g text cell
OldRefuses g text (Twice first second) = (length text ≡ old_disk_bytes g) × IsFormatted text × Agrees One g text × OldTwice g text first second
