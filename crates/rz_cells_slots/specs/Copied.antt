-- A new disk while an old one is copied onto it, before its gate is opened.
use Rattle.std.specs.Prelude.{◌≡◌, ℕ, ◌+◌, ◌*◌, ◌<◌, ◌≤◌, Option, Some, List, length, slice_index}
use Rattle.rz_disk.specs.Images.{window, Written}
use Rattle.rz_record.specs.Slot.{Rec, Reads, Spells}
use Rattle.rz_cells_slots.specs.declared.geometry.Geometry.{Geometry}
use Rattle.rz_cells_slots.specs.Held.{Apart, heads_of, in_cell}
use Rattle.rz_cells_slots.specs.Shape.{disk_bytes, gate_at, slot_at, slot_of}
use Rattle.rz_cells_slots.specs.Stands.{HoldsCells, IsHeader, IsShut}
use Rattle.rz_cells_slots.specs.Old.{HoldsOld, paired}
use Rattle.rz_events.specs.declared.records.Head.{Head}

-- no image has an open header
abbrev pub AllShut : (List ℕ → Type 0) → Type 0
AllShut image = (c : List ℕ) → image c → IsShut c

-- All gates are zero, the first slots of the first k cells begin with these records, and what follows is zeros.
pub record CopiedTo (g : Geometry) (fence : ℕ) (text : List ℕ) (cells : List (Option Rec)) (k : ℕ) : Type 0 where
  pub size : length text ≡ disk_bytes g
  pub header : IsHeader g fence text
  pub gates : (i : ℕ) → 32 ≤ i → i < 64 + 2 * g.cells → slice_index text i ≡ 0
  pub done : (c : ℕ) → c < k → Reads (window (slot_at g c 0) (slot_of g) text) (in_cell cells c)
  pub zeros : (i : ℕ) → slot_at g k 0 ≤ i → slice_index text i ≡ 0

-- The cells that an old text holds, which have these heads, are copied as far as k pairs.
abbrev pub CopiesTo : Geometry → ℕ → List ℕ → List (Option Head) → List ℕ → ℕ → Type 0
CopiesTo g fence old heads text k =
    (its : ℕ) (cells : List (Option Rec)) → HoldsOld g its old cells → heads_of cells ≡ heads → CopiedTo g fence text (paired cells) (2 * k)

-- the device calls of a copy of so many records that the new disk takes: the header, each record, a sync, and the stored gate
abbrev pub copy_calls : ℕ → ℕ
copy_calls records = 4 + records

-- a header with its gate shut, and zeros
pub record IsBlank (g : Geometry) (fence : ℕ) (text : List ℕ) : Type 0 where
  pub size : length text ≡ disk_bytes g
  pub header : IsHeader g fence text
  pub zeros : (i : ℕ) → 32 ≤ i → slice_index text i ≡ 0

-- bytes that spell a record were written into the first slot of a cell
abbrev pub PutsRecord : Geometry → ℕ → Rec → List ℕ → List ℕ → Type 0
PutsRecord g c r text after =
    (bytes : List ℕ) × (length bytes ≤ slot_of g) × Spells (slot_of g) bytes (Some r) × Written (slot_at g c 0) bytes text after

-- A text holds the cells that an old text holds, each in a pair, and all its gates are zero.
pub record HoldsPairs (g : Geometry) (fence : ℕ) (text : List ℕ) (cells : List (Option Rec)) : Type 0 where
  pub holds : HoldsCells g fence text (paired cells)
  pub gates : (c : ℕ) → c < 2 * g.cells → slice_index text (gate_at c) ≡ 0

-- the cells that an old text holds, which have these heads
abbrev pub HoldsCopy : Geometry → ℕ → List ℕ → List (Option Head) → List ℕ → Type 0
HoldsCopy g fence old heads text =
    (its : ℕ) (cells : List (Option Rec)) → HoldsOld g its old cells → heads_of cells ≡ heads → HoldsPairs g fence text cells

-- An old text holds some cells, and a new one holds each of these in a pair.
abbrev pub HoldsBoth : Geometry → ℕ → List ℕ → List ℕ → Type 0
HoldsBoth g fence old text =
    (cells : List (Option Rec)) × HoldsOld g fence old cells × HoldsCells g fence text (paired cells) × Apart (heads_of (paired cells))
