-- A disk of version 1: one cell where there is now a pair, and records without a base.
use Rattle.std.specs.Prelude.{◌≡◌, ◌⊎◌, ℕ, ◌+◌, ◌-◌, ◌*◌, ◌%◌, ◌<◌, ◌≤◌, ◌++◌, Bool, IsTrue, Option, None, List, [], ◌∷◌, length, take, drop, replicate, slice_index}
use Rattle.rz_disk.specs.Images.{window}
use Rattle.rz_record.specs.Slot.{Rec, Reads}
use Rattle.rz_cells_slots.specs.declared.geometry.Geometry.{Geometry}
use Rattle.rz_cells_slots.specs.declared.geometry.DiskVersion.TheVariants.{One}
use Rattle.rz_cells_slots.specs.Held.{Records, Made, count_held, in_cell}
use Rattle.rz_cells_slots.specs.Shape.{slot_of, gate_at}
use Rattle.rz_cells_slots.specs.Stands.{IsFormatted, IsHeaderOf, StandsFor, Suits}

-- a slot is shorter by the 8 bytes of a base
abbrev pub old_slot_of : Geometry → ℕ
old_slot_of g = slot_of g - 8

-- 64 bytes of header, a gate byte for each cell, and two slots for each
abbrev pub old_disk_bytes : Geometry → ℕ
old_disk_bytes g = 64 + g.cells + 2 * g.cells * old_slot_of g

-- where slot i of a cell begins
abbrev pub old_slot_at : Geometry → ℕ → ℕ → ℕ
old_slot_at g c i = 64 + g.cells + (2 * c + i) * old_slot_of g

-- the slot that the low bit of the cell's gate picks
abbrev pub old_picked : Geometry → List ℕ → ℕ → List ℕ
old_picked g text c = window (old_slot_at g c (slice_index text (gate_at c) % 2)) (old_slot_of g) text

-- the bytes of a slot, with a base of 0 where a record has its base
unfoldable pub with_base : List ℕ → List ℕ
with_base slot = take 40 slot ++ (replicate 8 0 ++ drop 40 slot)

-- what a cell holds, as a slot is now
abbrev pub old_slot : Geometry → List ℕ → ℕ → List ℕ
old_slot g text c = with_base (old_picked g text c)

-- Each cell's picked slot begins with this record, but for its base of 0, or with a zero stamp.
pub record HoldsOld (g : Geometry) (fence : ℕ) (text : List ℕ) (cells : List (Option Rec)) : Type 0 where
  pub size : length text ≡ old_disk_bytes g
  pub header : IsHeaderOf One g fence text
  pub formatted : IsFormatted text
  pub count : length cells ≡ g.cells
  pub each : (c : ℕ) → c < g.cells → Reads (old_slot g text c) (in_cell cells c)
  pub suits : (c : ℕ) → Suits g (in_cell cells c)

-- An old disk holds at most n records: it has no more cells, or it tells that it holds no more.
abbrev pub HoldsAtMost : Bool → Geometry → List ℕ → ℕ → Type 0
HoldsAtMost tells g text n =
    (g.cells ≤ n) ⊎ (IsTrue tells × ((fence : ℕ) × (cells : List (Option Rec)) × HoldsOld g fence text cells × (count_held cells ≤ n)))

-- each in the first cell of a pair, with nothing beside it
unfoldable pub paired : {A : Type 0} → List (Option A) → List (Option A)
paired [] = []
paired (o ∷ os) = o ∷ None ∷ paired os

-- The text of an old disk stands for a geometry, a fence and a map. No key stands in two cells.
abbrev pub OldStandsFor : Geometry → ℕ → List ℕ → Records → Type 0
OldStandsFor g fence text held = (cells : List (Option Rec)) × HoldsOld g fence text cells × Made (paired cells) held

-- A text stands for the fence and the records for which an old one stands.
abbrev pub CarriesOver : Geometry → List ℕ → List ℕ → Type 0
CarriesOver g old text = (fence : ℕ) × (held : Records) × OldStandsFor g fence old held × StandsFor g fence text held
