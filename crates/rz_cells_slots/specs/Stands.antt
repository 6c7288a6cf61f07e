-- What the text of a disk stands for.
use Rattle.std.specs.Prelude.{◌≡◌, ◌⊎◌, ℕ, ◌*◌, ◌%◌, ◌<◌, ◌≤◌, Option, Some, List, length, slice_index, slice_set, codes}
use Rattle.mj_angles.specs.Layout.{number_of}
use Rattle.rz_events.specs.declared.records.Head.{Head}
use Rattle.rz_record.specs.Fields.{number_at}
use Rattle.rz_record.specs.Slot.{Rec, Reads}
use Rattle.rz_cells_slots.specs.declared.geometry.Geometry.{Geometry}
use Rattle.rz_cells_slots.specs.declared.geometry.DiskVersion.{DiskVersion}
use Rattle.rz_cells_slots.specs.declared.geometry.DiskVersion.TheVariants.{One, Two}
use Rattle.rz_cells_slots.specs.Held.{Records, Made, changed, in_cell}
use Rattle.rz_cells_slots.specs.Shape.{disk_bytes, picked}

-- what the first 8 bytes are as a number
unfoldable pub magic : ℕ
magic = number_at 0 8 (codes "MJROZO02")

-- and in version 1
unfoldable pub old_magic : ℕ
old_magic = number_at 0 8 (codes "MJROZO01")

abbrev pub magic_of : DiskVersion → ℕ
magic_of One = old_magic
magic_of Two = magic

-- the header's gate is open
abbrev pub IsFormatted : List ℕ → Type 0
IsFormatted text = slice_index text 32 % 2 ≡ 1

-- the header's gate is shut
abbrev pub IsShut : List ℕ → Type 0
IsShut text = slice_index text 32 % 2 ≡ 0

-- the header of a geometry and a fence in a version, before its gate
pub record IsHeaderOf (v : DiskVersion) (g : Geometry) (fence : ℕ) (text : List ℕ) : Type 0 where
  pub magic_is : number_at 0 8 text ≡ magic_of v
  pub layout : slice_index text 8 ≡ number_of g.layout
  pub bsize : slice_index text 9 ≡ g.bsize
  pub node : number_at 10 2 text ≡ g.node
  pub cells : number_at 12 4 text ≡ g.cells
  pub fence_is : number_at 16 8 text ≡ fence
  pub reserved : number_at 24 8 text ≡ 0

abbrev pub IsHeader : Geometry → ℕ → List ℕ → Type 0
IsHeader g fence text = IsHeaderOf Two g fence text

-- a record of the geometry's layout and block size, or none
abbrev pub Suits : Geometry → Option Rec → Type 0
Suits g o = (r : Rec) → o ≡ Some r → r.head.layout ≡ g.layout

-- Each cell's picked slot begins with this record, or with a zero stamp.
pub record HoldsCells (g : Geometry) (fence : ℕ) (text : List ℕ) (cells : List (Option Rec)) : Type 0 where
  pub size : length text ≡ disk_bytes g
  pub header : IsHeader g fence text
  pub formatted : IsFormatted text
  pub count : length cells ≡ 2 * g.cells
  pub each : (c : ℕ) → c < 2 * g.cells → Reads (picked g text c) (in_cell cells c)
  pub suits : (c : ℕ) → Suits g (in_cell cells c)

-- The text stands for a geometry, a fence and a map.
abbrev pub StandsFor : Geometry → ℕ → List ℕ → Records → Type 0
StandsFor g fence text held = (cells : List (Option Rec)) × HoldsCells g fence text cells × Made cells held

-- a header with an open gate, and zeros
pub record IsFresh (g : Geometry) (fence : ℕ) (text : List ℕ) : Type 0 where
  pub size : length text ≡ disk_bytes g
  pub header : IsHeader g fence text
  pub formatted : IsFormatted text
  pub zeros : (i : ℕ) → 33 ≤ i → slice_index text i ≡ 0

abbrev pub ShutOrFresh : Geometry → ℕ → List ℕ → Type 0
ShutOrFresh g fence text = IsShut text ⊎ IsFresh g fence text

-- Where a text holds some cells, the new one holds them with one cell changed.
abbrev pub HoldsChanged : Geometry → ℕ → List ℕ → List ℕ → ℕ → Option Rec → Type 0
HoldsChanged g fence text after cell new =
    (cells : List (Option Rec)) → HoldsCells g fence text cells → HoldsCells g fence after (slice_set cells cell new)

-- Each image holds the cells from before, or with that change.
abbrev pub HoldsEither : Geometry → ℕ → List ℕ → (List ℕ → Type 0) → ℕ → Option Rec → Type 0
HoldsEither g fence text image cell new =
    (cells : List (Option Rec)) (c : List ℕ) → HoldsCells g fence text cells → image c
    → HoldsCells g fence c cells ⊎ HoldsCells g fence c (slice_set cells cell new)

-- Where a text stands for some records, the new one stands for them with one changed.
abbrev pub StandsChanged : Geometry → ℕ → List ℕ → List ℕ → Option Head → Option Rec → Type 0
StandsChanged g fence text after old new =
    (held : Records) → StandsFor g fence text held → StandsFor g fence after (changed held old new)

-- Each image stands for the records from before, or with that change.
abbrev pub StandsEither : Geometry → ℕ → List ℕ → (List ℕ → Type 0) → Option Head → Option Rec → Type 0
StandsEither g fence text image old new =
    (held : Records) (c : List ℕ) → StandsFor g fence text held → image c
    → StandsFor g fence c held ⊎ StandsFor g fence c (changed held old new)

-- The new text holds any cells that the old one holds with one cell changed, and stands for its records with that change.
pub record Changes (g : Geometry) (fence : ℕ) (text after : List ℕ) (heads : List (Option Head)) (cell : ℕ) (new : Option Rec) : Type 0 where
  pub cells : HoldsChanged g fence text after cell new
  pub records : StandsChanged g fence text after (in_cell heads cell) new

-- Each image holds the cells from before, or with that change, and stands for the records so.
pub record MayChange (g : Geometry) (fence : ℕ) (text : List ℕ) (image : List ℕ → Type 0) (heads : List (Option Head)) (cell : ℕ) (new : Option Rec) : Type 0 where
  pub cells : HoldsEither g fence text image cell new
  pub records : StandsEither g fence text image (in_cell heads cell) new
