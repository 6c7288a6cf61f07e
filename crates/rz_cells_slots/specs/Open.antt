-- What is known of an open disk.
use Rattle.std.specs.Prelude.{◌≡◌, ℕ, ◌*◌, ◌%◌, ◌<◌, Bool, IsTrue, Option, Some, List, length, slice_index}
use Rattle.rz_disk.specs.Images.{Only}
use Rattle.rz_events.specs.declared.records.Head.{Head}
use Rattle.rz_record.specs.Record.{IsValid}
use Rattle.rz_record.specs.Slot.{Rec}
use Rattle.rz_cells_slots.specs.declared.geometry.Geometry.{Geometry}
use Rattle.rz_cells_slots.specs.Held.{Apart, heads_of, in_cell}
use Rattle.rz_cells_slots.specs.Shape.{disk_bytes, gate_at}
use Rattle.rz_cells_slots.specs.Stands.{HoldsCells}

-- the low bit of each gate is known
abbrev pub Knows : Geometry → List ℕ → List ℕ → Type 0
Knows g gates text = (c : ℕ) → c < 2 * g.cells → slice_index gates c % 2 ≡ slice_index text (gate_at c) % 2

-- the text holds records with these heads
abbrev pub HoldsHeads : Geometry → ℕ → List ℕ → List (Option Head) → Type 0
HoldsHeads g fence text heads = (cells : List (Option Rec)) × HoldsCells g fence text cells × (heads_of cells ≡ heads)

-- the fence and the heads are those of any cells that the text holds
abbrev pub Finds : Geometry → List ℕ → ℕ → List (Option Head) → Type 0
Finds g text fence heads = (its : ℕ) (cells : List (Option Rec)) → HoldsCells g its text cells → (fence ≡ its) × (heads ≡ heads_of cells)

-- What the disk reads is all on it, and it holds records with these heads.
pub record IsOpen (tells : Bool) (text : List ℕ) (image : List ℕ → Type 0) (g : Geometry) (fence : ℕ) (gates : List ℕ) (heads : List (Option Head)) : Type 0 where
  pub size : length text ≡ disk_bytes g
  pub settled : Only text image
  pub count : length heads ≡ 2 * g.cells
  pub apart : Apart heads
  pub valid : (c : ℕ) (h : Head) → in_cell heads c ≡ Some h → IsValid h
  pub layout : (c : ℕ) (h : Head) → in_cell heads c ≡ Some h → h.layout ≡ g.layout
  pub known : IsTrue tells → Knows g gates text
  pub holds : IsTrue tells → HoldsHeads g fence text heads
