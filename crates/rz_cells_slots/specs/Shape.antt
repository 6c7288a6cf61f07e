-- How a disk is laid out: 64 bytes of header, a gate byte for each cell, and two slots for each.
use Rattle.std.specs.Prelude.{◌≡◌, ℕ, ◌+◌, ◌*◌, ◌%◌, ◌≤◌, List, slice_index}
use Rattle.mj_angles.specs.Layout.{bsize_of}
use Rattle.rz_disk.specs.Images.{window}
use Rattle.rz_record.specs.Record.{slot_bytes}
use Rattle.rz_cells_slots.specs.declared.geometry.Geometry.{Geometry}

-- a geometry that a disk may have
pub record IsGeometry (g : Geometry) : Type 0 where
  pub some : 1 ≤ g.cells
  pub few : g.cells ≤ 1048576
  pub bsize : g.bsize ≡ bsize_of g.layout

abbrev pub slot_of : Geometry → ℕ
slot_of g = slot_bytes g.layout

abbrev pub disk_bytes : Geometry → ℕ
disk_bytes g = 64 + 2 * g.cells + 4 * g.cells * slot_of g

-- where the gate of a cell stands
abbrev pub gate_at : ℕ → ℕ
gate_at c = 64 + c

-- where slot i of a cell begins
abbrev pub slot_at : Geometry → ℕ → ℕ → ℕ
slot_at g c i = 64 + 2 * g.cells + (2 * c + i) * slot_of g

-- the slot that the low bit of the cell's gate picks
abbrev pub picked : Geometry → List ℕ → ℕ → List ℕ
picked g text c = window (slot_at g c (slice_index text (gate_at c) % 2)) (slot_of g) text
