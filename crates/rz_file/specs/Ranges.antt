-- A range in code.
use Rattle.std.specs.Prelude.{ℕ, ◌≤◌, ◌<◌, ◌+◌, ◌-◌, ◌%◌, ◌^◌, List, [], drop}
use Rattle.mj_angles.specs.declared.layout.Layout.{Layout}
use Rattle.mj_angles.specs.Layout.{block_bytes_of}
use Rattle.rz_operation_model.specs.Ranges.{Aim, Taking, RangeState}
use Rattle.rz_file.specs.declared.range.RangeProgress.{RangeProgress}

abbrev pub range_of : Aim → RangeProgress → RangeState
range_of aim r = record { info = r.info; offset = r.offset; size = r.size; done = r.done; aim = aim }

-- the range, whatever is done with it
abbrev pub bare : RangeProgress → RangeState
bare r = range_of (Taking []) r

-- no more is done than there is, and the end has 64 bits
pub record InRange (r : RangeProgress) : Type 0 where
  pub done : r.done ≤ r.size
  pub ends : r.offset + r.size < 2 ^ 64

-- so many bytes of a range come before the first block that begins in it
abbrev pub lead_of : Layout → ℕ → ℕ
lead_of layout offset = (block_bytes_of layout - offset % block_bytes_of layout) % block_bytes_of layout

-- the bytes from that block on
abbrev pub from_first_block : Layout → ℕ → List ℕ → List ℕ
from_first_block layout offset bytes = drop (lead_of layout offset) bytes
