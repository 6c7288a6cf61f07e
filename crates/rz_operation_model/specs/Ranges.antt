-- A range of bytes of a file, which is written or read block by block, ascending.
use Rattle.std.specs.Prelude.{ℕ, Bool, ◌==◌, ◌&&◌, ◌+◌, ◌-◌, ◌*◌, ◌/◌, ◌%◌, min, map, List, ◌++◌, length, take, drop, replicate}
use Rattle.std.specs.List.{range_with_len}
use Rattle.mj_angles.specs.declared.layout.Layout.{Layout}
use Rattle.mj_angles.specs.Layout.{block_bytes_of}
use Rattle.rz_events.specs.declared.keys.Key.{Key}
use Rattle.rz_events.specs.declared.files.FileInfo.{FileInfo}
use Rattle.rz_events.specs.declared.operations.Datum.{Datum}
use Rattle.rz_events.specs.declared.operations.Datum.TheVariants as datum

-- the bytes that an operation writes
abbrev pub bytes_of : Datum → List ℕ
bytes_of (datum.Bytes text) = text
bytes_of (datum.Made length seed) = map (λ i. (seed + 31 * i) % 256) (range_with_len 0 length)

-- what is done with the range: it is read, and these bytes came so far, or these bytes are written into it
pub data Aim : Type 0 where
  Taking : List ℕ → Aim
  Giving : List ℕ → Aim

-- so many bytes of the range are done; the next one lies in the block in hand
pub record RangeState : Type 0 where
  pub info : FileInfo
  pub offset : ℕ
  pub size : ℕ
  pub done : ℕ
  pub aim : Aim

-- The block in hand.

abbrev pub key_in : Layout → RangeState → Key
key_in layout r = record { fid = r.info.fid; block = (r.offset + r.done) / block_bytes_of layout }

-- where in it the range goes on
abbrev pub start_in : Layout → RangeState → ℕ
start_in layout r = (r.offset + r.done) % block_bytes_of layout

-- so many bytes of the range lie in it
abbrev pub count_in : Layout → RangeState → ℕ
count_in layout r = min (block_bytes_of layout - start_in layout r) (r.size - r.done)

-- the range covers it whole
abbrev pub is_whole : Layout → RangeState → Bool
is_whole layout r = (start_in layout r == 0) && (count_in layout r == block_bytes_of layout)

-- the range where the block in hand is done
abbrev pub passed : Layout → RangeState → Aim → RangeState
passed layout r aim = record r { done = r.done + count_in layout r; aim = aim }

-- Texts of blocks.

-- so many bytes from `start` on, with zeros past the end
abbrev pub cut : ℕ → ℕ → List ℕ → List ℕ
cut start count text = take count (drop start text ++ replicate count 0)

-- the text with these bytes from `start` on, with zeros before them where it is shorter
abbrev pub patched : ℕ → List ℕ → List ℕ → List ℕ
patched start bytes text = cut 0 start text ++ bytes ++ drop (start + length bytes) text
