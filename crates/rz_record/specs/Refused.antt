-- Why bytes are not read as a record.
use Rattle.std.specs.Prelude.{◌≡◌, ◌⊎◌, ℕ, ◌+◌, ◌*◌, ◌^◌, ◌<◌, ◌≤◌, List, length, slice_index}
use Rattle.rz_events.specs.declared.records.Head.{Head}
use Rattle.rz_record.specs.declared.faults.Field.{Field}
use Rattle.rz_record.specs.declared.faults.Field.TheVariants.{Layout, Bsize, Position, Reserved, Length, Base}
use Rattle.rz_record.specs.declared.faults.RecordFault.{RecordFault}
use Rattle.rz_record.specs.declared.faults.RecordFault.TheVariants.{Short, Empty, BadField}
use Rattle.rz_record.specs.Fields.{number_at}
use Rattle.rz_record.specs.Record.{IsEmpty, IsHead, record_bytes}

-- what stands in a field
abbrev pub value_at : List ℕ → Field → ℕ
value_at bytes Layout = slice_index bytes 32
value_at bytes Bsize = slice_index bytes 33
value_at bytes Position = slice_index bytes 34
value_at bytes Reserved = slice_index bytes 35
value_at bytes Length = number_at 36 4 bytes
value_at bytes Base = number_at 40 8 bytes

-- what may stand in a field: a layout has 4, 8 or 16 positions by its number, and a block 4096 bytes
-- or 2, 4 or 8 times as many
abbrev pub Meets : List ℕ → Field → Type 0
Meets bytes Layout = slice_index bytes 32 < 3
Meets bytes Bsize = slice_index bytes 33 < 4
Meets bytes Position = slice_index bytes 34 < 2 * 2 ^ (slice_index bytes 32 + 1)
Meets bytes Reserved = slice_index bytes 35 ≡ 0
Meets bytes Length = number_at 36 4 bytes ≤ 4096 * 2 ^ slice_index bytes 33
Meets bytes Base = number_at 40 8 bytes < number_at 0 8 bytes

-- the order in which fields are looked at
abbrev pub place : Field → ℕ
place Layout = 0
place Bsize = 1
place Position = 2
place Reserved = 3
place Length = 4
place Base = 5

-- the first field that is not as it may be, and what stands there
pub record FirstBad (bytes : List ℕ) (field : Field) (value : ℕ) : Type 0 where
  pub found : value ≡ value_at bytes field
  pub bad : ¬ Meets bytes field
  pub before : (other : Field) → place other < place field → Meets bytes other

-- the first thing that is wrong with a head
abbrev pub HeadRefused : List ℕ → RecordFault → Type 0
HeadRefused bytes (Short have need) = (have ≡ length bytes) × (need ≡ 48) × (length bytes < 48)
HeadRefused bytes Empty = (48 ≤ length bytes) × IsEmpty bytes
HeadRefused bytes (BadField field value) = (48 ≤ length bytes) × (¬ IsEmpty bytes) × FirstBad bytes field value

-- behind a head there are too few bytes for its bins
abbrev pub BinsRefused : List ℕ → RecordFault → Type 0
BinsRefused bytes (Short have need) = (h : Head) × IsHead bytes h × (have ≡ length bytes) × (need ≡ record_bytes h) × (length bytes < record_bytes h)
BinsRefused bytes Empty = ⊥
BinsRefused bytes (BadField field value) = ⊥

-- the first thing that is wrong with a record
abbrev pub RecordRefused : List ℕ → RecordFault → Type 0
RecordRefused bytes e = HeadRefused bytes e ⊎ BinsRefused bytes e
