-- What is read of a half.
use Rattle.std.specs.Prelude.{◌≡◌, ◌⊎◌, ℕ, ◌+◌, ◌%◌, ◌<◌, ◌≤◌, List, length, drop, slice_index}
use Rattle.byteorder.specs.Endian.{little_number}
use Rattle.rz_disk.specs.Images.{window}
use Rattle.rz_journal_text.specs.declared.entry.JournalEntry.{JournalEntry as Said}
use Rattle.rz_journal_text.specs.Spelling.{Spells}
use Rattle.rz_journal.specs.Row.{Entries, taken, IsEntryAt, Row}
use Rattle.rz_journal.specs.declared.reading.EntryFound.{EntryFound}
use Rattle.rz_journal.specs.declared.reading.EntryFound.TheVariants.{End, Entry, Damaged}
use Rattle.rz_journal.specs.JournalText.{AreSpelled}

-- the length behind a gate
abbrev pub length_at : List ℕ → ℕ → ℕ
length_at half at = little_number 4 (drop (at + 1) half)

-- behind an open gate there is no room for the entry and the next gate, or no entry has the bytes
pub record IsDamaged (half : List ℕ) (at : ℕ) : Type 0 where
  pub open_gate : slice_index half at % 2 ≡ 1
  pub wrong : (length half ≤ at + (5 + length_at half at)) ⊎ ((e : Said) → ¬ Spells (window (at + 5) (length_at half at) half) e)

-- what stands at an address: the end, an entry and the address behind it, or a damaged one
abbrev pub IsEntryFound : List ℕ → ℕ → EntryFound → Type 0
IsEntryFound half at End = slice_index half at % 2 ≡ 0
IsEntryFound half at (Entry e next) = (bytes : List ℕ) × IsEntryAt at bytes half × Spells bytes e × (next ≡ at + (5 + length bytes)) × (next < length half)
IsEntryFound half at Damaged = IsDamaged half at

-- the entries from the front on, which take so many bytes
abbrev pub SoFar : List ℕ → List Said → ℕ → Type 0
SoFar half entries used = (bytes : Entries) × Row 0 bytes half × AreSpelled bytes entries × (taken bytes ≡ used)
