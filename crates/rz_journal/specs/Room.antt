-- Entries as the rows that stand in a half, and what of them fits.
use Rattle.std.specs.Prelude.{◌≡◌, ℕ, ◌+◌, ◌<◌, List, length, map}
use Rattle.rz_export_model.specs.Export.{Export}
use Rattle.rz_export.specs.Parts.{export_parts}
use Rattle.rz_journal_text.specs.declared.entry.JournalEntry.{JournalEntry}
use Rattle.rz_journal_text.specs.declared.entry.JournalEntry.TheVariants.{Built}
use Rattle.rz_journal_text.specs.Spelling.{entry_bytes}
use Rattle.rz_journal.specs.Row.{Entries, taken, row_bytes}
use Rattle.rz_journal.specs.declared.room.Halt.{Halt}
use Rattle.rz_journal.specs.declared.room.Halt.TheVariants.{NoMemory, Full, Failed}
use Rattle.rz_journal.specs.JournalText.{AreSpelled}

abbrev pub bytes_of : List JournalEntry → Entries
bytes_of entries = map entry_bytes entries

-- these bytes are entries, with the shut gate behind the last
abbrev pub IsRow : List JournalEntry → List ℕ → Type 0
IsRow entries row = AreSpelled (bytes_of entries) entries × (row ≡ row_bytes (bytes_of entries))

-- an entry for each part of an export
abbrev pub part_entries : Export → List JournalEntry
part_entries s = map Built (export_parts s)

-- the bytes of an entry with its gate and its length, and of the gate behind it
abbrev pub row_length : JournalEntry → ℕ
row_length e = (5 + length (entry_bytes e)) + 1

-- the bytes that the parts of an export take in a half, with a row of so many bytes behind them
abbrev pub needed : Export → ℕ → ℕ
needed s row = taken (bytes_of (part_entries s)) + row

-- A row has no room behind entries that take `used` bytes, and none behind the parts of the export.
pub record FitsNowhere (s : Export) (used row : ℕ) : Type 0 where
  pub not_here : 8_388_576 < used + row
  pub not_there : 8_388_576 < needed s row

-- why a row was not written: a device call may fail only where there is room
abbrev pub IsHalt : Export → ℕ → ℕ → Halt → Type 0
IsHalt s used row NoMemory = Unit {0}
IsHalt s used row (Full need) = FitsNowhere s used row × (need ≡ needed s row)
IsHalt s used row Failed = ¬ FitsNowhere s used row
