-- What stands at an address of a half.
use Rattle.std.specs.Prelude.{◌≡◌, ℕ, ◌+◌, ◌%◌, ◌<◌, ◌≤◌, List, length, drop, slice_index}
use Rattle.byteorder.specs.Endian.{little_number}
use Rattle.rz_journal.specs.declared.walking.EntryPlace.{EntryPlace}
use Rattle.rz_journal.specs.declared.walking.EntryPlace.TheVariants.{End, Entry, NoRoom}

-- a shut gate; an entry behind an open one; or an open one whose entry leaves no room for the next gate
abbrev pub IsEntryPlace : List ℕ → ℕ → EntryPlace → Type 0
IsEntryPlace half at End = slice_index half at % 2 ≡ 0
IsEntryPlace half at (Entry count) = (slice_index half at % 2 ≡ 1) × (little_number 4 (drop (at + 1) half) ≡ count) × (at + (5 + count) < length half)
IsEntryPlace half at NoRoom = (slice_index half at % 2 ≡ 1) × (length half ≤ at + (5 + little_number 4 (drop (at + 1) half)))
