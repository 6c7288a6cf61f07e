-- What a slot of bytes holds: a record, or nothing.
use Rattle.std.specs.Prelude.{◌≡◌, ℕ, Option, Some, None, List, length, take}
use Rattle.rz_events.specs.declared.records.Head.{Head}
use Rattle.rz_record.specs.Record.{IsEmpty, IsRecord}

-- a record
pub record Rec : Type 0 where
  pub head : Head
  pub bins : List ℕ

-- the bytes begin with this record, or with a zero stamp
abbrev pub Reads : List ℕ → Option Rec → Type 0
Reads bytes None = IsEmpty bytes
Reads bytes (Some r) = IsRecord bytes r.head r.bins

-- each slot of this size that begins with these bytes reads so
abbrev pub Spells : ℕ → List ℕ → Option Rec → Type 0
Spells size bytes new = (slot : List ℕ) → length slot ≡ size → take (length bytes) slot ≡ bytes → Reads slot new
