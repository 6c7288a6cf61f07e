-- When two locks conflict.
use Rattle.std.specs.Prelude.{◌≡◌, ◌⊎◌, ◌+◌, ◌<◌, ◌≤◌, ℕ}
use Rattle.rz_locks.specs.declared.conflict.Range.{Range}
use Rattle.rz_locks.specs.declared.conflict.Lock.{Lock}
use Rattle.rz_locks.specs.declared.conflict.LockKind.TheVariants.{Exclusive}

-- the byte lies in the range
abbrev pub HasByte : Range → ℕ → Type 0
HasByte range byte = (range.from ≤ byte) × (byte < range.from + range.length)

-- the ranges have a byte of one file in common
abbrev pub SharesByte : Range → Range → Type 0
SharesByte a b = (a.fid ≡ b.fid) × ((byte : ℕ) × HasByte a byte × HasByte b byte)

-- the locks share a byte, and one of them is exclusive
abbrev pub Conflict : Lock → Lock → Type 0
Conflict a b = SharesByte a.range b.range × ((a.kind ≡ Exclusive) ⊎ (b.kind ≡ Exclusive))
