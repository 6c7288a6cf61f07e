-- The places in which the locks stand.
use Rattle.std.specs.Prelude.{◌+◌, ℕ, List, [], ◌∷◌, Option, Some, None, IsSomeAnd, slice_index_or}
use Rattle.std.specs.FinMap.{from_entries}
use Rattle.rz_locks.specs.declared.conflict.Lock.{Lock}
use Rattle.rz_locks.specs.Conflicts.{Conflict}
use Rattle.rz_locks.specs.Held.{Held}

-- the locks in the places, of which the first is this owner's and each other the next owner's
abbrev pub entries_from : ℕ → List (Option Lock) → List (ℕ × Lock)
entries_from owner [] = []
entries_from owner (None ∷ places) = entries_from (owner + 1) places
entries_from owner (Some lock ∷ places) = (owner, lock) ∷ entries_from (owner + 1) places

-- the locks in the places by owner, from owner 1 on
abbrev pub by_owner : List (Option Lock) → Held
by_owner places = from_entries (entries_from 1 places)

-- the place has a lock that conflicts with this one
abbrev pub IsInTheWay : List (Option Lock) → Lock → ℕ → Type 0
IsInTheWay places lock place = IsSomeAnd (slice_index_or places place None) (λ other. Conflict other lock)
