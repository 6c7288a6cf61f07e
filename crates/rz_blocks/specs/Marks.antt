-- Which blocks are marked in a list, and for which there is room.
use Rattle.std.specs.Prelude.{ℕ, ◌/◌, ◌%◌, ◌==◌, ◌&&◌, Bool, List}
use Rattle.std.specs.List.{list_any}
use Rattle.std.specs.Ordering.{is_eq}
use Rattle.rz_events.specs.Keys.{key_cmp}
use Rattle.rz_events.specs.declared.keys.Key.{Key}
use Rattle.rz_events.specs.Masks.{has_bit}
use Rattle.rz_blocks.specs.declared.row.Row.{Row}

-- whether the row is the one that a block stands in
abbrev pub is_row_of : ℕ → Key → Row → Bool
is_row_of list key row = (row.list == list) && (row.fid == key.fid) && (row.index == key.block / 64)

-- whether a list has room for the mark of a block
abbrev pub has_room : List Row → ℕ → Key → Bool
has_room rows list key = list_any (is_row_of list key) rows

-- whether a block is marked in a list
abbrev pub is_marked : List Row → ℕ → Key → Bool
is_marked rows list key = list_any (λ row. is_row_of list key row && has_bit row.word (key.block % 64)) rows

-- whether the second block of the second list is the first one of the first
abbrev pub is_same : ℕ → Key → ℕ → Key → Bool
is_same list key l q = (l == list) && is_eq (key_cmp key q)

-- whether the second block stands in the row of the first, and the lists are one
abbrev pub is_beside : ℕ → Key → ℕ → Key → Bool
is_beside list key l q = (l == list) && (q.fid == key.fid) && (q.block / 64 == key.block / 64)
