-- Rows in their order, and what one row says of a block.
use Rattle.std.specs.Prelude.{ℕ, suc, ◌≡◌, ◌+◌, ◌*◌, ◌/◌, ◌%◌, ◌^◌, ◌<◌, ◌≤◌, ◌==◌, ◌&&◌, Bool, false, cond, nat_lt, List, Option, [], ◌∷◌, ◌++◌, take, drop}
use Rattle.std.specs.List.{find}
use Rattle.std.specs.Ordering.{is_le}
use Rattle.rz_events.specs.Keys.{key_cmp}
use Rattle.rz_events.specs.declared.keys.Key.{Key}
use Rattle.rz_events.specs.Masks.{has_bit}
use Rattle.rz_blocks.specs.declared.row.Row.{Row}
use Rattle.rz_blocks.specs.Marks.{is_row_of}

-- no bit from the one to before the other is set
abbrev pub IsClear : ℕ → ℕ → ℕ → Type 0
IsClear word from end = (b : ℕ) → from ≤ b → b < end → has_bit word b ≡ false

-- whether the row says that a block is marked in a list
abbrev pub is_marked_in : ℕ → Key → Row → Bool
is_marked_in list key row = is_row_of list key row && has_bit row.word (key.block % 64)

-- whether a block is another or stands below it
abbrev pub is_upto : Key → Key → Bool
is_upto a b = is_le (key_cmp a b)

-- where a row stands in the order: by its list, then its file, then its number in this
abbrev pub rank : Row → ℕ
rank row = row.list * 2 ^ 192 + row.fid * 2 ^ 64 + row.index

-- where the row of a block stands
abbrev pub rank_of : ℕ → Key → ℕ
rank_of list key = list * 2 ^ 192 + key.fid * 2 ^ 64 + key.block / 64

-- all rows stand below
abbrev pub top : ℕ
top = 2 ^ 208

-- the numbers of a row are of as many bits as they are kept in, and so are those of its blocks
pub record IsSmall (row : Row) : Type 0 where
  pub list : row.list < 2 ^ 16
  pub fid : row.fid < 2 ^ 128
  pub index : row.index < 2 ^ 58
  pub word : row.word < 2 ^ 64

-- rows that rise in the order, from the one place on and below the other
abbrev pub IsRising : ℕ → ℕ → List Row → Type 0
IsRising low high [] = low ≤ high
IsRising low high (row ∷ rows) = IsSmall row × (low ≤ rank row) × IsRising (rank row + 1) high rows

-- the row that stands at a place in the order
abbrev pub row_at : ℕ → List Row → Option Row
row_at n = find (λ row. rank row == n)

-- how many rows stand before a place in the order
abbrev pub rows_before : ℕ → List Row → ℕ
rows_before n [] = 0
rows_before n (row ∷ rows) = cond (nat_lt (rank row) n) (suc (rows_before n rows)) (rows_before n rows)

-- no row stands at `n` in the order; it would come to this place in the list
abbrev pub IsGap : ℕ → List Row → ℕ → Type 0
IsGap n rows at = IsRising 0 n (take at rows) × IsRising (n + 1) top (drop at rows)

-- the row stands at `n` in the order, and at this place in the list
abbrev pub IsThere : ℕ → List Row → ℕ → Row → Type 0
IsThere n rows at row = (rank row ≡ n) × (rows ≡ take at rows ++ row ∷ drop (suc at) rows)
