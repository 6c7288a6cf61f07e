-- What contracts see of a block.
use Rattle.std.specs.Prelude.{◌≡◌, ℕ, ◌+◌, ◌*◌, ◌<◌, ◌≤◌, List, length, map, drop, replicate, slice_index, slice_set}
use Rattle.std.specs.List.{flat_map, range_with_len, refill}
use Rattle.byteorder.specs.Endian.{little_number, little_bytes}

-- a block: so many rows and columns, and its words row by row
pub record Grid : Type 0 where
  pub rows : ℕ
  pub cols : ℕ
  pub words : List ℕ

-- a block has 1 to 16 rows and 1 to 2048 columns
pub record IsShape (rows cols : ℕ) : Type 0 where
  pub some_row : 0 < rows
  pub few_rows : rows ≤ 16
  pub some_column : 0 < cols
  pub few_columns : cols ≤ 2048

-- and a word for each place
pub record IsGrid (g : Grid) : Type 0 where
  pub shape : IsShape g.rows g.cols
  pub full : length g.words ≡ g.rows * g.cols

abbrev pub grid_of : ℕ → ℕ → List ℕ → Grid
grid_of r c ws = record { rows = r; cols = c; words = ws }

-- the word in column k of row l
abbrev pub word : Grid → ℕ → ℕ → ℕ
word g l k = slice_index g.words (l * g.cols + k)

-- the block with other words
abbrev pub with_words : Grid → List ℕ → Grid
with_words g ws = record { rows = g.rows; cols = g.cols; words = ws }

-- the block after a write of its words as a slice, which keeps how many there are
abbrev pub written_over : Grid → List ℕ → Grid
written_over g ws = with_words g (refill (length g.words) g.words ws)

-- the block with another word in column k of row l
abbrev pub with_word : Grid → ℕ → ℕ → ℕ → Grid
with_word g l k w = with_words g (slice_set g.words (l * g.cols + k) w)

-- n words that are zero
unfoldable pub zero_words : ℕ → List ℕ
zero_words n = replicate n 0

abbrev pub zero_grid : ℕ → ℕ → Grid
zero_grid r c = grid_of r c (zero_words (r * c))

-- n words from bytes: word j is the number in bytes 8 * j to 8 * j + 7, the lowest first, and past their end the bytes count as zeros
unfoldable pub words_from : List ℕ → ℕ → List ℕ
words_from bytes n = map (λ j. little_number 8 (drop (8 * j) bytes)) (range_with_len 0 n)

-- each word in 8 bytes, the lowest first
unfoldable pub bytes_from : List ℕ → List ℕ
bytes_from words = flat_map (little_bytes 8) words

-- the block of these bytes
abbrev pub grid_from_bytes : ℕ → ℕ → List ℕ → Grid
grid_from_bytes r c bytes = grid_of r c (words_from bytes (r * c))
