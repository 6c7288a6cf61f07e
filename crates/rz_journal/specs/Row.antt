-- Entries one behind the other, each behind a gate and its length.
use Rattle.std.specs.Prelude.{◌≡◌, ℕ, ◌+◌, ◌%◌, List, [], ◌∷◌, ◌++◌, length, drop, slice_index}
use Rattle.byteorder.specs.Endian.{little_bytes, little_number}
use Rattle.rz_disk.specs.Images.{window}

-- the bytes of entries
abbrev pub Entries : Type 0
Entries = List (List ℕ)

-- how many bytes they take
abbrev pub taken : Entries → ℕ
taken [] = 0
taken (e ∷ es) = (5 + length e) + taken es

-- an entry behind an open gate and its length
abbrev pub framed : List ℕ → List ℕ
framed e = 1 ∷ (little_bytes 4 (length e) ++ e)

-- all entries, and a shut gate behind the last
abbrev pub row_bytes : Entries → List ℕ
row_bytes [] = 0 ∷ []
row_bytes (e ∷ es) = framed e ++ row_bytes es

-- an entry stands at an address of a text
pub record IsEntryAt (at : ℕ) (e text : List ℕ) : Type 0 where
  pub gate : slice_index text at % 2 ≡ 1
  pub count : little_number 4 (drop (at + 1) text) ≡ length e
  pub bytes : window (at + 5) (length e) text ≡ e

-- entries stand there one behind the other
abbrev pub Row : ℕ → Entries → List ℕ → Type 0
Row at [] text = Unit {0}
Row at (e ∷ es) text = IsEntryAt at e text × Row (at + (5 + length e)) es text

-- and a shut gate stands behind the last
pub record EndsAt (at : ℕ) (es : Entries) (text : List ℕ) : Type 0 where
  pub row : Row at es text
  pub shut : slice_index text (at + taken es) % 2 ≡ 0
