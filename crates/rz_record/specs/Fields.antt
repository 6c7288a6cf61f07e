-- Where the numbers of a record stand in its bytes.
use Rattle.std.specs.Prelude.{ℕ, List, drop}
use Rattle.byteorder.specs.Endian.{little_number}

-- the number in n bytes from an offset on, the lowest byte first
unfoldable pub number_at : ℕ → ℕ → List ℕ → ℕ
number_at at n bytes = little_number n (drop at bytes)
