-- Names in byte order.
use Rattle.std.specs.Prelude.{ℕ, List}
use Rattle.std.specs.Ordering.{nat_cmp}
use Rattle.std.specs.Cmp.Lexicographic.{slice_cmp}
use Rattle.std.specs.List.Sorted.{IsSorted}

-- no name is above the one after it
abbrev pub IsInByteOrder : List (List ℕ) → Type 0
IsInByteOrder names = IsSorted (slice_cmp nat_cmp) names
