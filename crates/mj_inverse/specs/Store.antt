-- Where a work keeps its pairs: the first `count` of its series have one each, and the others are blank.
use Rattle.std.specs.Prelude.{◌≡◌, ◌≢◌, length, ℕ, zero, suc, ◌+◌, ◌-◌, ◌*◌, ◌≤◌, List, [], ◌∷◌, map, slice_range, slice_index, unsigned_abs, vec_capacity}
use Rattle.std.specs.List.{range_with_len}
use Rattle.rz_words.specs.Grid.{Grid, IsShape, grid_of}
use Rattle.mj_inverse.specs.Rows.{Every}
use Rattle.mj_angles.specs.Projection.{bins, offset}
use Rattle.mj_angles.proofs.Order.{lifted}
use Rattle.mj_inverse.specs.Fits.{Pair, Search}
use Rattle.mj_inverse.specs.declared.series.Series.{Series}
use Rattle.mj_inverse.specs.Series.{IsSeries, IsBlank}

-- so many places each series may have
abbrev pub room_of : ℕ → ℕ → ℕ
room_of rows cols = cols + 64 * rows

-- blank, and with enough room
pub record IsSpare (unit rows cols : ℕ) (s : Series) : Type 0 where
  pub blank : IsBlank s
  pub capacity : unit * room_of rows cols ≤ vec_capacity s.words

-- the projection of a block at an angle from -16 to 16
pub record IsGiven (unit rows cols : ℕ) (s : Series) : Type 0 where
  pub is : IsSeries unit s
  pub capacity : unit * room_of rows cols ≤ vec_capacity s.words
  pub small : unsigned_abs s.direction ≤ 16
  pub lifts : s.angle ≡ lifted 16 s.direction
  pub start : s.origin ≡ 0
  pub first : s.from ≡ 16 * rows - offset s.direction rows
  pub last : s.to ≡ s.from + bins s.direction rows cols
  pub full : s.room ≡ s.to

-- the first n are given, and the others spare
abbrev pub IsFilled : ℕ → ℕ → ℕ → ℕ → List Series → Type 0
IsFilled unit rows cols zero [] = Unit {0}
IsFilled unit rows cols zero (s ∷ rest) = IsSpare unit rows cols s × IsFilled unit rows cols zero rest
IsFilled unit rows cols (suc n) [] = ⊥
IsFilled unit rows cols (suc n) (s ∷ rest) = IsGiven unit rows cols s × IsFilled unit rows cols n rest

-- the angle, and the bins of all blocks
abbrev pub pair_of : ℕ → Series → Pair
pair_of unit s = (s.direction, slice_range s.words.items (unit * s.from) (unit * s.to))

abbrev pub pairs_in : ℕ → ℕ → List Series → List Pair
pairs_in unit zero all = []
pairs_in unit (suc n) [] = []
pairs_in unit (suc n) (s ∷ rest) = pair_of unit s ∷ pairs_in unit n rest

-- what contracts see of a work
abbrev pub search_in : ℕ → ℕ → ℕ → ℕ → List Series → Search
search_in unit rows cols n all = record { rows = rows; cols = cols; pairs = pairs_in unit n all }

-- the words of block j, of n words of each block
abbrev pub lane_of : ℕ → ℕ → ℕ → List ℕ → List ℕ
lane_of unit j n ws = map (λ i. slice_index ws (unit * i + j)) (range_with_len 0 n)

-- the pair of block j
abbrev pub lane_pair : ℕ → ℕ → ℕ → ℕ → Pair → Pair
lane_pair unit j rows cols pair = (pair.0, lane_of unit j (bins pair.0 rows cols) pair.1)

-- the search for block j
abbrev pub lane_search : ℕ → ℕ → Search → Search
lane_search unit j s = record { rows = s.rows; cols = s.cols; pairs = map (lane_pair unit j s.rows s.cols) s.pairs }

-- block j
abbrev pub lane_grid : ℕ → ℕ → ℕ → ℕ → List ℕ → Grid
lane_grid unit j rows cols ws = grid_of rows cols (lane_of unit j (rows * cols) ws)

-- no two pairs have the same angle
abbrev pub Distinct : List Pair → Type 0
Distinct [] = Unit {0}
Distinct (pair ∷ rest) = Every (λ other. other.0 ≢ pair.0) rest × Distinct rest

-- how a work of `unit` blocks keeps n pairs
pub record IsStore (unit rows cols n : ℕ) (all : List Series) : Type 0 where
  pub shape : IsShape rows cols
  pub count : length all ≡ rows
  pub few : n ≤ rows
  pub filled : IsFilled unit rows cols n all
  pub differ : Distinct (pairs_in unit n all)
