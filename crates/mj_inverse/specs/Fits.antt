-- What a block is looked for by: pairs of an angle and bins.
use Rattle.std.specs.Prelude.{◌≡◌, ◌≢◌, ℕ, ℤ, ◌+◌, ◌*◌, List, [], ◌∷◌, ◌++◌, All, take, drop}
use Rattle.rz_words.specs.Grid.{Grid, IsGrid, word}
use Rattle.mj_angles.specs.Projection.{projection, bins}

-- an angle, and the bins of a projection at that angle
abbrev pub Pair : Type 0
Pair = ℤ × List ℕ

-- a block fits these pairs when each list of bins is its projection at that angle
abbrev pub Fits : List Pair → Grid → Type 0
Fits pairs g = All (λ pair. pair.1 ≡ projection (word g) g.rows g.cols pair.0) pairs

-- the size of the block that is looked for, and the pairs so far
pub record Search : Type 0 where
  pub rows : ℕ
  pub cols : ℕ
  pub pairs : List Pair

-- a block of that size that fits all pairs
pub record IsFound (s : Search) (g : Grid) : Type 0 where
  pub grid : IsGrid g
  pub rows : g.rows ≡ s.rows
  pub cols : g.cols ≡ s.cols
  pub fits : Fits s.pairs g

-- no pair yet
abbrev pub empty_search : ℕ → ℕ → Search
empty_search r c = record { rows = r; cols = c; pairs = [] }

-- one more pair
abbrev pub with_pair : Search → ℤ → List ℕ → Search
with_pair s p bs = record { rows = s.rows; cols = s.cols; pairs = s.pairs ++ (p, bs) ∷ [] }

-- no two angles are the same
abbrev pub AnglesDiffer : List ℤ → Type 0
AnglesDiffer [] = Unit {0}
AnglesDiffer (p ∷ rest) = All (λ q. q ≢ p) rest × AnglesDiffer rest

-- how many bins the projections at these angles have
abbrev pub total_bins : ℕ → ℕ → List ℤ → ℕ
total_bins rows cols [] = 0
total_bins rows cols (p ∷ rest) = bins p rows cols + total_bins rows cols rest

-- the angles with their bins, which stand one projection after the other, a word of each of eight blocks side by side
abbrev pub pairs_from : ℕ → ℕ → List ℤ → List ℕ → List Pair
pairs_from rows cols [] ws = []
pairs_from rows cols (p ∷ rest) ws = (p, take (8 * bins p rows cols) ws) ∷ pairs_from rows cols rest (drop (8 * bins p rows cols) ws)

abbrev pub search_from : ℕ → ℕ → List ℤ → List ℕ → Search
search_from rows cols angles ws = record { rows = rows; cols = cols; pairs = pairs_from rows cols angles ws }
