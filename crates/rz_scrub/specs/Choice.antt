-- Positions that were chosen to find a block by.
use Rattle.std.specs.Prelude.{ℕ, ◌≢◌, ◌+◌, ◌-◌, ◌<◌, IsTrue, List, length, map, All, count_by, unwrap_or, []}
use Rattle.std.specs.List.{AllPairs, range_with_len}
use Rattle.mj_angles.specs.Layout.{inverse_of, cols_of, angle_of}
use Rattle.rz_words.specs.Grid.{Grid}
use Rattle.mj_inverse.specs.Fits.{Pair, Search}
use Rattle.rz_scrub.specs.Records.{Records, bins_at, has_bins}
use Rattle.rz_scrub.specs.Misfits.{IsWithinReach, is_fit}

-- distinct positions below `from`, each with bins
pub record IsChoice (s : Records) (from : ℕ) (chosen : List ℕ) : Type 0 where
  pub distinct : AllPairs (λ p q. p ≢ q) chosen
  pub below : All (λ p. p < from) chosen
  pub there : All (λ p. IsTrue (has_bins s p)) chosen

-- the angle and the bins of a position
abbrev pub pair_at : Records → ℕ → Pair
pair_at s position = (angle_of s.layout position, unwrap_or (bins_at s position) [])

-- the search for the block with the bins at the chosen positions
abbrev pub search_for : Records → List ℕ → Search
search_for s chosen = record { rows = inverse_of s.layout; cols = cols_of s.layout; pairs = map (pair_at s) chosen }

-- the block has the bins at all chosen positions
abbrev pub FitsAll : Records → Grid → List ℕ → Type 0
FitsAll s g chosen = All (λ position. IsTrue (is_fit s g position)) chosen

-- A block within the reach that has the bins at the chosen positions has those at too few others from `from` on.
abbrev pub IsNoneLeft : Records → List ℕ → ℕ → Type 0
IsNoneLeft s chosen from = (g : Grid) → IsWithinReach s g → FitsAll s g chosen →
    length chosen + count_by (is_fit s g) (range_with_len from (length s.bins - from)) < inverse_of s.layout
