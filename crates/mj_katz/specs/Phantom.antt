-- Blocks that some angles can't tell from zeros.
use Rattle.std.specs.Prelude.{◌≡◌, ℕ, ◌<◌, ℤ, List, All, unsigned_abs}
use Rattle.std.specs.List.{sum_by}
use Rattle.rz_words.specs.Grid.{Grid, word, zero_words}
use Rattle.mj_angles.specs.Projection.{bins}
use Rattle.mj_forward.specs.Forward.{projection_of}
use Rattle.mj_katz.specs.Factor.{product_of}

-- the sizes of all angles together
abbrev pub total_size : List ℤ → ℕ
total_size angles = sum_by unsigned_abs angles

-- the block holds the product of the factors of these angles
abbrev pub IsProduct : List ℤ → Grid → Type 0
IsProduct angles g = (l k : ℕ) → l < g.rows → k < g.cols → word g l k ≡ product_of angles l k

-- each of its bins at these angles is zero
abbrev pub IsUnseen : List ℤ → Grid → Type 0
IsUnseen angles g = All (λ p. projection_of g p ≡ zero_words (bins p g.rows g.cols)) angles
