-- How far records are from being those of a block.
use Rattle.std.specs.Prelude.{ℕ, ◌≡◌, ◌≤◌, ◌-◌, ◌/◌, Bool, false, not, List, [], Option, Some, None, length, filter}
use Rattle.std.specs.Cmp.Lexicographic.{pointwise}
use Rattle.std.specs.Prelude.{nat_eq}
use Rattle.mj_angles.specs.declared.layout.Layout.{Layout}
use Rattle.mj_angles.specs.Layout.{inverse_of, cols_of, angle_of}
use Rattle.rz_words.specs.Grid.{Grid, IsGrid}
use Rattle.mj_forward.specs.Forward.{projection_of}
use Rattle.rz_scrub.specs.Records.{Records, positions, bins_at, added}

-- the block has the layout's size
pub record IsBlock (layout : Layout) (g : Grid) : Type 0 where
  pub grid : IsGrid g
  pub rows : g.rows ≡ inverse_of layout
  pub cols : g.cols ≡ cols_of layout

-- the bins are there, and are these
abbrev pub are_same : List ℕ → Option (List ℕ) → Bool
are_same projection None = false
are_same projection (Some bins) = pointwise nat_eq bins projection

-- the bins are there, and are not these
abbrev pub are_other : List ℕ → Option (List ℕ) → Bool
are_other projection None = false
are_other projection (Some bins) = not (pointwise nat_eq bins projection)

-- the projection of a block at a position
abbrev pub projection_at : Records → Grid → ℕ → List ℕ
projection_at s g position = projection_of g (angle_of s.layout position)

-- the bins at the position are the block's projection
abbrev pub is_fit : Records → Grid → ℕ → Bool
is_fit s g position = are_same (projection_at s g position) (bins_at s position)

-- the bins at the position are not the block's projection
abbrev pub is_misfit : Records → Grid → ℕ → Bool
is_misfit s g position = are_other (projection_at s g position) (bins_at s position)

abbrev pub misfits : Records → Grid → List ℕ
misfits s g = filter (is_misfit s g) (positions s)

-- Two blocks with so few misfits each would have as many projections in common as give a block back.
abbrev pub reach : Records → ℕ
reach s = (added s - inverse_of s.layout) / 2

pub record IsWithinReach (s : Records) (g : Grid) : Type 0 where
  pub block : IsBlock s.layout g
  pub few : length (misfits s g) ≤ reach s

-- some block has no misfit
abbrev pub SomeFits : Records → Type 0
SomeFits s = (g : Grid) × IsBlock s.layout g × (misfits s g ≡ [])

abbrev pub SomeIsWithinReach : Records → Type 0
SomeIsWithinReach s = (g : Grid) × IsWithinReach s g
