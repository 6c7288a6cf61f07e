-- The projections of many blocks.
use Rattle.std.specs.Prelude.{◌≡◌, ℕ, ◌+◌, ◌*◌, ◌/◌, List, map, length, slice_range}
use Rattle.std.specs.List.{range_with_len}
use Rattle.rz_words.specs.Grid.{Grid, grid_from_bytes}
use Rattle.mj_angles.specs.declared.layout.Layout.{Layout}
use Rattle.mj_angles.specs.Layout.{inverse_of, safe_of, cols_of, angle_of, bins_at_of, block_bytes_of}
use Rattle.mj_forward.specs.Forward.{projection_of, start_of}

-- a layout, and of each block its bins at each position
pub record Projections : Type 0 where
  pub layout : Layout
  pub blocks : List (List (List ℕ))

-- block number i of these bytes
abbrev pub block_at : Layout → List ℕ → ℕ → Grid
block_at y bytes i = grid_from_bytes (inverse_of y) (cols_of y) (slice_range bytes (i * block_bytes_of y) (i * block_bytes_of y + block_bytes_of y))

-- the projections of a block at all positions
abbrev pub projections_of : Layout → Grid → List (List ℕ)
projections_of y g = map (λ j. projection_of g (angle_of y j)) (range_with_len 0 (safe_of y))

-- the projections of every whole block of these bytes
abbrev pub batch_of : Layout → List ℕ → Projections
batch_of y bytes = record { layout = y; blocks = map (λ i. projections_of y (block_at y bytes i)) (range_with_len 0 (length bytes / block_bytes_of y)) }

-- the bins at each position, where those at all positions stand one after the other
abbrev pub parts_of : Layout → List ℕ → List (List ℕ)
parts_of y bins = map (λ j. slice_range bins (start_of y j) (start_of y j + bins_at_of y j)) (range_with_len 0 (safe_of y))

-- these are the bins of block i
pub record IsProjected (y : Layout) (bytes : List ℕ) (i : ℕ) (bins : List ℕ) : Type 0 where
  pub parts : parts_of y bins ≡ projections_of y (block_at y bytes i)
  pub long : length bins ≡ start_of y (safe_of y)
