-- The block that is written and read.
use Rattle.std.specs.Prelude.{ℕ, List}
use Rattle.mj_angles.specs.declared.layout.Layout.{Layout}
use Rattle.mj_angles.specs.Layout.{inverse_of, cols_of}
use Rattle.rz_words.specs.Grid.{Grid, grid_from_bytes}

-- the block with this text, which is followed by zeros
abbrev pub block_of : Layout → List ℕ → Grid
block_of layout text = grid_from_bytes (inverse_of layout) (cols_of layout) text
