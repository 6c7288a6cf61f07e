-- The numbers of each layout.
use Rattle.std.specs.Prelude.{ℕ, ◌+◌, ◌*◌, ◌-◌, ◌/◌, ◌^◌, ℤ, pos, ◌-ℤ◌}
use Rattle.mj_angles.specs.declared.layout.Layout.{Layout}
use Rattle.mj_angles.specs.declared.layout.Layout.TheVariants.{L0, L1, L2, L0B1, L0B2, L0B3, L1B1, L1B2, L1B3, L2B1, L2B2, L2B3}
use Rattle.mj_angles.specs.Projection.{bins}

-- the layout's number
abbrev pub number_of : Layout → ℕ
number_of L0 = 0
number_of L1 = 1
number_of L2 = 2
number_of L0B1 = 0
number_of L0B2 = 0
number_of L0B3 = 0
number_of L1B1 = 1
number_of L1B2 = 1
number_of L1B3 = 1
number_of L2B1 = 2
number_of L2B2 = 2
number_of L2B3 = 2

-- the byte of the block size
abbrev pub bsize_of : Layout → ℕ
bsize_of L0 = 0
bsize_of L1 = 0
bsize_of L2 = 0
bsize_of L0B1 = 1
bsize_of L0B2 = 2
bsize_of L0B3 = 3
bsize_of L1B1 = 1
bsize_of L1B2 = 2
bsize_of L1B3 = 3
bsize_of L2B1 = 1
bsize_of L2B2 = 2
bsize_of L2B3 = 3

-- so many projections give the block back: 2, 4 or 8
abbrev pub inverse_of : Layout → ℕ
inverse_of y = 2 ^ (number_of y + 1)

-- so many projections are written: 3, 6 or 12
abbrev pub forward_of : Layout → ℕ
forward_of y = 3 * 2 ^ number_of y

-- so many positions there are: 4, 8 or 16
abbrev pub safe_of : Layout → ℕ
safe_of y = 2 * inverse_of y

-- the bytes of a block
abbrev pub block_bytes_of : Layout → ℕ
block_bytes_of y = 4096 * 2 ^ bsize_of y

-- a block has as many rows as projections give it back, and this many columns of 8 bytes
abbrev pub cols_of : Layout → ℕ
cols_of y = block_bytes_of y / (8 * inverse_of y)

-- the angle of the projection at a position: the angles rise by 1 from minus half of the positions on
abbrev pub angle_of : Layout → ℕ → ℤ
angle_of y position = pos position -ℤ pos (safe_of y / 2)

-- the bins of the projection at a position
abbrev pub bins_at_of : Layout → ℕ → ℕ
bins_at_of y position = bins (angle_of y position) (inverse_of y) (cols_of y)

-- the most bins that a projection of the layout has, which is cols plus 2, 12 or 56
abbrev pub max_bins_of : Layout → ℕ
max_bins_of y = cols_of y + inverse_of y * (inverse_of y - 1)
