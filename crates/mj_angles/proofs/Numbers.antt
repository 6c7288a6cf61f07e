-- What the numbers of every layout have in common.
use Rattle.std.proofs.Common.{arith, ◌≡◌, ℕ, ◌+◌, ◌*◌, ◌<◌, ◌≤◌}
use Rattle.std.specs.Prelude.{unsigned_abs}
use Rattle.std.proofs.lemmas.Int.{ints}
use Rattle.mj_angles.specs.declared.layout.Layout.{Layout}
use Rattle.mj_angles.specs.Layout.{number_of, bsize_of, inverse_of, forward_of, safe_of, block_bytes_of, cols_of, angle_of, bins_at_of, max_bins_of}

pub record Numbers (y : Layout) : Type 0 where
  pub inverse_least : 2 ≤ inverse_of y
  pub inverse_most : inverse_of y ≤ 8
  pub forward_more : inverse_of y < forward_of y
  pub forward_most : forward_of y ≤ 12
  pub safe_more : forward_of y < safe_of y
  pub safe_most : safe_of y ≤ 16
  pub quorum : safe_of y < forward_of y + inverse_of y
  pub cols_least : 64 ≤ cols_of y
  pub cols_most : cols_of y ≤ 2048
  pub whole : 8 * (inverse_of y * cols_of y) ≡ block_bytes_of y
  pub bytes_least : 4096 ≤ block_bytes_of y
  pub bytes_most : block_bytes_of y ≤ 32768

pub numbers : (y : Layout) → Numbers y
numbers y = record {
  inverse_least = grind arith;
  inverse_most = grind arith;
  forward_more = grind arith;
  forward_most = grind arith;
  safe_more = grind arith;
  safe_most = grind arith;
  quorum = grind arith;
  cols_least = grind arith;
  cols_most = grind arith;
  whole = grind arith;
  bytes_least = grind arith;
  bytes_most = grind arith;
}

-- the angles of two positions differ
pub angle_of-distinct : (y : Layout) (i j : ℕ) → angle_of y i ≡ angle_of y j → i ≡ j
angle_of-distinct y i j same = grind (arith, ints)

-- no angle of a layout is above 8
pub angle_of-small : (y : Layout) (i : ℕ) → i < safe_of y → unsigned_abs (angle_of y i) ≤ 8
angle_of-small y i h = grind (arith, ints)

-- no position has more bins than the greatest number
pub bins_at-le : (y : Layout) (i : ℕ) → i < safe_of y → bins_at_of y i ≤ max_bins_of y
bins_at-le y i h = grind (arith, ints)

-- a layout is known by its number and its byte
pub layout-from_numbers : (y z : Layout) → number_of y ≡ number_of z → bsize_of y ≡ bsize_of z → y ≡ z
layout-from_numbers y z number bsize = grind arith
