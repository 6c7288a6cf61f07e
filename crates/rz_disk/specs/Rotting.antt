-- A disk of which one byte is read wrong.
use Rattle.std.specs.Prelude.{◌≡◌, ◌≢◌, ℕ, ◌+◌, ◌<◌, bit_xor, List, length, slice_index}

-- the disk below, the address of the byte, and the bits that are flipped in it
pub record Rotting (D : Type 0) : Type 0 where
  pub disk : D
  pub at : ℕ
  pub flips : ℕ

-- the bytes read from `start` on are the true ones, but for the one at that address
pub record Rots (at flips start : ℕ) (true_bytes out : List ℕ) : Type 0 where
  pub size : length out ≡ length true_bytes
  pub flipped : (i : ℕ) → i < length out → start + i ≡ at
      → slice_index out i ≡ bit_xor (slice_index true_bytes i) flips
  pub others : (i : ℕ) → start + i ≢ at → slice_index out i ≡ slice_index true_bytes i

-- the same byte is read wrong, in the same way
pub record IsSameRot {D : Type 0} (old new : Rotting D) : Type 0 where
  pub at : new.at ≡ old.at
  pub flips : new.flips ≡ old.flips
