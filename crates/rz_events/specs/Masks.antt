-- Masks of positions, and what was told to be published.
use Rattle.std.specs.Prelude.{ℕ, Bool, ◌≡◌, ◌==◌, Option, Some, None}
use Rattle.std.specs.Int.{bit_at}
use Rattle.rz_events.specs.declared.files.Published.{Published}

-- bit `p` of a mask is 1: the mask names position `p`
abbrev pub has_bit : ℕ → ℕ → Bool
has_bit mask p = bit_at mask p == 1

abbrev pub HasBit : ℕ → ℕ → Type 0
HasBit mask p = bit_at mask p ≡ 1

-- the stamp that was told to be published, or 0
abbrev pub stamp_told : Option Published → ℕ
stamp_told None = 0
stamp_told (Some p) = p.stamp
