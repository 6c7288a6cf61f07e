-- A disk with a fuse.
use Rattle.std.specs.Prelude.{ℕ, zero, suc, if◌then◌else◌, Bool, true, false, Option, Some, None}
use Rattle.rz_disk.specs.Meter.{Meter, faults, one_more}

-- the disk below, the passes left where it is armed, and the faults that the fuse planned
pub record UnderFuse (D : Type 0) : Type 0 where
  pub disk : D
  pub fuse : Option ℕ
  pub planned : ℕ

-- armed, and no pass is left
abbrev pub is_blown : Option ℕ → Bool
is_blown None = false
is_blown (Some zero) = true
is_blown (Some (suc n)) = false

-- the planned faults after a device call
abbrev pub planned_after : {D : Type 0} → UnderFuse D → ℕ
planned_after f = if is_blown f.fuse then one_more f.planned else f.planned

-- all faults of the disk below are its own
abbrev pub fused_meter : {D : Type 0} → (D → Meter) → UnderFuse D → Meter
fused_meter meter f = record { fuse = f.fuse; planned = f.planned; own = faults (meter f.disk) }
