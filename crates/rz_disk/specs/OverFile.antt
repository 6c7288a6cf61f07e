-- A disk over a file of the system.
use Rattle.std.specs.Prelude.{ℕ, if◌then◌else◌, Bool, true, None}
use Rattle.rz_disk.specs.Meter.{Meter, one_more}

-- Whether a file is open, whether it is for reading alone, whether a write, a sync or a reset failed since
-- it was opened, the number of its bytes, and the faults so far.
pub record OverFile : Type 0 where
  pub is_open : Bool
  pub is_read_only : Bool
  pub has_failed : Bool
  pub size : ℕ
  pub faults : ℕ

-- the faults after a call
abbrev pub faults_after : Bool → OverFile → ℕ
faults_after failed d = if failed then one_more d.faults else d.faults

-- after a call that changes no more than that count
abbrev pub after_call : Bool → OverFile → OverFile
after_call failed d = record d { faults = faults_after failed d }

-- after a write or a sync, of which a failure is remembered
abbrev pub after_change : Bool → OverFile → OverFile
after_change failed d =
    record d { faults = faults_after failed d; has_failed = if failed then true else d.has_failed }

-- nothing but the count of faults is told
abbrev pub file_meter : OverFile → Meter
file_meter d = record { fuse = None; planned = 0; own = d.faults }
