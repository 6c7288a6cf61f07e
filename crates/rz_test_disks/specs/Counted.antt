-- What a disk without a fuse counts.
use Rattle.std.specs.Prelude.{ℕ, Bool, None, if◌then◌else◌}
use Rattle.rz_disk.specs.Meter.{Meter, one_more}

-- the faults after a call that failed, or did not
abbrev pub faults_after : Bool → ℕ → ℕ
faults_after failed n = if failed then one_more n else n

-- all its faults are its own
abbrev pub own_faults : ℕ → Meter
own_faults n = record { fuse = None; planned = 0; own = n }
