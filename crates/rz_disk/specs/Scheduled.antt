-- What a disk in memory keeps of the calls that are to fail.
use Rattle.std.specs.Prelude.{◌≡◌, ℕ, ◌==◌, if◌then◌else◌, Bool, List, []}
use Rattle.std.specs.List.{list_any}
use Rattle.rz_disk.specs.Meter.{one_more}
use Rattle.rz_disk.specs.Stored.{Stored, settled}

-- what is stored, the numbers of the calls that fail, the number of the next call, and the faults
pub record Scheduled : Type 0 where
  pub stored : Stored
  pub fails : List ℕ
  pub calls : ℕ
  pub faults : ℕ

-- no bytes, and no call so far
abbrev pub unused : List ℕ → Scheduled
unused fails = record { stored = settled []; fails = fails; calls = 0; faults = 0 }

-- the next call is one of those that fail
abbrev pub is_to_fail : Scheduled → Bool
is_to_fail d = list_any (λ n. n == d.calls) d.fails

-- a call was counted, and a fault where it failed
pub record Counts (failed : Bool) (old new : Scheduled) : Type 0 where
  pub fails : new.fails ≡ old.fails
  pub calls : new.calls ≡ one_more old.calls
  pub faults : new.faults ≡ (if failed then one_more old.faults else old.faults)
