-- What a disk counts.
use Rattle.std.specs.Prelude.{◌≡◌, ℕ, ◌+◌, ◌-◌, ◌^◌, ◌<◌, ◌≤◌, ◌==◌, if◌then◌else◌, min, Option, Some, None, Result, IsErr, is_ok, true}

-- the passes left, where the disk is armed; the faults that its fuse planned, and all others
pub record Meter : Type 0 where
  pub fuse : Option ℕ
  pub planned : ℕ
  pub own : ℕ

-- all faults
abbrev pub faults : Meter → ℕ
faults m = m.own + m.planned

-- one pass less, where the disk is armed
abbrev pub spent : Option ℕ → Option ℕ
spent None = None
spent (Some n) = Some (n - 1)

-- the disk is not armed, or it has at least k passes left
abbrev pub HasPasses : ℕ → Meter → Type 0
HasPasses k m = (n : ℕ) → m.fuse ≡ Some n → k ≤ n

-- one more, but for the last value of a u64, which stays
abbrev pub one_more : ℕ → ℕ
one_more n = if n == 2 ^ 64 - 1 then n else n + 1

-- a count rose, unless it stands at the last value of a u64
abbrev pub Rises : ℕ → ℕ → Type 0
Rises old new = min (old + 1) (2 ^ 64 - 1) ≤ new

-- no count fell
pub record Lasts (old new : Meter) : Type 0 where
  pub planned : old.planned ≤ new.planned
  pub own : old.own ≤ new.own

-- After a call that takes a pass: without one it fails, and a fault is planned there alone.
-- A call that fails has raised the faults, and with a pass those that no fuse planned.
pub record Passes {T E : Type 0} (result : Result T E) (old new : Meter) : Type 0 where
  pub fuse : new.fuse ≡ spent old.fuse
  pub planned : old.planned ≤ new.planned
  pub own : old.own ≤ new.own
  pub planned_only : old.planned < new.planned → old.fuse ≡ Some 0
  pub blown : old.fuse ≡ Some 0 → IsErr result
  pub risen : IsErr result → Rises (faults old) (faults new)
  pub own_risen : IsErr result → HasPasses 1 old → Rises old.own new.own

-- After calls that take k passes in all where each went well, and at most k otherwise. No pass comes back.
pub record Took {T E : Type 0} (k : ℕ) (result : Result T E) (old new : Meter) : Type 0 where
  pub planned_only : old.planned < new.planned → (n : ℕ) × (old.fuse ≡ Some n) × (n < k)
  pub unarmed : old.fuse ≡ None → new.fuse ≡ None
  pub enough : (n : ℕ) → old.fuse ≡ Some n → is_ok result ≡ true
      → (k ≤ n) × (new.fuse ≡ Some (n - k))
  pub left : (n : ℕ) → old.fuse ≡ Some n → (m : ℕ) × (new.fuse ≡ Some m) × (n ≤ m + k) × (m ≤ n)

-- after an arming, or a disarming
abbrev pub armed : Option ℕ → Meter → Meter
armed passes m = record { fuse = passes; planned = m.planned; own = m.own }
