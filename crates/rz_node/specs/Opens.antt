-- A start and a replacement, by their answers: what is so, and what they leave of the disk's meter.
use Rattle.std.specs.Prelude.{ℕ, ◌≡◌, Bool, false}
use Rattle.rz_disk.specs.Meter.{Meter, Lasts}
use Rattle.rz_events.specs.declared.nodes.OpenFault.{OpenFault}
use Rattle.rz_events.specs.declared.nodes.OpenFault.TheVariants as fault
use Rattle.rz_events.specs.declared.nodes.StartAnswer.{StartAnswer}
use Rattle.rz_events.specs.declared.nodes.StartAnswer.TheVariants as start
use Rattle.rz_events.specs.declared.nodes.ReplaceAnswer.{ReplaceAnswer}
use Rattle.rz_events.specs.declared.nodes.ReplaceAnswer.TheVariants as replace
use Rattle.rz_cells_slots.specs.Counted.{CountedWhere}
use Rattle.rz_node.specs.Spends.{outcome, Passed, Failed}

abbrev pub IfStarted : StartAnswer → Type 0 → Type 0
IfStarted (start.Started took) P = P
IfStarted _ P = Unit {0}

-- of whether the start took a change
abbrev pub IfTook : StartAnswer → (Bool → Type 0) → Type 0
IfTook (start.Started took) P = P took
IfTook _ P = Unit {0}

abbrev pub UnlessStarted : StartAnswer → Type 0 → Type 0
UnlessStarted (start.Started took) P = Unit {0}
UnlessStarted _ P = P

-- whether the start took a change is this
abbrev pub TookIs : StartAnswer → Bool → Type 0
TookIs (start.Started took) it = took ≡ it
TookIs _ it = Unit {0}

-- of the cause, where the disk did not open
abbrev pub IfUnopened : StartAnswer → (OpenFault → Type 0) → Type 0
IfUnopened (start.Unopened cause) P = P cause
IfUnopened _ P = Unit {0}

-- the disk was not looked at: the node was not down, memory was wanting or the size was wrong
abbrev pub IsUnlooked : StartAnswer → Type 0
IsUnlooked start.NotDown = Unit {0}
IsUnlooked start.NoMemory = Unit {0}
IsUnlooked (start.Unopened (fault.WrongSize have need)) = Unit {0}
IsUnlooked _ = ⊥

-- Of an opening that makes k device calls. Where it was refused by one that failed, the faults rose.
abbrev pub Opens : ℕ → StartAnswer → Meter → Meter → Type 0
Opens k start.NotDown old new = new ≡ old
Opens k start.NoMemory old new = new ≡ old
Opens k (start.Started took) old new = Passed k old new
Opens k (start.Unopened cause) old new = CountedWhere k (outcome false) (cause ≡ fault.DiskFault) old new

-- A disk was not made anew for want of memory: no pass was taken and no fault planned.
pub record Unreset (old new : Meter) : Type 0 where
  pub fuse : new.fuse ≡ old.fuse
  pub planned : new.planned ≡ old.planned
  pub lasts : Lasts old new

-- four device calls make a disk anew
abbrev pub Replaces : ReplaceAnswer → Meter → Meter → Type 0
Replaces replace.Replaced old new = Passed 4 old new
Replaces replace.DiskFault old new = Failed 4 old new
Replaces replace.NoMemory old new = Unreset old new
Replaces replace.NotLost old new = new ≡ old
Replaces (replace.OtherLoss loss) old new = new ≡ old

-- the node is not lost, or another disk is
abbrev pub IsRefused : ReplaceAnswer → Type 0
IsRefused replace.NotLost = Unit {0}
IsRefused (replace.OtherLoss loss) = Unit {0}
IsRefused replace.Replaced = ⊥
IsRefused replace.DiskFault = ⊥
IsRefused replace.NoMemory = ⊥
