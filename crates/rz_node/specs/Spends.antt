-- What a call leaves of the disk's meter, by its answer.
use Rattle.std.specs.Prelude.{ℕ, ◌≡◌, Bool, true, false, Option, Some, None, Result, Ok, Err}
use Rattle.rz_disk.specs.Meter.{Meter, Took, Lasts, Rises, HasPasses, faults}
use Rattle.rz_events.specs.declared.nodes.FetchAnswer.{FetchAnswer}
use Rattle.rz_events.specs.declared.nodes.FetchAnswer.TheVariants as fetch
use Rattle.rz_events.specs.declared.nodes.KeepAnswer.{KeepAnswer}
use Rattle.rz_events.specs.declared.nodes.KeepAnswer.TheVariants as keep
use Rattle.rz_events.specs.declared.nodes.DropAnswer.{DropAnswer}
use Rattle.rz_events.specs.declared.nodes.DropAnswer.TheVariants as drop
use Rattle.rz_events.specs.declared.nodes.RefillAnswer.{RefillAnswer}
use Rattle.rz_events.specs.declared.nodes.RefillAnswer.TheVariants as refill

-- device calls that all went well, or of which one failed
abbrev pub outcome : Bool → Result ℕ ℕ
outcome true = Ok 0
outcome false = Err 0

-- one failed: the faults rose, and with enough passes those that no fuse planned
pub record Failed (k : ℕ) (old new : Meter) : Type 0 where
  pub took : Took k (outcome false) old new
  pub lasts : Lasts old new
  pub risen : Rises (faults old) (faults new)
  pub own_risen : HasPasses k old → Rises old.own new.own

-- all went well
pub record Passed (k : ℕ) (old new : Meter) : Type 0 where
  pub took : Took k (outcome true) old new
  pub lasts : Lasts old new

-- Of a call that makes k device calls where it succeeds: `Some` where it used the disk, and whether all went well.
abbrev pub Spends : ℕ → Option Bool → Meter → Meter → Type 0
Spends k None old new = new ≡ old
Spends k (Some true) old new = Passed k old new
Spends k (Some false) old new = Failed k old new

abbrev pub fetch_used : FetchAnswer → Option Bool
fetch_used (fetch.Held r) = Some true
fetch_used fetch.DiskFault = Some false
fetch_used _ = None

abbrev pub keep_used : KeepAnswer → Option Bool
keep_used keep.Kept = Some true
keep_used keep.DiskFault = Some false
keep_used _ = None

abbrev pub refill_used : RefillAnswer → Option Bool
refill_used refill.Kept = Some true
refill_used refill.DiskFault = Some false
refill_used _ = None

abbrev pub drop_used : DropAnswer → Option Bool
drop_used (drop.Dropped block stamp more) = Some true
drop_used (drop.DiskFault block stamp) = Some false
drop_used _ = None

-- of the version that was dropped, or was to be
abbrev pub IfDropped : DropAnswer → (ℕ → ℕ → Type 0) → Type 0
IfDropped (drop.Dropped block stamp more) P = P block stamp
IfDropped (drop.DiskFault block stamp) P = P block stamp
IfDropped _ P = Unit {0}
