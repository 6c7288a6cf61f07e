-- What the calls of a disk count.
use Rattle.std.specs.Prelude.{ℕ, Result, Ok, IsErr}
use Rattle.rz_disk.specs.Meter.{Meter, Took, Lasts, Rises, HasPasses, faults}

-- They take k passes in all where they went well. No count fell, and where the disk failed the faults rose: those that no
-- fuse planned, where there were k passes.
pub record CountedWhere {T E : Type 0} (k : ℕ) (result : Result T E) (Failed : Type 0) (old new : Meter) : Type 0 where
  pub took : Took k result old new
  pub lasts : Lasts old new
  pub risen : Failed → Rises (faults old) (faults new)
  pub own_risen : Failed → HasPasses k old → Rises old.own new.own

-- they took k passes, and each went well
abbrev pub TookAll : ℕ → Meter → Meter → Type 0
TookAll k old new = Took {T = Unit {0}} {E = Unit {0}} k (Ok tt) old new

-- each error is a failure of the disk
abbrev pub Counted : {T E : Type 0} → ℕ → Result T E → Meter → Meter → Type 0
Counted k result old new = CountedWhere k result (IsErr result) old new
