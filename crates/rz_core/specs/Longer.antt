-- What holds of each log that goes on after another.
use Rattle.std.specs.Prelude.{ℕ, ◌≡◌, List, ◌++◌, Some}
use Rattle.rz_events.specs.Volume.{Volume}
use Rattle.rz_events.specs.declared.events.Event.{Event}
use Rattle.rz_core.specs.History.{Begun, facts}
use Rattle.rz_core.specs.Legal.{IsLegal, IsLegalInRuns, IsLegalAfter}

-- The beginnings of a legal log are legal.
abbrev pub IsPrefixLegal : Volume → Type 0
IsPrefixLegal v = (h more : List Event) → IsLegal v (more ++ h) → IsLegal v h

-- The same of a log of several runs.
abbrev pub IsPrefixLegalInRuns : Volume → Type 0
IsPrefixLegalInRuns v = (h more : List Event) → IsLegalInRuns v (more ++ h) → IsLegalInRuns v h

-- A legal log is the log of one run, and a run may go on after the log of any number of runs.
abbrev pub IsOneRun : Volume → Type 0
IsOneRun v = (h : List Event) → IsLegal v h → IsLegalInRuns v h

abbrev pub IsNextRun : Volume → Type 0
IsNextRun v = (old h : List Event) → IsLegalAfter v old h → IsLegalInRuns v (h ++ old)

-- What a write began with stands unchanged in each longer log, and so does where a file lies.
pub record IsPermanent (h more : List Event) : Type 0 where
  pub wrote : (s : ℕ) (b : Begun) → (facts h).wrote s ≡ Some b → (facts (more ++ h)).wrote s ≡ Some b
  pub places : (fid : ℕ) (nodes : List ℕ) → (facts h).places fid ≡ Some nodes → (facts (more ++ h)).places fid ≡ Some nodes
