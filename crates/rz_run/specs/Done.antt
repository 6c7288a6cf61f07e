-- What the log of a run says of the actors, the newest event first. The run is of the lines of a script of this volume, and its
-- book is honest or not.
use Rattle.std.specs.Prelude.{Bool, ◌≡◌, ◌≢◌, ◌⊎◌, List, []}
use Rattle.std.specs.List.{AllByRecursion}
use Rattle.rz_events.specs.Volume.{Volume}
use Rattle.rz_events.specs.declared.keys.Actor.{Actor}
use Rattle.rz_events.specs.declared.keys.Actor.TheVariants.{Admin}
use Rattle.rz_events.specs.declared.events.Event.{Event}
use Rattle.rz_events.specs.Events.{by_of}
use Rattle.rz_script.specs.declared.line.Line.{Line}
use Rattle.rz_core.specs.Legal.{IsLegal}
use Rattle.rz_safety.specs.Rebuilt.{AreRebuilt}
use Rattle.rz_safety.specs.Sound.{IsSound, IsAnswering}
use Rattle.rz_safety.specs.Writes.{AreWritesEnded}
use Rattle.rz_play.specs.World.{actors}
use Rattle.rz_play_locks.specs.Operations.{given}
use Rattle.rz_chronicle.specs.Kinds.{kind_of}
use Rattle.rz_threads.specs.Orders.{AreLinesBegun, AreDone}
use Rattle.rz_threads_worker.specs.Doing.{IsSomeDone}
use Rattle.rz_threads_worker.specs.Workers.{IsAllDone, agenda_with}

-- an actor's own events are those of all operations that the lines give it, each once and in their order
abbrev pub HasFinished : Bool → Volume → List Line → List Event → Actor → Type 0
HasFinished honest v lines h by = IsAllDone honest v.layout by (agenda_with (given by lines)) [] h

-- they are those of the first of these operations, and of a beginning of the next
abbrev pub HasBegun : Bool → Volume → List Line → List Event → Actor → Type 0
HasBegun honest v lines h by = IsSomeDone honest v.layout by (agenda_with (given by lines)) [] h

-- Each client and each rebuilder did all that it was given, and the administrator all of its lines.
pub record IsAllFinished (honest : Bool) (v : Volume) (lines : List Line) (h : List Event) : Type 0 where
  pub workers : AllByRecursion (HasFinished honest v lines h) actors
  pub admin : AreDone (kind_of honest v) lines [] h

-- Each of them did the first part of it, and nothing else.
pub record IsAllBegun (honest : Bool) (v : Volume) (lines : List Line) (h : List Event) : Type 0 where
  pub workers : AllByRecursion (HasBegun honest v lines h) actors
  pub admin : AreLinesBegun (kind_of honest v) lines [] h

-- Those who act: the clients and the rebuilders to whom the lines give an operation, and the administrator.
abbrev pub ActsFor : List Line → Actor → Type 0
ActsFor lines by = (by ≡ Admin) ⊎ (given by lines ≢ [])

-- each event of the log is by one of them
abbrev pub NobodyElseActs : List Line → List Event → Type 0
NobodyElseActs lines h = AllByRecursion (λ x. ActsFor lines (by_of x)) h

-- The log of an honest book. Each event is allowed after those before it. Each read gives one write's text, no older than what was
-- acknowledged before it began, and answers unless too many nodes did not. Each write that ends was acknowledged or says why not.
-- Each finished rebuild is whole.
pub record IsTrueLog (v : Volume) (h : List Event) : Type 0 where
  pub legal : IsLegal v h
  pub sound : IsSound v h
  pub answering : IsAnswering v h
  pub written : AreWritesEnded v h
  pub rebuilt : AreRebuilt h
