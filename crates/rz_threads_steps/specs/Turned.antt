-- One turn of an actor's operation, in a log that others write too. `old` and `new` have what the actor has seen, the newest
-- event first.
use Rattle.std.specs.Prelude.{ℕ, Bool, ◌≡◌, ◌⊎◌, ◌+◌, ◌≤◌, IsTrue, List, [], ◌++◌}
use Rattle.mj_angles.specs.declared.layout.Layout.{Layout}
use Rattle.rz_events.specs.declared.keys.Actor.{Actor}
use Rattle.rz_events.specs.declared.events.Event.{Event}
use Rattle.rz_operation_model.specs.Ask.{ask_of}
use Rattle.rz_operation_model.specs.Work.{Work}
use Rattle.rz_operation_model.specs.Steps.{Told, Answered, told}
use Rattle.rz_operation_model.specs.Turns.{IsStep}
use Rattle.rz_operation.specs.Machine.{Machine}
use Rattle.rz_core.specs.History.{of_actor}
use Rattle.rz_play.specs.Faults.{missed}

-- the same was told, of records that fit a block or not
abbrev pub with_fits : Bool → Told → Told
with_fits fits (Answered f given) = Answered fits given
with_fits fits t = t

-- The work goes on by what it was told. Over an honest book the records that came fit a block.
pub record WorkGoesOn (honest : Bool) (layout : Layout) (old : Work) (t : Told) (new : Work) : Type 0 where
  pub by_told : (fits : Bool) × (new ≡ told layout old (with_fits fits t))
  pub fitting : IsTrue honest → new ≡ told layout old t

-- The actor's own events are those of this turn more, which answer what the operation asked, and it goes on by the answer.
pub record IsTurned (honest : Bool) (by : Actor) (number : ℕ) (old new : List Event) (m m' : Machine) : Type 0 where
  pub answer : Told
  pub events : List Event
  pub own : of_actor by new ≡ events ++ of_actor by old
  pub step : IsStep by number (ask_of m.layout m.work) answer events
  pub layout : m'.layout ≡ m.layout
  pub goes : WorkGoesOn honest m.layout m.work answer m'.work

-- A turn that was cut off: the actor has no event more, or those of an answer of which its operation was not told.
pub record IsCutOff (by : Actor) (number : ℕ) (old new : List Event) (m : Machine) : Type 0 where
  pub events : List Event
  pub own : of_actor by new ≡ events ++ of_actor by old
  pub some : (events ≡ []) ⊎ ((t : Told) × IsStep by number (ask_of m.layout m.work) t events)

-- as many messages were lost as the link counted more, or fewer
abbrev pub AreLost : Actor → List Event → List Event → ℕ → ℕ → Type 0
AreLost by old new before after = missed (of_actor by new) + before ≤ missed (of_actor by old) + after
