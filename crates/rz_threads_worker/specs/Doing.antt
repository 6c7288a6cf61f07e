-- An actor's operations, turn by turn, in the words of a play.
use Rattle.std.specs.Prelude.{Bool, ◌≡◌, List, [], ◌++◌}
use Rattle.mj_angles.specs.declared.layout.Layout.{Layout}
use Rattle.rz_events.specs.declared.keys.Actor.{Actor}
use Rattle.rz_events.specs.declared.events.Event.{Event}
use Rattle.rz_operation_model.specs.Ask.{ask_of}
use Rattle.rz_operation_model.specs.Work.{Work}
use Rattle.rz_operation_model.specs.Steps.{Told}
use Rattle.rz_operation_model.specs.Turns.{IsStep}
use Rattle.rz_core.specs.History.{of_actor}
use Rattle.rz_play.specs.World.{Agenda, at_work, with_work}
use Rattle.rz_threads_steps.specs.Turned.{WorkGoesOn}

-- The actor has come from one agenda to another by turns with these events of its own, the newest first: each of them once.
pub data IsDoing (honest : Bool) (layout : Layout) (by : Actor) (from : Agenda) : List Event → Agenda → Type 0 where
  Begins : IsDoing honest layout by from [] from
  Turns : (run : List Event) (s : Agenda) (t : Told) (xs : List Event) (work : Work) → IsDoing honest layout by from run s
      → IsStep by (at_work s).number (ask_of layout (at_work s).work) t xs → WorkGoesOn honest layout (at_work s).work t work
      → IsDoing honest layout by from (xs ++ run) (with_work (at_work s) work)

-- Its own events in the new log are those that it had, and those of turns from this agenda to that one.
pub record HasDone (honest : Bool) (layout : Layout) (by : Actor) (from to : Agenda) (old new : List Event) : Type 0 where
  pub run : List Event
  pub own : of_actor by new ≡ run ++ of_actor by old
  pub doing : IsDoing honest layout by from run to

-- some of its operations are done, and a beginning of one
abbrev pub IsSomeDone : Bool → Layout → Actor → Agenda → List Event → List Event → Type 0
IsSomeDone honest layout by from old new = (last : Agenda) × HasDone honest layout by from last old new
