-- What turns one after another make of an actor's operations.
use Rattle.std.specs.Prelude.{Bool, ◌≡◌, List}
use Rattle.mj_angles.specs.declared.layout.Layout.{Layout}
use Rattle.rz_events.specs.declared.keys.Actor.{Actor}
use Rattle.rz_events.specs.declared.events.Event.{Event}
use Rattle.rz_operation.specs.Machine.{Machine}
use Rattle.rz_play.specs.World.{Agenda, at_work, with_work}
use Rattle.rz_threads_steps.specs.Turned.{IsTurned, IsCutOff}
use Rattle.rz_threads_worker.specs.Doing.{HasDone, IsSomeDone}

-- an actor goes to work with this machine
pub record IsAtWork (layout : Layout) (from s : Agenda) (m : Machine) : Type 0 where
  pub taken_up : s ≡ at_work from
  pub work : s.work ≡ m.work
  pub layout_is : m.layout ≡ layout

-- a turn of its machine is a turn of the actor
abbrev pub IsTurnLaw : Type 0
IsTurnLaw = (honest : Bool) (layout : Layout) (by : Actor) (from s : Agenda) (old new : List Event) (m m' : Machine) → IsAtWork layout from s m
    → IsTurned honest by s.number old new m m' → HasDone honest layout by from (with_work s m'.work) old new

-- one that was cut off is a beginning of one
abbrev pub IsCutLaw : Type 0
IsCutLaw = (honest : Bool) (layout : Layout) (by : Actor) (from s : Agenda) (old new : List Event) (m : Machine) → IsAtWork layout from s m
    → IsCutOff by s.number old new m → IsSomeDone honest layout by from old new

-- turns after turns are turns
abbrev pub IsOrderLaw : Type 0
IsOrderLaw = (honest : Bool) (layout : Layout) (by : Actor) (from mid last : Agenda) (old between new : List Event) → HasDone honest layout by from mid old between
    → HasDone honest layout by mid last between new → HasDone honest layout by from last old new
