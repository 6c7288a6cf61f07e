-- Actors, as a play has them.
use Rattle.std.specs.Prelude.{◌≡◌, true, [], ◌∷◌, None}
use Rattle.std.specs.List.{AllByRecursion}
use Rattle.mj_angles.specs.declared.layout.Layout.{Layout}
use Rattle.rz_events.specs.declared.operations.Operation.{Operation}
use Rattle.rz_operation.specs.Machine.{HasLayout, work_in}
use Rattle.rz_operation.specs.Answers.{IsWithinLayout}
use Rattle.rz_play.specs.World.{Agenda as APlayer, is_over}
use Rattle.rz_driver_actors.specs.declared.actor_agenda.Agenda.{Agenda}
use Rattle.rz_driver_asks.specs.Locking.{lock_of}

abbrev pub agenda_of : Agenda → APlayer
agenda_of s = record { todo = s.todo.items; number = s.number; work = work_in s.machine; lock = lock_of s.lock; miss = s.miss }

-- the machine has the layout, and so have the operations that wait
pub record IsAgenda (layout : Layout) (s : Agenda) : Type 0 where
  pub machine : HasLayout layout s.machine
  pub todo : AllByRecursion (IsWithinLayout layout) s.todo.items

pub record IsEmptyAgenda (s : Agenda) : Type 0 where
  pub todo : s.todo.items ≡ []
  pub number : s.number ≡ 0
  pub machine : s.machine ≡ None
  pub lock : s.lock ≡ None
  pub miss : s.miss ≡ None

-- The next operation was to begin and did not, and it is gone.
pub record LosesNext (a b : Agenda) : Type 0 where
  pub over : is_over (work_in a.machine) ≡ true
  pub next : Operation
  pub todo : a.todo.items ≡ next ∷ b.todo.items
  pub number : b.number ≡ a.number
