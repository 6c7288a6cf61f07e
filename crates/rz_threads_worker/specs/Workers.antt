-- A worker between two turns, and what it has done when it is through.
use Rattle.std.specs.Prelude.{ℕ, Bool, true, false, ◌≡◌, ◌+◌, ◌≤◌, IsTrue, List, [], ◌∷◌, length, Option, Some, None}
use Rattle.std.specs.List.{AllByRecursion}
use Rattle.mj_angles.specs.declared.layout.Layout.{Layout}
use Rattle.mj_angles.specs.Layout.{max_bins_of}
use Rattle.rz_events.specs.Volume.{Volume}
use Rattle.rz_events.specs.declared.keys.Actor.{Actor}
use Rattle.rz_events.specs.declared.keys.Actor.TheVariants.{Admin}
use Rattle.rz_events.specs.declared.events.Event.{Event}
use Rattle.rz_events.specs.declared.operations.Operation.{Operation}
use Rattle.rz_script.specs.Lines.{IsOperation}
use Rattle.rz_operation.specs.Machine.{Machine, HasLayout, work_in}
use Rattle.rz_operation_model.specs.Work.{Over}
use Rattle.rz_core.specs.History.{of_actor}
use Rattle.rz_core.specs.Own.{IsBetween}
use Rattle.rz_operation_model.specs.Steps.{begun}
use Rattle.rz_play.specs.World.{Agenda as APlayer, has_work, is_over}
use Rattle.rz_block_laws.specs.Acting.{IsActing}
use Rattle.rz_chronicle.specs.Kinds.{keeps_legal, volume_in}
use Rattle.rz_chronicle.specs.Rules.{PassView}
use Rattle.rz_show.specs.Shown.{shown_of}
use Rattle.rz_threads_worker.specs.declared.worker_agenda.Agenda.{Agenda}
use Rattle.rz_threads_worker.specs.Doing.{HasDone}

-- the actor of a play that a worker's agenda stands for
abbrev pub agenda_of : Agenda → APlayer
agenda_of s = record { todo = s.todo.items; number = s.number; work = work_in s.machine; lock = None; miss = None }

-- the operation in hand is right beside the log, which begins anew, or none is in hand
abbrev pub IsAtHand : Volume → List Event → Actor → ℕ → Option Machine → Type 0
IsAtHand v h by number None = IsBetween (of_actor by h)
IsAtHand v h by number (Some m) = IsActing v [] h by number m

-- A client or a rebuilder that can take its next turn: `bins` has room for a record, and `shown` its events that are shown.
pub record IsWorkerReady (kind : List ℕ) (pass : PassView) (agenda : Agenda) (bins : List ℕ) (shown : List Event) : Type 0 where
  pub actor : ¬ (pass.actor ≡ Admin)
  pub todo : AllByRecursion (IsOperation (volume_in kind) pass.actor) agenda.todo.items
  pub machine : HasLayout (volume_in kind).layout agenda.machine
  pub at_hand : IsTrue (keeps_legal kind) → IsAtHand (volume_in kind) pass.log pass.actor agenda.number agenda.machine
  pub room : max_bins_of (volume_in kind).layout ≤ length bins
  pub shows : shown ≡ shown_of (of_actor pass.actor pass.log)

-- An operation in hand stays there. Where none is in hand the next one begins, or nothing is left to do.
pub data BeginsNext (layout : Layout) (a b : Agenda) : Type 0 where
  Works : is_over (work_in a.machine) ≡ false → b ≡ a → BeginsNext layout a b
  Rests : a.todo.items ≡ [] → b.todo.items ≡ [] → b.number ≡ a.number → b.machine ≡ a.machine → BeginsNext layout a b
  Begins : (op : Operation) (m : Machine) → is_over (work_in a.machine) ≡ true → a.todo.items ≡ op ∷ b.todo.items → b.number ≡ a.number + 1
      → b.machine ≡ Some m → m.layout ≡ layout → m.work ≡ begun op → BeginsNext layout a b

-- an agenda with these operations, of which none has begun
abbrev pub agenda_with : List Operation → APlayer
agenda_with todo = record { todo = todo; number = 0; work = Over; lock = None; miss = None }

-- All its operations are done, and nothing else: each in turn, and no turn twice.
pub record IsAllDone (honest : Bool) (layout : Layout) (by : Actor) (from : APlayer) (old new : List Event) : Type 0 where
  pub last : APlayer
  pub done : HasDone honest layout by from last old new
  pub rests : has_work last ≡ false
