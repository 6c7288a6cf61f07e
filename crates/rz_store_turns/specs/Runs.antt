-- What turns of one operation make of the log, beside which nobody acts. The newest event stands first.
use Rattle.std.specs.Prelude.{ℕ, ◌≡◌, IsTrue, List, ◌++◌}
use Rattle.rz_events.specs.declared.keys.Actor.{Actor}
use Rattle.rz_events.specs.declared.events.Event.{Event}
use Rattle.rz_operation.specs.Machine.{Machine}
use Rattle.rz_operation_model.specs.Ask.{ask_of}
use Rattle.rz_operation_model.specs.Steps.{Told, told}
use Rattle.rz_operation_model.specs.Turns.{IsStep}
use Rattle.rz_core.specs.History.{of_actor}
use Rattle.rz_chronicle.specs.Kinds.{keeps_legal}
use Rattle.rz_chronicle.specs.Rules.{PassView}
use Rattle.rz_contents.specs.Files.{IsSilentCourse}

-- The pass is that of the same actor, with the same tokens, and no other actor has an event more.
pub record GoesAlone (old new : PassView) : Type 0 where
  pub actor : new.actor ≡ old.actor
  pub keys : new.keys ≡ old.keys
  pub others : (a : Actor) → ¬ (a ≡ old.actor) → of_actor a new.log ≡ of_actor a old.log

-- The log has the events of one turn more, which answer what the operation asked. In a book that keeps its log legal the operation goes
-- on by that answer.
pub record HasTurned (kind : List ℕ) (number : ℕ) (old new : PassView) (m m' : Machine) : Type 0 where
  pub answer : Told
  pub events : List Event
  pub log : new.log ≡ events ++ old.log
  pub step : IsStep old.actor number (ask_of m.layout m.work) answer events
  pub goes : IsTrue (keeps_legal kind) → m'.work ≡ told m.layout m.work answer

-- The log has these events more. In a book that keeps its log legal they are those of turns that led from the one machine to the other,
-- and no word was said.
pub record HasRun (kind : List ℕ) (number : ℕ) (old new : PassView) (m m' : Machine) : Type 0 where
  pub events : List Event
  pub log : new.log ≡ events ++ old.log
  pub course : IsTrue (keeps_legal kind) → IsSilentCourse m.layout old.actor number m.work events m'.work
