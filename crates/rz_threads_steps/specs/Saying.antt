-- A word of an actor's own is said.
use Rattle.std.specs.Prelude.{ℕ, ◌≡◌}
use Rattle.rz_events.specs.declared.keys.Actor.{Actor}
use Rattle.rz_events.specs.declared.events.Event.{Event}
use Rattle.rz_operation_model.specs.Ask.{Say, Saying, ask_of}
use Rattle.rz_operation_model.specs.Steps.{Noted}
use Rattle.rz_operation_model.specs.Turns.{said_event}
use Rattle.rz_operation.specs.Answers.{IsWorkAfter}
use Rattle.rz_operation.specs.Machine.{Machine, text_of}

-- This event says what the machine was about to say, with the text that it found, and the machine has said it.
pub record IsSayingDone (by : Actor) (number : ℕ) (m m' : Machine) (x : Event) : Type 0 where
  pub saying : Saying
  pub asks : ask_of m.layout m.work ≡ Say saying
  pub event : x ≡ said_event by number (text_of m) saying
  pub goes : IsWorkAfter m m.pairs (Noted (text_of m)) m'
