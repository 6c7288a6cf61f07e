-- What an operation beside which nobody acts has come to. The newest event stands first; `earlier` is the log after which the run goes on.
use Rattle.std.specs.Prelude.{ℕ, true, false, ◌≡◌, IsTrue, List, ◌∷◌, ◌++◌, Option, Some, None}
use Rattle.rz_events.specs.declared.operations.Operation.{Operation}
use Rattle.rz_events.specs.declared.events.Event.{Event}
use Rattle.rz_operation.specs.Machine.{Machine, text_of}
use Rattle.rz_operation_model.specs.Ask.{Ask, Saying}
use Rattle.rz_operation_model.specs.Work.{Work}
use Rattle.rz_operation_model.specs.Steps.{begun}
use Rattle.rz_operation_model.specs.Turns.{said_event}
use Rattle.rz_core.specs.History.{facts}
use Rattle.rz_core.specs.Legal.{IsLegalInRuns}
use Rattle.rz_play.specs.Turns.{text_said}
use Rattle.rz_chronicle.specs.Kinds.{keeps_legal, volume_in}
use Rattle.rz_contents.specs.Model.{IsStill}
use Rattle.rz_contents.specs.Files.{is_word, IsSilentCourse}
use Rattle.rz_store_turns.specs.declared.sole.Stop.{Stop}
use Rattle.rz_store_turns.specs.Sole.{SoleView}

-- The log has the events of the operation more, which has come to this work, and nothing else.
pub record HasCome (kind : List ℕ) (earlier : List Event) (op : Operation) (old new : SoleView) (work : Work) : Type 0 where
  pub events : List Event
  pub log : new.pass.log ≡ events ++ old.pass.log
  pub course : IsTrue (keeps_legal kind) → IsSilentCourse (volume_in kind).layout new.pass.actor new.number (begun op) events work
  pub legal : IsTrue (keeps_legal kind) → IsLegalInRuns (volume_in kind) (new.pass.log ++ earlier)

-- it stopped before a word, or it is about to say one
abbrev pub IsAtWord : Option Stop → Ask → Type 0
IsAtWord None asked = is_word asked ≡ true
IsAtWord (Some why) asked = is_word asked ≡ false

-- The log has the event of this word more. The text that the machine has is that of the write.
pub record HasSaid (kind : List ℕ) (earlier : List Event) (old new : SoleView) (m : Machine) (saying : Saying) : Type 0 where
  pub text : List ℕ
  pub log : new.pass.log ≡ said_event old.pass.actor old.number text saying ∷ old.pass.log
  pub legal : IsTrue (keeps_legal kind) → IsLegalInRuns (volume_in kind) (new.pass.log ++ earlier)
  pub found : IsTrue (keeps_legal kind) → text_of m ≡ text_said (facts (old.pass.log ++ earlier)) saying

-- The log has events more of which users see nothing, or none.
pub record IsQuiet (kind : List ℕ) (earlier : List Event) (old new : SoleView) : Type 0 where
  pub events : List Event
  pub log : IsTrue (keeps_legal kind) → new.pass.log ≡ events ++ old.pass.log
  pub still : IsStill events
  pub legal : IsTrue (keeps_legal kind) → IsLegalInRuns (volume_in kind) (new.pass.log ++ earlier)
