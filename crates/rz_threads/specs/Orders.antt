-- What the administrator's lines do to a log that others write too, the newest event first.
use Rattle.std.specs.Prelude.{ℕ, Bool, true, false, ◌≡◌, ◌≢◌, IsTrue, List, [], ◌∷◌, ◌++◌}
use Rattle.rz_events.specs.declared.keys.Actor.TheVariants.{Admin}
use Rattle.rz_events.specs.declared.nodes.NodeAsk.{NodeAsk}
use Rattle.rz_events.specs.declared.nodes.NodeAsk.TheVariants as ask
use Rattle.rz_events.specs.declared.nodes.NodeAnswer.{NodeAnswer}
use Rattle.rz_events.specs.declared.nodes.NodeAnswer.TheVariants as answer
use Rattle.rz_events.specs.declared.nodes.StartAnswer.TheVariants as start
use Rattle.rz_events.specs.declared.events.Word.TheVariants.{Node}
use Rattle.rz_events.specs.declared.events.Event.{Event}
use Rattle.rz_events.specs.declared.events.Event.TheVariants as e
use Rattle.rz_node_model.specs.States.{NodeState}
use Rattle.rz_node_model.specs.Answers.{IsNodeAnswer}
use Rattle.rz_node_model.specs.NodeEvents.{node_event}
use Rattle.rz_core.specs.History.{facts, of_actor, of_word}
use Rattle.rz_core.specs.NodeRows.{cells_of}
use Rattle.rz_core.specs.Tied.{IsNode, IsOpening}
use Rattle.rz_script.specs.declared.line.Line.{Line}
use Rattle.rz_script.specs.declared.line.Line.TheVariants as line
use Rattle.rz_play.specs.Lines.{noted}
use Rattle.rz_chronicle.specs.Keys.{IsLater}
use Rattle.rz_chronicle.specs.Kinds.{is_honest, volume_in}

-- these calls of a node the administrator alone makes
abbrev pub IsAdminAsk : NodeAsk → Type 0
IsAdminAsk ask.Stop = Unit {0}
IsAdminAsk ask.Start = Unit {0}
IsAdminAsk ask.Lose = Unit {0}
IsAdminAsk _ = ⊥

-- a node was to start, and found no memory
abbrev pub is_want : NodeAnswer → Bool
is_want (answer.Start start.NoMemory) = true
is_want _ = false

-- Others went on, and the administrator did nothing.
pub record Waits (old new : List Event) : Type 0 where
  pub later : IsLater old new
  pub own : of_actor Admin new ≡ of_actor Admin old

-- Some node answers so; over an honest book it is the one that the log gives, and its disk did not refuse to open but for a
-- disk fault.
pub record IsOrderAnswered (kind : List ℕ) (h : List Event) (n : ℕ) (question : NodeAsk) (given : NodeAnswer) : Type 0 where
  pub state : NodeState
  pub is : IsNodeAnswer (cells_of (volume_in kind) n) state question given
  pub tied : IsTrue (is_honest kind) → IsNode (facts h) (of_word (Node n) h) state
  pub opening : IsTrue (is_honest kind) → IsOpening given

-- The administrator called a node once: the answer is right after a log up to which it did nothing else, and on top of this log
-- stands the event of the answer, if it has one.
pub record IsNodeCalled (kind : List ℕ) (n : ℕ) (question : NodeAsk) (old new : List Event) : Type 0 where
  pub before : List Event
  pub waits : Waits old before
  pub given : NodeAnswer
  pub right : IsOrderAnswered kind before n question given
  pub answered : given ≢ answer.Start start.NoMemory
  pub new_is : new ≡ noted (node_event Admin n question given) before

-- it armed the disk of a node
pub record IsArmingDone (n passes pick : ℕ) (old new : List Event) : Type 0 where
  pub before : List Event
  pub waits : Waits old before
  pub new_is : new ≡ e.Armed n passes pick ∷ before

-- It carried out a line. Those of other actors it passes over.
abbrev pub IsLineDone : List ℕ → Line → List Event → List Event → Type 0
IsLineDone kind (line.Stop n) old new = IsNodeCalled kind n ask.Stop old new
IsLineDone kind (line.Start n) old new = IsNodeCalled kind n ask.Start old new
IsLineDone kind (line.Lose n) old new = IsNodeCalled kind n ask.Lose old new
IsLineDone kind (line.Break n passes pick) old new = IsArmingDone n passes pick old new
IsLineDone kind _ old new = new ≡ old

-- the lines one after another, and nothing else
abbrev pub AreDone : List ℕ → List Line → List Event → List Event → Type 0
AreDone kind [] old new = Waits old new
AreDone kind (l ∷ lines) old new = (mid : List Event) × IsLineDone kind l old mid × AreDone kind lines mid new

-- the first of them
abbrev pub AreLinesBegun : List ℕ → List Line → List Event → List Event → Type 0
AreLinesBegun kind lines old new = (done rest : List Line) × (lines ≡ done ++ rest) × AreDone kind done old new
