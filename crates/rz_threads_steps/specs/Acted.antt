-- What an act of an actor leaves. `earlier` is the log that the run goes on after.
use Rattle.std.specs.Prelude.{ℕ, ◌≡◌, IsTrue, List, [], ◌++◌}
use Rattle.rz_events.specs.declared.nodes.NodeAsk.{NodeAsk}
use Rattle.rz_events.specs.declared.nodes.NodeAnswer.{NodeAnswer}
use Rattle.rz_events.specs.declared.events.Word.TheVariants.{Own}
use Rattle.rz_events.specs.declared.events.Event.{Event}
use Rattle.rz_node_model.specs.States.{NodeState}
use Rattle.rz_node_model.specs.Answers.{IsNodeAnswer}
use Rattle.rz_node_model.specs.NodeEvents.{node_event}
use Rattle.rz_operation.specs.Machine.{Machine}
use Rattle.rz_core.specs.History.{facts, of_actor}
use Rattle.rz_core.specs.NodeRows.{cells_of}
use Rattle.rz_play.specs.Faults.{missed}
use Rattle.rz_play_laws.specs.Own.{IsOfActor}
use Rattle.rz_block_laws.specs.Acting.{IsActing}
use Rattle.rz_chronicle.specs.Keys.{count_at, word_key}
use Rattle.rz_chronicle.specs.Kinds.{keeps_legal, volume_in}
use Rattle.rz_chronicle.specs.Rules.{PassView}
use Rattle.rz_shared_locked.specs.LockedNodes.{IsTrueRecord}
use Rattle.rz_show.specs.Shown.{shown_of}
use Rattle.rz_threads_steps.specs.Adding.{AddsOwn, AddsAlone}
use Rattle.rz_threads_steps.specs.Turned.{IsTurned, IsCutOff}

-- in a book that keeps its log legal the operation of this number is right beside the log
abbrev pub IsWorkRight : List ℕ → List Event → PassView → ℕ → Machine → Type 0
IsWorkRight kind earlier p number m = IsTrue (keeps_legal kind) → IsActing (volume_in kind) earlier p.log p.actor number m

-- The operation took a turn, and is right beside the log again.
pub record HasActed (kind : List ℕ) (earlier : List Event) (number : ℕ) (old new : PassView) (m m' : Machine) : Type 0 where
  pub turned : IsTurned (keeps_legal kind) old.actor number old.log new.log m m'
  pub alone : AddsAlone old turned.events new
  pub right : IsWorkRight kind earlier new number m'

-- Its turn was cut off. In a book that keeps its log legal it has then added no event.
pub record IsStopped (kind : List ℕ) (number : ℕ) (old new : PassView) (m : Machine) : Type 0 where
  pub cut : IsCutOff old.actor number old.log new.log m
  pub alone : AddsAlone old cut.events new
  pub none : IsTrue (keeps_legal kind) → cut.events ≡ []

-- A node answered an actor's call: the event of the answer, if it has one, is the actor's own, and a record that came is that
-- of its write.
pub record IsCallServed (kind : List ℕ) (earlier : List Event) (node : ℕ) (question : NodeAsk) (given : NodeAnswer) (old new : PassView) (bins bins' : List ℕ) : Type 0 where
  pub for_actor : IsOfActor question
  pub adds : AddsOwn kind earlier old (node_event old.actor node question given) new
  pub quiet : missed (of_actor old.actor new.log) ≡ missed (of_actor old.actor old.log)
  pub unshown : shown_of (of_actor old.actor new.log) ≡ shown_of (of_actor old.actor old.log)
  pub moves : count_at (word_key (Own old.actor)) new.log ≡ count_at (word_key (Own old.actor)) old.log
  pub read : IsTrue (keeps_legal kind) → IsTrueRecord (volume_in kind) (facts (new.log ++ earlier)) node question given bins bins'
  pub by_node : (state : NodeState) × IsNodeAnswer (cells_of (volume_in kind) node) state question given
