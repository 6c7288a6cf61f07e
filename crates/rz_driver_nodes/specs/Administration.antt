-- What the administrator's lines make of the nodes and of the log. A line that does not apply has no event.
use Rattle.std.specs.Prelude.{ℕ, ◌≡◌, ◌≢◌, List, ◌∷◌, Option, Some, slice_get, slice_set}
use Rattle.rz_events.specs.declared.keys.Actor.TheVariants.{Admin}
use Rattle.rz_events.specs.declared.nodes.NodeAsk.{NodeAsk}
use Rattle.rz_events.specs.declared.nodes.NodeAsk.TheVariants as ask
use Rattle.rz_events.specs.declared.nodes.NodeAnswer.{NodeAnswer}
use Rattle.rz_events.specs.declared.nodes.NodeAnswer.TheVariants as answer
use Rattle.rz_events.specs.declared.nodes.StartAnswer.TheVariants as start
use Rattle.rz_events.specs.declared.nodes.Phase.TheVariants.{Down}
use Rattle.rz_events.specs.declared.events.Event.{Event}
use Rattle.rz_events.specs.declared.events.Event.TheVariants as e
use Rattle.rz_node_model.specs.Answers.{IsNodeAnswer}
use Rattle.rz_node_model.specs.Afterwards.{after_answer}
use Rattle.rz_node_model.specs.NodeEvents.{node_event}
use Rattle.rz_play.specs.Lines.{IsStartedAs, IsAnswerInPlay, noted}
use Rattle.rz_nodes.specs.declared.formatting.Server.{Server}
use Rattle.rz_driver_nodes.specs.Servers.{IsServerAt, IsCalled}

-- a node is told to stop, or to lose its disk
abbrev pub StopsOrLoses : NodeAsk → Type 0
StopsOrLoses ask.Stop = Unit {0}
StopsOrLoses ask.Lose = Unit {0}
StopsOrLoses question = ⊥

-- a node answered the administrator
pub record IsOrderAnswered {D : Type 0} (question : NodeAsk) (s s' : Server D) (event : Option Event) : Type 0 where
  pub given : NodeAnswer
  pub given_is : IsNodeAnswer s.node.geometry.cells s.node.state question given
  pub told : IsAnswerInPlay given
  pub after : s'.node.state ≡ after_answer question given s.node.state
  pub event_is : event ≡ node_event Admin s.sid question given
  pub called : IsCalled s s'

-- a node was started, and nothing is said of what it found; one that did not start is as it was
pub record IsFreeOrder {D : Type 0} (s s' : Server D) (event : Option Event) : Type 0 where
  pub given : NodeAnswer
  pub given_is : IsNodeAnswer s.node.geometry.cells s.node.state ask.Start given
  pub answered : given ≢ answer.Start start.NoMemory
  pub started : IsStartedAs given s.node.state s'.node.state
  pub event_is : event ≡ node_event Admin s.sid ask.Start given
  pub called : IsCalled s s'

-- its disk was armed
pub record IsDiskArmed {D : Type 0} (pick : ℕ) (s s' : Server D) : Type 0 where
  pub sid : s'.sid ≡ s.sid
  pub geometry : s'.node.geometry ≡ s.node.geometry
  pub state : s'.node.state ≡ s.node.state
  pub pick_is : s'.pick ≡ pick

-- the node of this number answered, and its event was noted
pub record IsOrderNoted {D : Type 0} (question : NodeAsk) (n : ℕ) (old new : List (Server D)) (log log' : List Event) : Type 0 where
  pub place : ℕ
  pub server : Server D
  pub after : Server D
  pub event : Option Event
  pub at : IsServerAt old n place
  pub is : slice_get old place ≡ Some server
  pub servers : new ≡ slice_set old place after
  pub order : IsOrderAnswered question server after event
  pub log_is : log' ≡ noted event log

-- the node of this number was started, and its event was noted
pub record IsStarted {D : Type 0} (n : ℕ) (old new : List (Server D)) (log log' : List Event) : Type 0 where
  pub place : ℕ
  pub server : Server D
  pub after : Server D
  pub event : Option Event
  pub at : IsServerAt old n place
  pub is : slice_get old place ≡ Some server
  pub servers : new ≡ slice_set old place after
  pub order : IsFreeOrder server after event
  pub log_is : log' ≡ noted event log

-- the node of this number was called, and nothing is said of its answer
pub record IsCalledAt {D : Type 0} (n : ℕ) (old new : List (Server D)) : Type 0 where
  pub place : ℕ
  pub server : Server D
  pub after : Server D
  pub at : IsServerAt old n place
  pub is : slice_get old place ≡ Some server
  pub servers : new ≡ slice_set old place after
  pub called : IsCalled server after

-- The node of this number was started. Where it was down its disk crashed first, by the pick of its last arming.
pub record IsCrashedAt {D : Type 0} (picks : D → ℕ → List ℕ → Type 0) (text : D → List ℕ) (n : ℕ) (old new : List (Server D)) : Type 0 where
  pub place : ℕ
  pub server : Server D
  pub after : Server D
  pub at : IsServerAt old n place
  pub is : slice_get old place ≡ Some server
  pub servers : new ≡ slice_set old place after
  pub crashed : server.node.state.phase ≡ Down → picks server.node.disk server.pick (text after.node.disk)

-- the disk of the node of this number was armed, and that was noted
pub record IsArming {D : Type 0} (passes pick n : ℕ) (old new : List (Server D)) (log log' : List Event) : Type 0 where
  pub place : ℕ
  pub server : Server D
  pub after : Server D
  pub at : IsServerAt old n place
  pub is : slice_get old place ≡ Some server
  pub servers : new ≡ slice_set old place after
  pub armed : IsDiskArmed pick server after
  pub log_is : log' ≡ e.Armed n passes pick ∷ log
