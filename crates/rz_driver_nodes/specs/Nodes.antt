-- What a message to a node makes of the parts that it uses.
use Rattle.std.specs.Prelude.{ℕ, Bool, true, false, ◌≡◌, List, ◌∷◌, Some}
use Rattle.rz_events.specs.declared.keys.Actor.{Actor}
use Rattle.rz_events.specs.declared.nodes.NodeAsk.{NodeAsk}
use Rattle.rz_events.specs.declared.nodes.NodeAnswer.{NodeAnswer}
use Rattle.rz_events.specs.declared.events.Event.{Event}
use Rattle.rz_events.specs.declared.events.Event.TheVariants as e
use Rattle.rz_node_model.specs.States.{NodeState}
use Rattle.rz_node_model.specs.Answers.{IsNodeAnswer}
use Rattle.rz_node_model.specs.Afterwards.{after_answer}
use Rattle.rz_node_model.specs.NodeEvents.{node_event}
use Rattle.rz_operation.specs.Answers.{IsWorkAfter}
use Rattle.rz_operation.specs.Machine.{Machine}
use Rattle.rz_operation_model.specs.Ask.{AskNode, ask_of}
use Rattle.rz_operation_model.specs.Steps.{Answered, Missed}
use Rattle.rz_play.specs.Free.{MayFit}
use Rattle.rz_driver_asks.specs.Parts.{IsMachineTold, IsNoted}

-- the machine asks this of the node
abbrev pub IsAsked : Machine → ℕ → NodeAsk → Type 0
IsAsked m n question = ask_of m.layout m.work ≡ AskNode n question

-- a node answered, in the state that it had, and has the state after it
pub record IsNodeServed (cells : ℕ) (question : NodeAsk) (given : NodeAnswer) (s s' : NodeState) : Type 0 where
  pub given_is : IsNodeAnswer cells s question given
  pub after : s' ≡ after_answer question given s

-- the message came through; the records that came may fit no block
pub record IsThroughPart (by : Actor) (n cells : ℕ) (question : NodeAsk) (s s' : NodeState) (old new : Machine) (log log' : List Event) : Type 0 where
  pub given : NodeAnswer
  pub served : IsNodeServed cells question given s s'
  pub noted : IsNoted (node_event by n question given) log log'
  pub fits : Bool
  pub may_fit : MayFit given fits
  pub goes : IsMachineTold old new (Answered fits given)

-- its answer was lost
pub record IsReplyLostPart (by : Actor) (n cells : ℕ) (question : NodeAsk) (s s' : NodeState) (old new : Machine) (log log' : List Event) : Type 0 where
  pub given : NodeAnswer
  pub served : IsNodeServed cells question given s s'
  pub event : Event
  pub event_is : node_event by n question given ≡ Some event
  pub noted : log' ≡ e.Missed by n true ∷ event ∷ log
  pub goes : IsWorkAfter old old.pairs Missed new

-- it was lost itself
pub record IsRequestLostPart (by : Actor) (n : ℕ) (old new : Machine) (log log' : List Event) : Type 0 where
  pub noted : log' ≡ e.Missed by n false ∷ log
  pub goes : IsWorkAfter old old.pairs Missed new
