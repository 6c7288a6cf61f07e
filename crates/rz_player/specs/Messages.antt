-- A message of an actor to a node, and what the link makes of it.
use Rattle.std.specs.Prelude.{ℕ, Bool, true, false, ◌≡◌, List, ◌∷◌, Option, Some}
use Rattle.rz_link.specs.declared.Sent.{Sent}
use Rattle.rz_link.specs.declared.Sent.TheVariants.{Through, RequestLost, ReplyLost}
use Rattle.rz_link.specs.Fates.{HasFared}
use Rattle.rz_events.specs.declared.keys.Actor.{Actor}
use Rattle.rz_events.specs.declared.nodes.NodeAsk.{NodeAsk}
use Rattle.rz_events.specs.declared.nodes.NodeAnswer.{NodeAnswer}
use Rattle.rz_events.specs.declared.events.Event.{Event}
use Rattle.rz_events.specs.declared.events.Event.TheVariants as e
use Rattle.rz_events.specs.Volume.{Volume}
use Rattle.rz_node_model.specs.NodeEvents.{node_event}
use Rattle.rz_operation_model.specs.Ask.{Ask, AskNode, ask_of}
use Rattle.rz_operation_model.specs.Turns.{goes_by_link}
use Rattle.rz_play.specs.World.{World, at_work}

-- the node answered, with an event of the answer
abbrev pub HasAnswered : Actor → ℕ → NodeAsk → Event → Type 0
HasAnswered by n question x = (given : NodeAnswer) × (node_event by n question given ≡ Some x)

-- the events that a message which fared so adds, the newest first
abbrev pub IsNotedAs : Actor → ℕ → NodeAsk → Sent → List Event → List Event → Type 0
IsNotedAs by n question Through old new = (x : Event) × HasAnswered by n question x × (new ≡ x ∷ old)
IsNotedAs by n question ReplyLost old new = (x : Event) × HasAnswered by n question x × (new ≡ e.Missed by n true ∷ x ∷ old)
IsNotedAs by n question RequestLost old new = new ≡ e.Missed by n false ∷ old

-- A message was sent, and the events say how it fared: as a line of the script planned it, or else as the link said, which
-- was asked once, and only where the message goes by it and no line planned its fate.
pub record IsSent {L : Type 0} (says : L → ℕ → Sent → L → Type 0) (miss : Option Bool) (by : Actor) (n : ℕ) (question : NodeAsk) (link new_link : L) (old new : List Event) : Type 0 where
  pub sent : Sent
  pub fared : HasFared says (goes_by_link question) miss n link sent new_link
  pub noted : IsNotedAs by n question sent old new

-- What an actor asks, where its next message may be planned to be lost: a message to a node is sent so, and of anything else the link
-- is not asked.
abbrev pub IsAskSent : {L : Type 0} (says : L → ℕ → Sent → L → Type 0) → Ask → (miss : Option Bool) → Actor → (link new_link : L) → (old new : List Event) → Type 0
IsAskSent says (AskNode n question) miss by link new_link old new = IsSent says miss by n question link new_link old new
IsAskSent says ask miss by link new_link old new = new_link ≡ link

-- what a turn makes of the link
abbrev pub IsTurnSent : {L : Type 0} (says : L → ℕ → Sent → L → Type 0) → Volume → Actor → (link new_link : L) → World → World → Type 0
IsTurnSent says v by link new_link w next = let s = at_work (w.agendas by) in IsAskSent says (ask_of v.layout s.work) s.miss by link new_link w.log next.log
