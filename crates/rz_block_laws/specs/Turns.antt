-- One turn of an actor beside the log: what is true of it before the turn, and what is then true, however the log grows.
use Rattle.std.specs.Prelude.{ℕ, List, ◌++◌}
use Rattle.rz_events.specs.Volume.{Volume}
use Rattle.rz_events.specs.declared.keys.Actor.{Actor}
use Rattle.rz_events.specs.declared.nodes.NodeAsk.{NodeAsk}
use Rattle.rz_events.specs.declared.nodes.NodeAnswer.{NodeAnswer}
use Rattle.rz_events.specs.declared.events.Event.{Event}
use Rattle.rz_node_model.specs.Afterwards.{after_answer}
use Rattle.rz_node_model.specs.States.{NodeState}
use Rattle.rz_cells_slots.specs.declared.geometry.Geometry.{Geometry}
use Rattle.rz_operation_model.specs.Ask.{ask_of}
use Rattle.rz_operation_model.specs.Steps.{Told}
use Rattle.rz_operation_model.specs.Turns.{IsStep}
use Rattle.rz_operation.specs.Answers.{IsWorkAfter, IsAnswerTo}
use Rattle.rz_operation.specs.Machine.{Machine}
use Rattle.rz_core.specs.History.{Facts, facts}
use Rattle.rz_play_laws.specs.Own.{HasOwnEvents}
use Rattle.rz_node_laws.specs.Images.{IsImaged}
use Rattle.rz_block_laws.specs.InHand.{IsInHand}
use Rattle.rz_block_laws.specs.Laws.{IsTrueTo, IsNoFetch, IsMessage, IsAnswerTold}

-- An actor's own events say how far its operation has come, and what that has in hand is true.
pub record IsTrueActor (v : Volume) (f : Facts) (by : Actor) (m : Machine) : Type 0 where
  pub own : List Event
  pub run : List Event
  pub number : ℕ
  pub true_to : IsTrueTo v f own run by m
  pub way : HasOwnEvents v by number run m.work

-- what a machine has in hand is true
abbrev pub HasInHand : Volume → Facts → Machine → Type 0
HasInHand v f m = IsInHand v.layout f m.work m.pairs m.block

-- it stays true while others act
abbrev pub IsLastingLaw : Volume → Type 0
IsLastingLaw v = (h more : List Event) (m : Machine) → HasInHand v (facts h) m → HasInHand v (facts (more ++ h)) m

-- the operation was told anything but a record
abbrev pub IsToldLaw : Volume → Type 0
IsToldLaw v = (h more : List Event) (by : Actor) (number : ℕ) (m new : Machine) (t : Told) (xs : List Event)
    → IsTrueActor v (facts h) by m → IsStep by number (ask_of m.layout m.work) t xs → IsNoFetch t → IsWorkAfter m m.pairs t new
    → HasInHand v (facts (more ++ h)) new

-- A node was sent a message and has answered: the images of its disk are its own again, the answer is one to what was asked,
-- and a machine that is told it has in hand what is true.
pub record IsHeard {D : Type 0} (image : D → List ℕ → Type 0) (v : Volume) (f : Facts) (by : Actor) (m : Machine) (n : ℕ) (g : Geometry) (s : NodeState) (question : NodeAsk) (given : NodeAnswer) (bins : List ℕ) (after : D) : Type 0 where
  pub images : IsImaged v f n (after_answer question given s) g (image after)
  pub answers : IsAnswerTo v.layout question given
  pub hand : (x : Event) (new : Machine) → IsAnswerTold by m n question given bins x new → HasInHand v f new

abbrev pub IsHeardLaw : {D : Type 0} → (D → List ℕ) → (D → List ℕ → Type 0) → Volume → Type 0
IsHeardLaw {D = D} text image v =
    (h more : List Event) (by : Actor) (m : Machine) (n cells : ℕ) (g : Geometry) (s : NodeState) (question : NodeAsk) (given : NodeAnswer) (handed bins : List ℕ) (before after : D)
    → IsTrueActor v (facts h) by m → IsMessage text image m n cells g s question given handed bins before after → IsImaged v (facts h) n s g (image before)
    → IsHeard image v (facts (more ++ h)) by m n g s question given bins after
