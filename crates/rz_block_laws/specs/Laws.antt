-- What an operation has in hand stays true, and what it hands to a node is the record of its write. The own events of an
-- actor say how far its operation has come.
use Rattle.std.specs.Prelude.{ℕ, Bool, true, ◌≡◌, ◌≢◌, List, ◌∷◌, Some}
use Rattle.rz_events.specs.Volume.{Volume}
use Rattle.rz_events.specs.declared.keys.Key.{Key}
use Rattle.rz_events.specs.declared.keys.Actor.{Actor}
use Rattle.rz_events.specs.declared.records.Held.{Held}
use Rattle.rz_events.specs.declared.ends.ReadMark.TheVariants as mark
use Rattle.rz_events.specs.declared.ends.LeftWhy.TheVariants as left
use Rattle.rz_events.specs.declared.export.Call.{Call}
use Rattle.rz_events.specs.declared.export.Reply.{Reply}
use Rattle.rz_events.specs.declared.nodes.FetchAnswer.{FetchAnswer}
use Rattle.rz_events.specs.declared.nodes.FetchAnswer.TheVariants as fetch
use Rattle.rz_events.specs.declared.nodes.NodeAsk.{NodeAsk}
use Rattle.rz_events.specs.declared.nodes.NodeAsk.TheVariants as ask
use Rattle.rz_events.specs.declared.nodes.NodeAnswer.{NodeAnswer}
use Rattle.rz_events.specs.declared.nodes.NodeAnswer.TheVariants as answer
use Rattle.rz_events.specs.declared.events.Event.{Event}
use Rattle.rz_events.specs.declared.operations.Operation.{Operation}
use Rattle.rz_export_model.specs.ExportEvents.{export_event}
use Rattle.rz_node_model.specs.Answers.{IsNodeAnswer}
use Rattle.rz_node_model.specs.Afterwards.{after_answer}
use Rattle.rz_node_model.specs.NodeEvents.{node_event}
use Rattle.rz_node_model.specs.States.{NodeState}
use Rattle.rz_cells_slots.specs.declared.geometry.Geometry.{Geometry}
use Rattle.rz_node.specs.Leaves.{LeavesDisk}
use Rattle.rz_node.specs.Fetched.{IfHeld}
use Rattle.rz_operation_model.specs.Ask.{AskNode, Say, SayGot, SayLeft, ask_of}
use Rattle.rz_operation_model.specs.Steps.{Told, Answered, begun, told}
use Rattle.rz_operation_model.specs.Turns.{IsStep}
use Rattle.rz_operation.specs.Answers.{IsWorkAfter, IsAnswer, IsReplyTo, FitsIfEnough}
use Rattle.rz_operation.specs.Machine.{Machine, HasBinsFor, AreBinsFor}
use Rattle.rz_core.specs.History.{Facts, IsPlace}
use Rattle.rz_core.specs.Legal.{IsLegalInRuns}
use Rattle.rz_play_laws.specs.Own.{GrowsTo, IsOfActor, IsOwnOf, HasOwnEvents}
use Rattle.rz_node_laws.specs.Images.{IsImaged}
use Rattle.rz_node_laws.specs.Records.{HandsRecord}
use Rattle.rz_node_laws.specs.Laws.{IsReadBack}
use Rattle.rz_block_laws.specs.InHand.{IsInHand}

-- a machine of the volume's layout, of which its actor's own events say how far it has come, with what is true in hand
pub record IsTrueTo (v : Volume) (f : Facts) (o run : List Event) (by : Actor) (m : Machine) : Type 0 where
  pub layout_is : m.layout ≡ v.layout
  pub own : IsOwnOf v f o run by m.work
  pub hand : IsInHand v.layout f m.work m.pairs m.block

-- what it hands to a node is the record of its write
abbrev pub IsHandingLaw : Volume → Type 0
IsHandingLaw v = (f : Facts) (o run : List Event) (by : Actor) (m : Machine) (n : ℕ) (question : NodeAsk) (bins : List ℕ)
    → IsTrueTo v f o run by m → ask_of m.layout m.work ≡ AskNode n question → (HasBinsFor question → AreBinsFor m question bins)
    → HandsRecord v f n question bins

-- no record of a node
abbrev pub IsNoFetch : Told → Type 0
IsNoFetch (Answered fits (answer.Fetch a)) = ⊥
IsNoFetch t = Unit {0}

-- It was told of a fetch from the node of the position, and where a record came that is the one of its write: it goes on as
-- where the records fit.
abbrev pub IsFetchedLaw : Volume → Type 0
IsFetchedLaw v =
    (f : Facts) (o run : List Event) (by : Actor) (m new : Machine) (n : ℕ) (key : Key) (position stamp : ℕ) (a : FetchAnswer) (before bins : List ℕ)
    → IsTrueTo v f o run by m → ask_of m.layout m.work ≡ AskNode n (ask.Fetch key position stamp) → IsPlace f key.fid position n
    → IfHeld a (λ r. (r.stamp ≡ stamp) × IsReadBack v f n key r before bins)
    → FitsIfEnough m (answer.Fetch a) bins new
    → (new.work ≡ told m.layout m.work (Answered true (answer.Fetch a))) × IsInHand v.layout f new.work new.pairs new.block

-- it was told anything else
abbrev pub IsGoingLaw : Volume → Type 0
IsGoingLaw v = (f : Facts) (o run : List Event) (by : Actor) (number : ℕ) (m new : Machine) (t : Told) (xs : List Event)
    → IsTrueTo v f o run by m → IsStep by number (ask_of m.layout m.work) t xs → IsNoFetch t → IsWorkAfter m m.pairs t new
    → IsInHand v.layout f new.work new.pairs new.block

-- the log grew
abbrev pub IsGrowingLaw : Volume → Type 0
IsGrowingLaw v = (f g : Facts) → GrowsTo f g → (m : Machine) → IsInHand v.layout f m.work m.pairs m.block → IsInHand v.layout g m.work m.pairs m.block

-- it begins
abbrev pub IsBeginningLaw : Volume → Type 0
IsBeginningLaw v = (f : Facts) (op : Operation) (m : Machine) → m.work ≡ begun op → IsInHand v.layout f m.work m.pairs m.block

-- It never says that the records which came fit no block.
abbrev pub IsFittingLaw : Volume → Type 0
IsFittingLaw v = (f : Facts) (m : Machine) → IsInHand v.layout f m.work m.pairs m.block → (key : Key)
    → ((part : Bool) → ask_of m.layout m.work ≢ Say (SayGot key part mark.Inconsistent)) × (ask_of m.layout m.work ≢ Say (SayLeft key left.Inconsistent))

-- A node's answer belongs to what was asked of it, where each record that it gives is that of its write.
abbrev pub IsTakenLaw : Volume → Type 0
IsTakenLaw v = (f : Facts) (m : Machine) (n cells : ℕ) (s : NodeState) (question : NodeAsk) (given : NodeAnswer) (before bins : List ℕ)
    → m.layout ≡ v.layout → ask_of m.layout m.work ≡ AskNode n question → IsOfActor question → IsNodeAnswer cells s question given
    → ((r : Held) → given ≡ answer.Fetch (fetch.Held r) → (key : Key) × IsReadBack v f n key r before bins)
    → IsAnswer m.layout (ask_of m.layout m.work) given

-- A reply of the export belongs to the call where its event stands in a legal log.
abbrev pub IsRepliedLaw : Volume → Type 0
IsRepliedLaw v = (h : List Event) (by : Actor) (c : Call) (r : Reply) (x : Event) → IsLegalInRuns v (x ∷ h) → export_event by c r ≡ Some x
    → IsReplyTo v.layout c r

-- A message to node n, with its disk before and after it: the bins are those that were handed to it, and those that came
-- back.
pub record IsMessage {D : Type 0} (text : D → List ℕ) (image : D → List ℕ → Type 0) (m : Machine) (n : ℕ) (cells : ℕ) (g : Geometry) (s : NodeState) (question : NodeAsk) (given : NodeAnswer) (handed bins : List ℕ) (before after : D) : Type 0 where
  pub asked : ask_of m.layout m.work ≡ AskNode n question
  pub handed_are : HasBinsFor question → AreBinsFor m question handed
  pub given_is : IsNodeAnswer cells s question given
  pub leaves : LeavesDisk g s question given handed bins (text before) (text after) (image before) (image after)

-- The machine was told the answer, which has this event.
pub record IsAnswerTold (by : Actor) (m : Machine) (n : ℕ) (question : NodeAsk) (given : NodeAnswer) (bins : List ℕ) (x : Event) (new : Machine) : Type 0 where
  pub event : node_event by n question given ≡ Some x
  pub answered : FitsIfEnough m given bins new

-- What comes of a message: the images of the disk are the node's again, and where the machine was told the answer, it goes on
-- as the model says and what it has in hand is true again.
abbrev pub IsMessageLaw : {D : Type 0} → (D → List ℕ) → (D → List ℕ → Type 0) → Volume → Type 0
IsMessageLaw {D = D} text image v =
    (f : Facts) (o run : List Event) (by : Actor) (number : ℕ) (m : Machine) (n cells : ℕ) (g : Geometry) (s : NodeState) (question : NodeAsk) (given : NodeAnswer) (handed bins : List ℕ) (before after : D)
    → IsTrueTo v f o run by m → HasOwnEvents v by number run m.work
    → IsMessage text image m n cells g s question given handed bins before after → IsImaged v f n s g (image before)
    → IsImaged v f n (after_answer question given s) g (image after)
    × ((x : Event) (new : Machine) → IsAnswerTold by m n question given bins x new
    → (new.work ≡ told m.layout m.work (Answered true given)) × IsInHand v.layout f new.work new.pairs new.block)
