-- A node under its lock: what it is by the log, what a caller must have done, and what a call adds to the log.
use Rattle.std.specs.Prelude.{ℕ, ◌≡◌, IsTrue, List, ◌++◌, Option}
use Rattle.rz_events.specs.Volume.{Volume}
use Rattle.rz_events.specs.declared.keys.Actor.{Actor}
use Rattle.rz_events.specs.declared.keys.Actor.TheVariants.{Admin}
use Rattle.rz_events.specs.declared.nodes.NodeAsk.{NodeAsk}
use Rattle.rz_events.specs.declared.nodes.NodeAsk.TheVariants as ask
use Rattle.rz_events.specs.declared.nodes.NodeAnswer.{NodeAnswer}
use Rattle.rz_events.specs.declared.nodes.NodeAnswer.TheVariants as answer
use Rattle.rz_events.specs.declared.nodes.FetchAnswer.TheVariants as fetch
use Rattle.rz_events.specs.declared.nodes.Phase.TheVariants.{Down}
use Rattle.rz_events.specs.declared.events.Word.TheVariants.{Node}
use Rattle.rz_events.specs.declared.events.Event.{Event}
use Rattle.rz_node_model.specs.States.{NodeState}
use Rattle.rz_node_model.specs.Answers.{IsNodeAnswer}
use Rattle.rz_node.specs.View.{NodeView}
use Rattle.rz_core.specs.History.{Facts, facts, of_word, of_actor}
use Rattle.rz_core.specs.NodeRows.{cells_of}
use Rattle.rz_core.specs.NodeWord.{last_fence, losses, phase}
use Rattle.rz_core.specs.Tied.{IsNode, IsProperAsk, IsOpening}
use Rattle.rz_node_laws.specs.Records.{HandsRecord}
use Rattle.rz_node_laws.specs.Images.{AreImages, IsImaged, geometry_in}
use Rattle.rz_node_laws.specs.Laws.{IsReadBack}
use Rattle.rz_chronicle.specs.Keys.{IsLater, events_at, word_key}
use Rattle.rz_chronicle.specs.Kinds.{keeps_legal, volume_in}
use Rattle.rz_shared_locked.specs.Adding.{AddsEvent}

-- what contracts see of a locked node: its node's number, and the log in which its word moved last
pub record LockedNodeView : Type 0 where
  pub node : ℕ
  pub log : List Event

-- The node is the one that the log gives, and each image of its disk is one of its word.
pub record IsLogged {D : Type 0} (image : D → List ℕ → Type 0) (v : Volume) (h : List Event) (n : ℕ) (node : NodeView D) : Type 0 where
  pub tied : IsNode (facts h) (of_word (Node n) h) node.state
  pub imaged : IsImaged v (facts h) n node.state node.geometry (image node.disk)

-- The node is down after the log, which gives its fence and how many disks it lost.
pub record IsAwayByLog (h : List Event) (n fence lost : ℕ) : Type 0 where
  pub down : phase (of_word (Node n) h) ≡ Down
  pub fence_is : last_fence (of_word (Node n) h) ≡ fence
  pub losses_is : losses (of_word (Node n) h) ≡ lost

-- What a caller must have done before it calls node n, in the log that it has seen; a record that it hands in is that of its write.
pub record MayAsk (v : Volume) (h : List Event) (by : Actor) (n : ℕ) (question : NodeAsk) (bins : List ℕ) : Type 0 where
  pub proper : IsProperAsk v (facts h) (of_actor by h) by n question
  pub hands : HandsRecord v (facts h) n question bins

-- the administrator alone stops, starts and loses a node, and it does nothing else with one
abbrev pub IsAskerRight : Actor → NodeAsk → Type 0
IsAskerRight by ask.Stop = by ≡ Admin
IsAskerRight by ask.Start = by ≡ Admin
IsAskerRight by ask.Lose = by ≡ Admin
IsAskerRight by _ = ¬ (by ≡ Admin)

-- Behind the log of this run an earlier one stands, or none.

-- Each image of the disk of node n is one that its word gives, in each log from this one on that has no further event of it.
abbrev pub AreImagesFrom : Volume → List Event → List Event → ℕ → (List ℕ → Type 0) → Type 0
AreImagesFrom v earlier h n image = (new : List Event) → IsLater h new → events_at (word_key (Node n)) new ≡ events_at (word_key (Node n)) h
    → AreImages v (facts (new ++ earlier)) (of_word (Node n) (new ++ earlier)) n (geometry_in v n) image

-- Some node answers so; in a book that keeps its log legal it is the one that the log gives, and its disk did not refuse to open but
-- for a disk fault.
pub record IsAnswerAt (kind : List ℕ) (earlier h : List Event) (n : ℕ) (question : NodeAsk) (given : NodeAnswer) : Type 0 where
  pub state : NodeState
  pub is : IsNodeAnswer (cells_of (volume_in kind) n) state question given
  pub tied : IsTrue (keeps_legal kind) → IsNode (facts (h ++ earlier)) (of_word (Node n) (h ++ earlier)) state
  pub opening : IsTrue (keeps_legal kind) → IsOpening given

-- What a call did to the log that its pass has seen: its event, if it has one, stands on top of a log after which the
-- answer is right.
pub record Answered (kind : List ℕ) (earlier : List Event) (n : ℕ) (question : NodeAsk) (given : NodeAnswer) (event : Option Event) (ks : List ℕ) (old new : List Event) : Type 0 where
  pub adds : AddsEvent ks old event new
  pub right : IsAnswerAt kind earlier adds.before n question given

-- a record that was fetched is that of its write, with its bins
abbrev pub IsTrueRecord : Volume → Facts → ℕ → NodeAsk → NodeAnswer → List ℕ → List ℕ → Type 0
IsTrueRecord v f n (ask.Fetch key position stamp) (answer.Fetch (fetch.Held told)) bins bins' = IsReadBack v f n key told bins bins'
IsTrueRecord v f n question given bins bins' = Unit {0}
