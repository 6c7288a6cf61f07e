-- What there is to be scrubbed, and what asking a node for a record makes of it.
use Rattle.std.specs.Prelude.{ℕ, ◌==◌, ◌≡◌, cond, List, ◌∷◌, ◌++◌}
use Rattle.std.specs.List.{AllByRecursion}
use Rattle.rz_events.specs.Volume.{Volume}
use Rattle.rz_events.specs.declared.keys.Key.{Key}
use Rattle.rz_events.specs.declared.keys.Actor.TheVariants.{Admin}
use Rattle.rz_events.specs.declared.records.Held.{Held}
use Rattle.rz_events.specs.declared.nodes.FetchAnswer.{FetchAnswer}
use Rattle.rz_events.specs.declared.nodes.FetchAnswer.TheVariants as fetch
use Rattle.rz_events.specs.declared.nodes.NodeAsk.TheVariants as ask
use Rattle.rz_events.specs.declared.nodes.NodeAnswer.TheVariants as answer
use Rattle.rz_events.specs.declared.events.Event.{Event}
use Rattle.rz_node_model.specs.States.{NodeState}
use Rattle.rz_node_model.specs.Answers.{IsFetchAnswer, fetch_answer}
use Rattle.rz_node_model.specs.Afterwards.{after_answer}
use Rattle.rz_node_model.specs.NodeEvents.{fetch_event}
use Rattle.rz_export_model.specs.Export.{Export}

-- the export, the nodes by their numbers, and the events, the newest first
pub record State : Type 0 where
  pub export : Export
  pub nodes : ℕ → NodeState
  pub events : List Event

-- A node was asked for its record of a key with this stamp: it answers as its model says, or with a disk fault in the place of a
-- record.
pub record IsAnsweredFetch (n : ℕ) (key : Key) (position stamp : ℕ) (given : FetchAnswer) (w next : State) : Type 0 where
  pub given_is : IsFetchAnswer (fetch_answer (w.nodes n) key stamp) given
  pub export : next.export ≡ w.export
  pub nodes : next.nodes ≡ (λ m. cond (m == n) (after_answer (ask.Fetch key position stamp) (answer.Fetch given) (w.nodes n)) (w.nodes m))
  pub events : next.events ≡ fetch_event Admin n key position stamp given ∷ w.events

-- where a record is told, what is read of it lies in the room
abbrev pub AreBinsRead : (Held → List ℕ → List ℕ → Type 0) → FetchAnswer → List ℕ → List ℕ → Type 0
AreBinsRead reads (fetch.Held told) old room = reads told old room
AreBinsRead reads _ old room = Unit {0}

-- these are events of the administrator's asks for records
abbrev pub AreAsks : List Event → Type 0
AreAsks later =
    AllByRecursion (λ x. (n : ℕ) × (key : Key) × (position : ℕ) × (stamp : ℕ) × (given : FetchAnswer) × (x ≡ fetch_event Admin n key position stamp given)) later

-- A store of which records were asked, by these events: it can be asked again, its disks give no other records than before, and what
-- was so of its disks beside any events is so with the asks after them.
pub record IsOnlyAsked {S : Type 0} (is_open : S → Type 0) (described : S → Volume) (gives : S → ℕ → Key → Held → List ℕ → List ℕ → Type 0)
    (state : S → List Event → State) (counts : S → List Event → (ℕ → ℕ) → Type 0) (only_asked : S → S → Type 0) (old new : S) (later : List Event) : Type 0 where
  pub ready : is_open new
  pub described_is : described new ≡ described old
  pub given : (n : ℕ) (key : Key) (told : Held) (before room : List ℕ) → gives new n key told before room → gives old n key told before room
  pub export_is : (h : List Event) → (state new h).export ≡ (state old h).export
  pub counted : (h : List Event) (first : ℕ → ℕ) → counts old h first → counts new (later ++ h) first
  pub asked : only_asked old new

-- and this was told of its state, whatever events there were before
pub record HasAsked {S : Type 0} (is_open : S → Type 0) (described : S → Volume) (gives : S → ℕ → Key → Held → List ℕ → List ℕ → Type 0)
    (state : S → List Event → State) (counts : S → List Event → (ℕ → ℕ) → Type 0) (only_asked : S → S → Type 0) (old new : S) (Tells : State → State → Type 0)
    : Type 0 where
  pub later : List Event
  pub asks : AreAsks later
  pub onward : IsOnlyAsked is_open described gives state counts only_asked old new later
  pub told : (h : List Event) → Tells (state old h) (state new (later ++ h))
