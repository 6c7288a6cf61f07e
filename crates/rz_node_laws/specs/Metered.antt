-- The events of a node's word, the newest first, beside the meter of its disk.
use Rattle.std.specs.Prelude.{ℕ, ◌≡◌, ◌⊎◌, ◌+◌, ◌-◌, ◌^◌, ◌<◌, ◌≤◌, List, [], ◌∷◌, Some, None}
use Rattle.rz_disk.specs.Meter.{Meter, armed}
use Rattle.rz_events.specs.declared.keys.Actor.{Actor}
use Rattle.rz_events.specs.declared.nodes.Phase.{Phase}
use Rattle.rz_events.specs.declared.nodes.Phase.TheVariants.{Up}
use Rattle.rz_events.specs.declared.nodes.NodeAsk.{NodeAsk}
use Rattle.rz_events.specs.declared.nodes.NodeAnswer.{NodeAnswer}
use Rattle.rz_events.specs.declared.nodes.StartAnswer.{StartAnswer}
use Rattle.rz_events.specs.declared.nodes.StartAnswer.TheVariants as start
use Rattle.rz_events.specs.declared.events.Event.{Event}
use Rattle.rz_events.specs.declared.events.Event.TheVariants as e
use Rattle.rz_node_model.specs.States.{NodeState}
use Rattle.rz_node_model.specs.Answers.{IsNodeAnswer}
use Rattle.rz_node_model.specs.Afterwards.{after_answer, after_start}
use Rattle.rz_node_model.specs.NodeEvents.{node_event, start_event}
use Rattle.rz_node.specs.Opens.{Opens}
use Rattle.rz_node.specs.Calls.{CountsCall, IsNoStart}
use Rattle.rz_play.specs.Faults.{fuse_of, unplanned, slips, AreFaultsCounted}
use Rattle.rz_play.specs.Lines.{noted}

-- a disk that counted this many faults at first, beside those that its fuse planned; the word since then; and the phase
-- of its node. The disk has at least the passes that the word leaves it. As long as it counted no fault it has no more, or
-- it has too few for a change and the node is not up.
pub record IsMetered (first : ℕ) (w : List Event) (phase : Phase) (m : Meter) : Type 0 where
  pub few : first + unplanned w ≤ m.own
  pub unarmed : fuse_of w ≡ None → m.fuse ≡ None
  pub least : (left : ℕ) → fuse_of w ≡ Some left → (l : ℕ) × (m.fuse ≡ Some l) × (left ≤ l)
  pub most : m.own ≡ first → (left l : ℕ) → fuse_of w ≡ Some left → m.fuse ≡ Some l → (l ≤ left) ⊎ ((phase ≡ Up → ⊥) × (l < 4))
  pub effect : m.own ≡ first → slips w ≡ 0

-- A node is disarmed before a start, of which another law tells. A count of faults is taken to stay below the last value of a u64.
abbrev pub IsFaultLaw : Type 0
IsFaultLaw =
    (first k cells : ℕ) (w : List Event) (s : NodeState) (by : Actor) (n : ℕ) (question : NodeAsk) (given : NodeAnswer) (old new : Meter)
    → new.own < 2 ^ 64 - 1 → IsNoStart question → IsNodeAnswer cells s question given → CountsCall k given old new
    → IsMetered first w s.phase old → IsMetered first (noted (node_event by n question given) w) (after_answer question given s).phase new

abbrev pub IsArmLaw : Type 0
IsArmLaw =
    (first n k pick : ℕ) (w : List Event) (phase : Phase) (m : Meter)
    → IsMetered first w phase m → IsMetered first (e.Armed n k pick ∷ w) phase (armed (Some k) m)

-- the node was opened, or its disk refused
abbrev pub IsOpening : StartAnswer → Type 0
IsOpening (start.Started took) = Unit {0}
IsOpening (start.Unopened cause) = Unit {0}
IsOpening given = ⊥

abbrev pub IsStartLaw : Type 0
IsStartLaw =
    (first n k : ℕ) (w : List Event) (s : NodeState) (given : StartAnswer) (old new : Meter)
    → new.own < 2 ^ 64 - 1 → IsOpening given → Opens k given (armed None old) new
    → IsMetered first w s.phase old → IsMetered first (noted (start_event n given) w) (after_start given s).phase new

abbrev pub IsUnarmedLaw : Type 0
IsUnarmedLaw = (phase : Phase) (m : Meter) → m.fuse ≡ None → IsMetered m.own [] phase m

abbrev pub IsCounted : Type 0
IsCounted = (first : ℕ) (w : List Event) (phase : Phase) (m : Meter) → IsMetered first w phase m → AreFaultsCounted w (m.own - first)
