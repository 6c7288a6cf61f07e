-- What the disk of a node counted, beside the events of the node's word.
use Rattle.std.specs.Prelude.{ℕ, ◌≤◌, ◌<◌, ◌-◌, ◌^◌, List, Option}
use Rattle.rz_disk.specs.Meter.{Meter, armed}
use Rattle.rz_events.specs.declared.nodes.StartAnswer.{StartAnswer}
use Rattle.rz_events.specs.declared.nodes.StartAnswer.TheVariants as start
use Rattle.rz_events.specs.declared.events.Event.{Event}
use Rattle.rz_node.specs.View.{NodeView}
use Rattle.rz_play.specs.Faults.{AreFaultsCounted}
use Rattle.rz_node_laws.specs.Metered.{IsMetered}

-- a count below the last value of a u64 has counted each fault
abbrev pub IsExact : ℕ → Type 0
IsExact count = count < 2 ^ 64 - 1

-- The count of a node's disk did not fall since it was `first`, and the node's word goes with the disk's meter.
pub record GoesWith {D : Type 0} (meter : D → Meter) (first : ℕ) (w : List Event) (node : NodeView D) : Type 0 where
  pub rose : first ≤ (meter node.disk).own
  pub metered : IsExact (meter node.disk).own → IsMetered first w node.state.phase (meter node.disk)

-- A count did not fall since it was `first`, and its rise counts the faults of a word.
pub record AreCountedSince (first count : ℕ) (w : List Event) : Type 0 where
  pub rose : first ≤ count
  pub counted : IsExact count → AreFaultsCounted w (count - first)

-- A start that wanted memory leaves the disk armed as the node's word says: it has no event.
abbrev pub rearmed : StartAnswer → Option ℕ → Meter → Meter
rearmed start.NoMemory left m = armed left m
rearmed given left m = m
