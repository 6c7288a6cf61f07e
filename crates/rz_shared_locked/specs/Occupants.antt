-- Who stands behind the lock of a node: the node on its disk, or what is known of one whose disk is away.
use Rattle.std.specs.Prelude.{ℕ, ◌≡◌, ◌≢◌, Bool, IsTrue, List, Option, Some, None}
use Rattle.rz_disk.specs.Meter.{Meter}
use Rattle.rz_events.specs.declared.nodes.Phase.TheVariants.{Up}
use Rattle.rz_events.specs.declared.events.Word.TheVariants.{Node}
use Rattle.rz_events.specs.declared.events.Event.{Event}
use Rattle.rz_events.specs.Volume.{Volume}
use Rattle.rz_cells_slots.specs.declared.geometry.Geometry.{Geometry}
use Rattle.rz_node_model.specs.States.{NodeState}
use Rattle.rz_core.specs.History.{Facts, facts, of_word}
use Rattle.rz_core.specs.Tied.{IsNode}
use Rattle.rz_node_laws.specs.Images.{IsImaged}
use Rattle.rz_chronicle.specs.Kinds.{keeps_legal, volume_in}
use Rattle.rz_shared_locked.specs.declared.away.Away.{Away as Absent}
use Rattle.rz_shared_locked.specs.declared.occupant.Occupant.{Occupant}
use Rattle.rz_shared_locked.specs.declared.occupant.Occupant.TheVariants.{Here, Away}
use Rattle.rz_shared_locked.specs.Counts.{GoesWith}

-- A node without its disk is not up. What is known of it is its phase, its fence and how many disks it lost.
pub record IsAway (s : NodeState) (a : Absent) : Type 0 where
  pub low : s.phase ≢ Up
  pub phase_is : s.phase ≡ a.phase
  pub fence_is : s.fence ≡ a.fence
  pub losses_is : s.losses ≡ a.losses

-- who stands there is in this state
abbrev pub IsIn : {D : Type 0} → Occupant D → NodeState → Type 0
IsIn (Here node) s = node.state ≡ s
IsIn (Away a) s = IsAway s a

abbrev pub disk_of : {D : Type 0} → Occupant D → Option D
disk_of (Here node) = Some node.disk
disk_of (Away a) = None

-- its disk, if it is here, is laid out so
abbrev pub IsLaidOut : {D : Type 0} → Geometry → Occupant D → Type 0
IsLaidOut g (Here node) = node.geometry ≡ g
IsLaidOut g (Away a) = Unit {0}

-- each image of its disk, if it is here, stands for the node's records
abbrev pub AreImaged : {D : Type 0} → (D → List ℕ → Type 0) → Volume → Facts → ℕ → Occupant D → Type 0
AreImaged image v f n (Here node) = IsImaged v f n node.state node.geometry (image node.disk)
AreImaged image v f n (Away a) = Unit {0}

-- its disk is here, and its count of faults goes with the node's word
abbrev pub CountsHere : {D : Type 0} → (D → Meter) → ℕ → List Event → Occupant D → Type 0
CountsHere meter first w (Here node) = GoesWith meter first w node
CountsHere meter first w (Away a) = ⊥

-- Who stands there is in the state that the log gives, and each image of its disk is one of its word. The log is a whole one, with
-- the earlier log behind the events of this run.
pub record IsBehindLock {D : Type 0} (tells : Bool) (image : D → List ℕ → Type 0) (kind : List ℕ) (h : List Event) (n : ℕ) (who : Occupant D) : Type 0 where
  pub state : NodeState
  pub is_in : IsIn who state
  pub tied : IsTrue (keeps_legal kind) → IsNode (facts h) (of_word (Node n) h) state
  pub imaged : IsTrue (keeps_legal kind) → IsTrue tells × AreImaged image (volume_in kind) (facts h) n who
