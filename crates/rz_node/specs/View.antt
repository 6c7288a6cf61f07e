-- What contracts see of a node, and how it is kept.
use Rattle.std.specs.Prelude.{ℕ, ◌≡◌, ◌≢◌, Bool, List, Option, None, refl}
use Rattle.std.specs.Coded.{Coded, code_by, coded×}
use Rattle.std.specs.FinMap as maps
use Rattle.rz_events.specs.Keys.{key_cmp}
use Rattle.rz_events.specs.declared.nodes.Phase.{Phase}
use Rattle.rz_events.specs.declared.nodes.Phase.TheVariants.{Up, Down, Lost}
use Rattle.rz_events.specs.declared.records.Head.{Head}
use Rattle.rz_node_model.specs.declared.pending.Pending.{Pending}
use Rattle.rz_node_model.specs.Records.{Records}
use Rattle.rz_node_model.specs.States.{NodeState, node_code}
use Rattle.rz_index.specs.declared.index.Entry.{Entry}
use Rattle.rz_index.specs.Indexed.{Indexed}
use Rattle.rz_cells_slots.specs.declared.geometry.Geometry.{Geometry}
use Rattle.rz_cells_slots.specs.contracts.geometry.Geometry as geometries
use Rattle.rz_cells_slots.specs.Open.{IsOpen}
use Rattle.rz_node.specs.Kept.{held_by, IsTied}
use Rattle.rz_node.specs.DownDisk.{IsDown}

-- a node: its disk, how that is laid out, and its state
pub record NodeView (D : Type 0) : Type 0 where
  pub disk : D
  pub geometry : Geometry
  pub state : NodeState

-- a node that lost so many disks and has no new one yet: it holds nothing, and its fence is still that of its last replacement
abbrev pub lost : ℕ → ℕ → NodeState
lost fence losses = record { phase = Lost; fence = fence; losses = losses; held = maps.empty; undecided = None }

abbrev pub view_code : {D : Type 0} → Coded D → Coded (NodeView D)
view_code {D = D} disk =
    code_by (D × (Geometry × NodeState)) (coded× disk (coded× geometries.the_row.coded node_code))
    (λ v. (v.disk, (v.geometry, v.state))) (λ p. record { disk = p.0; geometry = p.1.0; state = p.1.1 }) (λ _. refl)

-- what is held: a lost node holds nothing
abbrev pub held_in : Phase → maps.FinMap key_cmp Entry → List (Option Head) → Records
held_in Up entries heads = held_by entries heads
held_in Down entries heads = held_by entries heads
held_in Lost entries heads = maps.empty

abbrev pub state_of : Phase → ℕ → Option Pending → ℕ → maps.FinMap key_cmp Entry → List (Option Head) → NodeState
state_of phase losses undecided fence entries heads =
    record { phase = phase; fence = fence; losses = losses; held = held_in phase entries heads; undecided = undecided }

-- The cells of an up node are open. Of a down node's disk it is known what a start may find, and of a lost one nothing.
abbrev pub IsReady : Phase → Type 0 → Type 0 → Type 0
IsReady Up is_open is_down = is_open
IsReady Down is_open is_down = is_down
IsReady Lost is_open is_down = Unit {0}

-- The index is of the cells' heads, only a down node has an undecided change, and the disk is as the phase says.
pub record StandsAsNode (tells : Bool) (text : List ℕ) (image : List ℕ → Type 0) (phase : Phase) (undecided : Option Pending) (g : Geometry) (fence : ℕ) (gates : List ℕ) (heads : List (Option Head)) (index : Indexed) : Type 0 where
  pub tied : IsTied g.cells heads index
  pub decided : phase ≢ Down → undecided ≡ None
  pub ready : IsReady phase (IsOpen tells text image g fence gates heads) (IsDown tells image g fence undecided (held_by index.entries heads))
