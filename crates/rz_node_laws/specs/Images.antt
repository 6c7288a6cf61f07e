-- The images of a node's disk, beside the log.
use Rattle.std.specs.Prelude.{ℕ, ◌≡◌, ◌≢◌, ◌⊎◌, List, None}
use Rattle.mj_angles.specs.Layout.{bsize_of}
use Rattle.rz_events.specs.Volume.{Volume}
use Rattle.rz_events.specs.declared.nodes.Phase.TheVariants.{Down, Lost}
use Rattle.rz_events.specs.declared.events.Event.{Event}
use Rattle.rz_node_model.specs.Afterwards.{taken}
use Rattle.rz_node_model.specs.States.{NodeState}
use Rattle.rz_cells_slots.specs.declared.geometry.Geometry.{Geometry}
use Rattle.rz_cells_slots.specs.Stands.{StandsFor}
use Rattle.rz_node.specs.Change.{AreHeld}
use Rattle.rz_core.specs.History.{Facts}
use Rattle.rz_core.specs.NodeRows.{cells_of}
use Rattle.rz_core.specs.NodeWord.{phase, last_fence}
use Rattle.rz_core.specs.HeldRecords.{held_records, settled_records}
use Rattle.rz_node_laws.specs.Records.{on_disk, records_in}

-- how the disk of a volume's node is laid out
abbrev pub geometry_in : Volume → ℕ → Geometry
geometry_in v n = record { layout = v.layout; bsize = bsize_of v.layout; node = n; cells = cells_of v n }

-- Each image of the disk of node n, where that is not lost, stands for its fence and the records that it holds by the
-- events of its word; where a change is undecided, for these or for those with the change.
abbrev pub AreImages : Volume → Facts → List Event → ℕ → Geometry → (List ℕ → Type 0) → Type 0
AreImages v f w n g image = phase w ≢ Lost → (c : List ℕ) → image c
    → StandsFor g (last_fence w) c (λ key stamp. on_disk (held_records v f w n key stamp))
    ⊎ StandsFor g (last_fence w) c (λ key stamp. on_disk (settled_records v f w n key stamp))

-- The same by the state of the node, with what makes it last: only a down node has an undecided change, and of each stamp
-- that is held, with that change or without, the facts have the write.
pub record IsImaged (v : Volume) (f : Facts) (n : ℕ) (s : NodeState) (g : Geometry) (image : List ℕ → Type 0) : Type 0 where
  pub decided : s.phase ≢ Down → s.undecided ≡ None
  pub held : AreHeld s.held (records_in v f n s.held)
  pub pending : AreHeld (taken s.undecided s.held) (records_in v f n (taken s.undecided s.held))
  pub each : s.phase ≢ Lost → (c : List ℕ) → image c
      → StandsFor g s.fence c (records_in v f n s.held) ⊎ StandsFor g s.fence c (records_in v f n (taken s.undecided s.held))
