-- Nodes that were opened on the disks that earlier runs left.
use Rattle.std.specs.Prelude.{ℕ, ◌≡◌, ◌≤◌, Bool, true, IsTrue, List, None}
use Rattle.rz_disk.specs.Images.{Only}
use Rattle.rz_disk.specs.Meter.{Meter, faults}
use Rattle.rz_disk.specs.UnderFuse.{UnderFuse}
use Rattle.rz_events.specs.Volume.{Volume}
use Rattle.rz_events.specs.declared.files.NodeSpec.{NodeSpec}
use Rattle.rz_events.specs.declared.events.Word.TheVariants.{Node}
use Rattle.rz_events.specs.declared.events.Event.{Event}
use Rattle.rz_node_model.specs.States.{NodeState}
use Rattle.rz_export_model.specs.Export.{Export as ExportState}
use Rattle.rz_core.specs.NodeRows.{cells_of, IsNodeOf}
use Rattle.rz_node_laws.specs.Images.{geometry_in}
use Rattle.rz_chronicle.specs.Kinds.{volume_in}
use Rattle.rz_chronicle.specs.Dealing.{new_word_token}
use Rattle.rz_nodes.specs.declared.formatting.Server.{Server}
use Rattle.rz_nodes.specs.Opened.{IsNodeOpened}
use Rattle.rz_restart_laws.specs.Found.{IsNodeFound, StandsByLog}
use Rattle.rz_restart_laws.specs.Returns.{AreBack}
use Rattle.rz_shared.specs.Seating.{IsNodeReady}

-- A node of the volume was opened on a disk which a log left, and that disk is not armed. Its count of faults did not fall since it was
-- `first` of that node.
pub record IsOpenedAfter {D : Type 0} (meter : D → Meter) (text : D → List ℕ) (image : D → List ℕ → Type 0) (v : Volume) (h : List Event) (first : ℕ → ℕ) (s : Server (UnderFuse D)) : Type 0 where
  pub of_volume : IsNodeOf v s.sid
  pub geometry : s.node.geometry ≡ geometry_in v s.sid
  pub found : IsNodeFound v h s.sid (text s.node.disk.disk) s.node.state
  pub settled : Only (text s.node.disk.disk) (image s.node.disk.disk)
  pub unarmed : s.node.disk.fuse ≡ None
  pub count : first s.sid ≤ faults (meter s.node.disk.disk)

-- It is ready for its lock, in a book that goes on after this log with all nodes stopped and those started whose disks are here.
abbrev pub IsReadyLaw : {D : Type 0} → Bool → (D → Meter) → (D → List ℕ) → (D → List ℕ → Type 0) → Type 0
IsReadyLaw {D = D} tells meter text image = (kind : List ℕ) (here : ℕ → Bool) (h old : List Event) (export : ExportState) (nodes : ℕ → NodeState) (first : ℕ → ℕ) (s : Server (UnderFuse D))
    → IsTrue tells → IsOpenedAfter meter text image (volume_in kind) h first s → AreBack (volume_in kind) here h export nodes old
    → here s.sid ≡ true → nodes s.sid ≡ s.node.state
    → IsNodeReady tells meter image kind old first s (new_word_token (Node s.sid))

-- So is a node that was opened on a disk whose text stands for what the log says of it.
abbrev pub IsOpenedLaw : {D : Type 0} → Bool → (D → Meter) → (D → List ℕ) → (D → List ℕ → Type 0) → Type 0
IsOpenedLaw {D = D} tells meter text image = (v : Volume) (h : List Event) (first : ℕ → ℕ) (spec : NodeSpec) (losses : ℕ) (disk : D) (s : Server (UnderFuse D))
    → IsTrue tells → IsNodeOpened tells meter text image v.layout ((spec, losses), disk) s
    → IsNodeOf v spec.sid → cells_of v spec.sid ≡ spec.cells → StandsByLog v h spec.sid (text disk) → first spec.sid ≤ faults (meter disk)
    → IsOpenedAfter meter text image v h first s
