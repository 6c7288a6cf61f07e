-- What becomes of disks that are opened again for the nodes of a volume.
use Rattle.std.specs.Prelude.{ℕ, ◌≡◌, ◌≢◌, ◌≤◌, ◌⊎◌, Bool, IsTrue, List, length, take, None, Some, slice_get}
use Rattle.std.specs.List.{AllZip, zip}
use Rattle.mj_angles.specs.declared.layout.Layout.{Layout}
use Rattle.rz_disk.specs.Images.{Only, Within}
use Rattle.rz_disk.specs.Meter.{Meter, Rises, faults}
use Rattle.rz_disk.specs.UnderFuse.{UnderFuse}
use Rattle.rz_events.specs.Nodes.{number_of}
use Rattle.rz_events.specs.declared.files.NodeSpec.{NodeSpec}
use Rattle.rz_events.specs.declared.nodes.OpenFault.{OpenFault}
use Rattle.rz_events.specs.declared.nodes.OpenFault.TheVariants as fault
use Rattle.rz_cells_slots.specs.Held.{Records}
use Rattle.rz_cells_slots.specs.Opening.{NotSize, Refuses}
use Rattle.rz_cells_slots.specs.Shape.{disk_bytes}
use Rattle.rz_cells_slots.specs.Stands.{StandsFor}
use Rattle.rz_node_model.specs.States.{opened}
use Rattle.rz_node.specs.HeldOnDisk.{IsHeldOnDisk}
use Rattle.rz_nodes.specs.declared.formatting.Server.{Server}
use Rattle.rz_nodes.specs.Formatted.{disks_of, geometry_of}
use Rattle.rz_nodes.specs.declared.refusal.OpenRefusal.{OpenRefusal}
use Rattle.rz_nodes.specs.declared.refusal.OpenRefusal.TheVariants as refusal

-- A disk was opened for a node that lost so many disks: what the node holds is what the disk's text stands for. The disk has the
-- text that it came with, which has the right size, and that text is its one image. It is not armed, and its count of faults did not
-- fall.
pub record IsNodeOpened {D : Type 0} (tells : Bool) (meter : D → Meter) (text : D → List ℕ) (image : D → List ℕ → Type 0) (layout : Layout) (handed : (NodeSpec × ℕ) × D) (s : Server (UnderFuse D)) : Type 0 where
  pub number : s.sid ≡ handed.0.0.sid
  pub geometry : s.node.geometry ≡ geometry_of layout handed.0.0
  pub state : s.node.state ≡ opened handed.0.1 s.node.state.fence s.node.state.held
  pub pick : s.pick ≡ 0
  pub unarmed : s.node.disk.fuse ≡ None
  pub unplanned : s.node.disk.planned ≡ 0
  pub count : faults (meter handed.1) ≤ faults (meter s.node.disk.disk)
  pub same : text s.node.disk.disk ≡ text handed.1
  pub size : length (text handed.1) ≡ disk_bytes (geometry_of layout handed.0.0)
  pub images : Within (image handed.1) (image s.node.disk.disk)
  pub stands : IsTrue tells → (records : Records) × StandsFor (geometry_of layout handed.0.0) s.node.state.fence (text s.node.disk.disk) records
  pub shows : IsTrue tells → (records : Records) → StandsFor (geometry_of layout handed.0.0) s.node.state.fence (text s.node.disk.disk) records → IsHeldOnDisk s.node.state.held records
  pub settled : Only (text s.node.disk.disk) (image s.node.disk.disk)

-- A disk comes back as it came: its text is the same, each image is one from before, and its count of faults did not fall.
pub record IsDiskBack {D : Type 0} (meter : D → Meter) (text : D → List ℕ) (image : D → List ℕ → Type 0) (handed back : D) : Type 0 where
  pub count : faults (meter handed) ≤ faults (meter back)
  pub same : text back ≡ text handed
  pub images : Within (image handed) (image back)

-- A node's disk did not open for this fault: it is the first that the text has. A text that stands for records is refused by want
-- of memory or a failed device call alone, and after such a call the count of faults rose.
pub record IsFaultOf {D : Type 0} (tells : Bool) (meter : D → Meter) (text : D → List ℕ) (layout : Layout) (node : NodeSpec) (handed back : D) (why : OpenFault) : Type 0 where
  pub refused : IsTrue tells → Refuses (geometry_of layout node) (text handed) why
  pub size : (have need : ℕ) → why ≡ fault.WrongSize have need → Refuses (geometry_of layout node) (text handed) (fault.WrongSize have need)
  pub fits : NotSize why → length (text handed) ≡ disk_bytes (geometry_of layout node)
  pub exact : IsTrue tells → (fence : ℕ) (held : Records) → StandsFor (geometry_of layout node) fence (text handed) held → (why ≡ fault.NoMemory) ⊎ (why ≡ fault.DiskFault)
  pub risen : why ≡ fault.DiskFault → Rises (faults (meter handed)) (faults (meter back))

-- each disk, in its order

abbrev pub AreOpened : {D : Type 0} → Bool → (D → Meter) → (D → List ℕ) → (D → List ℕ → Type 0) → Layout → List NodeSpec → List ℕ → List D → List (Server (UnderFuse D)) → Type 0
AreOpened tells meter text image layout nodes losses disks made = AllZip (IsNodeOpened tells meter text image layout) (zip (zip nodes losses) disks) made

abbrev pub AreDisksBack : {D : Type 0} → (D → Meter) → (D → List ℕ) → (D → List ℕ → Type 0) → List D → List D → Type 0
AreDisksBack meter text image disks back = AllZip (IsDiskBack meter text image) disks back

-- The disk with this index did not open for this fault, and it was the first: those before it were opened.
pub record IsFirstUnopened {D : Type 0} (tells : Bool) (meter : D → Meter) (text : D → List ℕ) (image : D → List ℕ → Type 0) (layout : Layout) (nodes : List NodeSpec) (losses : List ℕ) (disks back : List D) (index : ℕ) (why : OpenFault) : Type 0 where
  pub node : NodeSpec
  pub old : D
  pub new : D
  pub there : slice_get nodes index ≡ Some node
  pub was : slice_get disks index ≡ Some old
  pub is : slice_get back index ≡ Some new
  pub fault_of : IsFaultOf tells meter text layout node old new why
  pub before : (made : List (Server (UnderFuse D))) × AllZip (IsNodeOpened tells meter text image layout) (take index (zip (zip nodes losses) disks)) made × (take index back ≡ disks_of made)

-- why the disks were not opened: the cause is the number of the fault of the first disk that did not open
abbrev pub IsCause : {D : Type 0} → Bool → (D → Meter) → (D → List ℕ) → (D → List ℕ → Type 0) → Layout → List NodeSpec → List ℕ → List D → List D → OpenRefusal → Type 0
IsCause tells meter text image layout nodes losses disks back refusal.NoMemory = Unit {0}
IsCause tells meter text image layout nodes losses disks back (refusal.Open index cause) =
    (why : OpenFault) × (why ≢ fault.NoMemory) × (cause ≡ number_of why) × IsFirstUnopened tells meter text image layout nodes losses disks back index why

abbrev pub refusal_at : OpenFault → ℕ → OpenRefusal
refusal_at fault.NoMemory index = refusal.NoMemory
refusal_at (fault.WrongSize have need) index = refusal.Open index (number_of (fault.WrongSize have need))
refusal_at fault.DiskFault index = refusal.Open index (number_of fault.DiskFault)
refusal_at fault.Unformatted index = refusal.Open index (number_of fault.Unformatted)
refusal_at (fault.BadHeader field value) index = refusal.Open index (number_of (fault.BadHeader field value))
refusal_at (fault.Damaged cell) index = refusal.Open index (number_of (fault.Damaged cell))
refusal_at (fault.Twice first second) index = refusal.Open index (number_of (fault.Twice first second))
