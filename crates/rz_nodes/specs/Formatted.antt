-- What becomes of disks that are formatted for the nodes of a volume.
use Rattle.std.specs.Prelude.{ℕ, ◌≡◌, ◌≤◌, ◌⊎◌, Bool, IsTrue, List, map, None, Some, slice_get}
use Rattle.std.specs.List.{AllZip, zip}
use Rattle.mj_angles.specs.declared.layout.Layout.{Layout}
use Rattle.mj_angles.specs.Layout.{bsize_of}
use Rattle.rz_disk.specs.Images.{Only}
use Rattle.rz_disk.specs.Meter.{Meter, Rises, faults}
use Rattle.rz_disk.specs.UnderFuse.{UnderFuse}
use Rattle.rz_events.specs.declared.files.NodeSpec.{NodeSpec}
use Rattle.rz_cells_slots.specs.declared.formatting.FormatFault.{FormatFault}
use Rattle.rz_cells_slots.specs.declared.formatting.FormatFault.TheVariants as format
use Rattle.rz_cells_slots.specs.declared.geometry.Geometry.{Geometry}
use Rattle.rz_cells_slots.specs.Held.{nothing}
use Rattle.rz_cells_slots.specs.Stands.{IsShut, StandsFor}
use Rattle.rz_node_model.specs.States.{fresh}
use Rattle.rz_nodes.specs.declared.fault.DriverFault.{DriverFault}
use Rattle.rz_nodes.specs.declared.fault.DriverFault.TheVariants as driver
use Rattle.rz_nodes.specs.declared.formatting.Server.{Server}

-- how the disk of a node is laid out
abbrev pub geometry_of : Layout → NodeSpec → Geometry
geometry_of layout n = record { layout = layout; bsize = bsize_of layout; node = n.sid; cells = n.cells }

-- A disk was formatted for a node: its one image is its text, which stands for nothing. It is not armed, and its count of faults
-- did not fall.
pub record IsNodeFormatted {D : Type 0} (tells : Bool) (meter : D → Meter) (text : D → List ℕ) (image : D → List ℕ → Type 0) (layout : Layout) (handed : NodeSpec × D) (s : Server (UnderFuse D)) : Type 0 where
  pub number : s.sid ≡ handed.0.sid
  pub geometry : s.node.geometry ≡ geometry_of layout handed.0
  pub state : s.node.state ≡ fresh
  pub pick : s.pick ≡ 0
  pub unarmed : s.node.disk.fuse ≡ None
  pub unplanned : s.node.disk.planned ≡ 0
  pub count : faults (meter handed.1) ≤ faults (meter s.node.disk.disk)
  pub stands : IsTrue tells → StandsFor (geometry_of layout handed.0) 0 (text s.node.disk.disk) nothing
  pub settled : Only (text s.node.disk.disk) (image s.node.disk.disk)

-- A disk comes back that was to be formatted for a node: its count of faults did not fall, and each image is one from before, or
-- its header is shut, or it stands for nothing.
pub record IsBack {D : Type 0} (tells : Bool) (meter : D → Meter) (image : D → List ℕ → Type 0) (layout : Layout) (handed : NodeSpec × D) (back : D) : Type 0 where
  pub count : faults (meter handed.1) ≤ faults (meter back)
  pub images : IsTrue tells → (c : List ℕ) → image back c → image handed.1 c ⊎ IsShut c ⊎ StandsFor (geometry_of layout handed.0) 0 c nothing

-- each disk, in its order
abbrev pub AreFormatted : {D : Type 0} → Bool → (D → Meter) → (D → List ℕ) → (D → List ℕ → Type 0) → Layout → List NodeSpec → List D → List (Server (UnderFuse D)) → Type 0
AreFormatted tells meter text image layout nodes disks made = AllZip (IsNodeFormatted tells meter text image layout) (zip nodes disks) made

abbrev pub AreBack : {D : Type 0} → Bool → (D → Meter) → (D → List ℕ → Type 0) → Layout → List NodeSpec → List D → List D → Type 0
AreBack tells meter image layout nodes disks back = AllZip (IsBack tells meter image layout) (zip nodes disks) back

-- the disk with the index failed, and its faults rose
abbrev pub IsCause : {D : Type 0} → (D → Meter) → List D → List D → DriverFault → Type 0
IsCause meter disks back driver.NoMemory = Unit {0}
IsCause {D = D} meter disks back (driver.Disk index) =
    (old new : D) × (slice_get disks index ≡ Some old) × (slice_get back index ≡ Some new) × Rises (faults (meter old)) (faults (meter new))

abbrev pub fault_at : FormatFault → ℕ → DriverFault
fault_at format.NoMemory index = driver.NoMemory
fault_at format.DiskFault index = driver.Disk index

-- the disks of these nodes, out of their fuses
abbrev pub disks_of : {D : Type 0} → List (Server (UnderFuse D)) → List D
disks_of {D = D} servers = map (λ (s : Server (UnderFuse D)). s.node.disk.disk) servers
