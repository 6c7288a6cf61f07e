-- The disks of a new store.
use Rattle.std.specs.Prelude.{ℕ, ◌≤◌, ◌⊎◌, Bool, IsTrue, List, [], Option, Some, None}
use Rattle.mj_angles.specs.declared.layout.Layout.{Layout}
use Rattle.rz_disk.specs.Images.{Only}
use Rattle.rz_disk.specs.Meter.{Meter, Rises, faults}
use Rattle.rz_events.specs.Volume.{Volume}
use Rattle.rz_events.specs.declared.files.NodeSpec.{NodeSpec}
use Rattle.rz_cells_slots.specs.declared.formatting.FormatFault.{FormatFault}
use Rattle.rz_cells_slots.specs.declared.formatting.FormatFault.TheVariants as format
use Rattle.rz_cells_slots.specs.Held.{nothing}
use Rattle.rz_cells_slots.specs.Stands.{IsShut, StandsFor}
use Rattle.rz_journal.specs.JournalText.{IsTextOf}
use Rattle.rz_nodes.specs.declared.fault.DriverFault.{DriverFault}
use Rattle.rz_nodes.specs.declared.fault.DriverFault.TheVariants as driver
use Rattle.rz_nodes.specs.Formatted as nodes
use Rattle.rz_nodes.specs.Formatted.{geometry_of}
use Rattle.rz_store_opening.specs.declared.formatting.FormatRefusal.{FormatRefusal}
use Rattle.rz_store_opening.specs.declared.formatting.FormatRefusal.TheVariants as refusal

-- A disk was formatted for a node: its one image is its text, which stands for nothing. Its count of faults did not fall.
pub record IsFormatted {D : Type 0} (tells : Bool) (meter : D → Meter) (text : D → List ℕ) (image : D → List ℕ → Type 0) (layout : Layout) (handed : NodeSpec × D) (d : D) : Type 0 where
  pub count : faults (meter handed.1) ≤ faults (meter d)
  pub stands : IsTrue tells → StandsFor (geometry_of layout handed.0) 0 (text d) nothing
  pub settled : Only (text d) (image d)

-- it stands in its place
abbrev pub IsFormattedDisk : {D : Type 0} → Bool → (D → Meter) → (D → List ℕ) → (D → List ℕ → Type 0) → Layout → NodeSpec × D → Option D → Type 0
IsFormattedDisk tells meter text image layout handed None = ⊥
IsFormattedDisk tells meter text image layout handed (Some d) = IsFormatted tells meter text image layout handed d

-- The journal's disk comes back: its count of faults did not fall, and each image is one from before, or its header is shut, or it stands
-- for no calls.
pub record IsJournalBack {D : Type 0} (tells : Bool) (meter : D → Meter) (image : D → List ℕ → Type 0) (v : Volume) (handed back : D) : Type 0 where
  pub count : faults (meter handed) ≤ faults (meter back)
  pub images : IsTrue tells → (c : List ℕ) → image back c → image handed c ⊎ IsShut c ⊎ IsTextOf v c []

-- the disk with the index failed, or the journal's, and its faults rose
abbrev pub IsCause : {D : Type 0} → (D → Meter) → (disks : List D) → (journal : D) → (back : List D) → (journal_back : D) → FormatRefusal → Type 0
IsCause meter disks journal back journal_back refusal.NoMemory = Unit {0}
IsCause meter disks journal back journal_back (refusal.Disk index) = nodes.IsCause meter disks back (driver.Disk index)
IsCause meter disks journal back journal_back refusal.Journal = Rises (faults (meter journal)) (faults (meter journal_back))

abbrev pub disk_refusal : DriverFault → FormatRefusal
disk_refusal driver.NoMemory = refusal.NoMemory
disk_refusal (driver.Disk index) = refusal.Disk index

abbrev pub journal_refusal : FormatFault → FormatRefusal
journal_refusal format.NoMemory = refusal.NoMemory
journal_refusal format.DiskFault = refusal.Journal
