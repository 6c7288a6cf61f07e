-- What becomes of disks that are formatted for the nodes of a volume and, the last one, for a journal.
use Rattle.std.specs.Prelude.{ℕ, ◌≡◌, ◌≤◌, ◌⊎◌, Bool, true, IsTrue, List, [], ◌∷◌, ◌++◌, length}
use Rattle.rz_disk.specs.Meter.{Meter, Rises, faults}
use Rattle.rz_disk.specs.declared.disk.Disk.{Ghosts}
use Rattle.rz_events.specs.Volume.{Volume, nodes_of}
use Rattle.rz_export_model.specs.Export.{new_export}
use Rattle.rz_metadata.specs.Stands.{CountsFaults, IsJournalOpen, Stands, export_in, is_journaled}
use Rattle.rz_nodes.specs.Formatted.{AreBack}
use Rattle.rz_nodes.specs.declared.fault.DriverFault.{DriverFault}
use Rattle.rz_nodes.specs.declared.fault.DriverFault.TheVariants as driver
use Rattle.rz_journal.specs.JournalText.{IsTextOf}
use Rattle.rz_cells_slots.specs.Stands.{IsShut}
use Rattle.rz_driver.specs.declared.driver.Driver.{Driver}

-- A disk comes back that was to be formatted for a journal: its count of faults did not fall, and each image is one from before, or
-- its header is shut, or it stands for no calls.
pub record IsJournalBack {D : Type 0} (tells : Bool) (meter : D → Meter) (image : D → List ℕ → Type 0) (v : Volume) (disk back : D) : Type 0 where
  pub count : faults (meter disk) ≤ faults (meter back)
  pub images : IsTrue tells → (c : List ℕ) → image back c → image disk c ⊎ IsShut c ⊎ IsTextOf v c []

-- the disks of the nodes come back, and the journal's behind them
pub record AreBackWithJournal {D : Type 0} (tells : Bool) (meter : D → Meter) (image : D → List ℕ → Type 0) (v : Volume) (disks back : List D) : Type 0 where
  pub nodes : List D
  pub journal : D
  pub disks_are : disks ≡ nodes ++ journal ∷ []
  pub nodes_back : List D
  pub journal_back : D
  pub back_are : back ≡ nodes_back ++ journal_back ∷ []
  pub each : AreBack tells meter image v.layout (nodes_of v.clusters) nodes nodes_back
  pub last : IsJournalBack tells meter image v journal journal_back

-- The export of a driver became a new one, behind a journal on this disk that stands for no calls. The rest is as it was.
pub record IsBehindJournal {D : Type 0} {G : Ghosts D} (disk : D) (d e : Driver D G) : Type 0 where
  pub volume : e.volume ≡ d.volume
  pub agendas : e.agendas ≡ d.agendas
  pub turns : e.turns ≡ d.turns
  pub shared : e.shared ≡ record d.shared { export = e.shared.export }
  pub export : export_in e.shared.export ≡ new_export d.volume 0
  pub journal : is_journaled e.shared.export ≡ true
  pub is_open : IsJournalOpen e.shared.export
  pub counted : CountsFaults G.meter (faults (G.meter disk)) e.shared.export
  pub stands : Stands G.tells G.meter G.image (faults (G.meter disk)) e.shared.export []

-- why the disk with this index was not formatted: where it failed, its faults rose
abbrev pub IsFault : {D : Type 0} → (D → Meter) → ℕ → (disk back : D) → DriverFault → Type 0
IsFault meter place disk back driver.NoMemory = Unit {0}
IsFault meter place disk back (driver.Disk index) = (index ≡ place) × Rises (faults (meter disk)) (faults (meter back))

-- no journal was made on a disk, which comes back behind those of the nodes
pub record IsJournalUnmade {D : Type 0} (tells : Bool) (meter : D → Meter) (image : D → List ℕ → Type 0) (v : Volume) (nodes : List D) (disk : D) (back : List D) (fault : DriverFault) : Type 0 where
  pub last : D
  pub back_are : back ≡ nodes ++ last ∷ []
  pub kept : IsJournalBack tells meter image v disk last
  pub cause : IsFault meter (length nodes) disk last fault
