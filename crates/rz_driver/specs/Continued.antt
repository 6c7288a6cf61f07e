-- A driver that goes on over the disks which earlier runs left.
use Rattle.std.specs.Prelude.{ℕ, ◌≡◌, ◌≢◌, ◌⊎◌, Bool, IsTrue, List, [], ◌∷◌, ◌++◌, map, length, Option, Some, option_to_list}
use Rattle.std.specs.List.{AllByRecursion, AllZip}
use Rattle.std.specs.FinMap as maps
use Rattle.mj_angles.specs.declared.layout.Layout.{Layout}
use Rattle.mj_angles.specs.Layout.{max_bins_of}
use Rattle.rz_disk.specs.Meter.{Meter, Rises, faults}
use Rattle.rz_disk.specs.declared.disk.Disk.{Ghosts}
use Rattle.rz_events.specs.Volume.{Volume, nodes_of}
use Rattle.rz_events.specs.declared.files.NodeSpec.{NodeSpec}
use Rattle.rz_events.specs.declared.export.Call.{Call}
use Rattle.rz_events.specs.declared.events.Event.{Event}
use Rattle.rz_core.specs.History.{facts}
use Rattle.rz_cells_slots.specs.Held.{Records}
use Rattle.rz_cells_slots.specs.Shape.{disk_bytes}
use Rattle.rz_cells_slots.specs.Stands.{StandsFor}
use Rattle.rz_export_model.specs.Export.{Export}
use Rattle.rz_journal.specs.Opening.{IsJournalRefused}
use Rattle.rz_journal.specs.Stands.{disk_bytes as journal_bytes}
use Rattle.rz_journal.specs.declared.rebuilding.JournalFault.{JournalFault}
use Rattle.rz_journal.specs.declared.rebuilding.JournalFault.TheVariants as fault
use Rattle.rz_metadata.specs.declared.metadata.Metadata.{Metadata}
use Rattle.rz_metadata.specs.Enrolled.{loss_of}
use Rattle.rz_metadata.specs.Reopened.{MakesExport, journal_fault_number}
use Rattle.rz_metadata.specs.Stands.{disk_of, export_in, refusal_of}
use Rattle.rz_metadata.specs.declared.journaled.JournalRefusal.TheVariants.{Failed}
use Rattle.rz_nodes.specs.Formatted.{geometry_of}
use Rattle.rz_nodes.specs.declared.refusal.OpenRefusal.{OpenRefusal}
use Rattle.rz_nodes.specs.declared.refusal.OpenRefusal.TheVariants as refusal
use Rattle.rz_nodes.specs.Opened.{AreDisksBack, AreOpened, IsCause}
use Rattle.rz_player.specs.Behind.{Before}
use Rattle.rz_play.specs.World.{world_after}
use Rattle.rz_driver_nodes.specs.Images.{AreDisksImaged}
use Rattle.rz_driver_nodes.specs.Servers.{state_in}
use Rattle.rz_driver.specs.declared.driver.Driver.{Driver}
use Rattle.rz_driver.specs.Endings.{StandsForLog}
use Rattle.rz_block_laws.specs.Acting.{AreBytes}
use Rattle.rz_driver_actors.specs.Agendas.{IsEmptyAgenda}
use Rattle.rz_driver.specs.Worlds.{world_of, HoldsBetweenTurns, LeavesAtEnd}

-- What earlier runs left, and what a run leaves for the next.

-- The disks of the nodes, in their order, and a journal's behind them, as earlier runs with this log left them: those of the nodes
-- stand for what the log says that each holds, and that of the journal for the calls that changed its export. Its texts are of bytes.
pub record AreLeft {D : Type 0} (image : D → List ℕ → Type 0) (v : Volume) (h : List Event) (disks : List D) : Type 0 where
  pub nodes : List D
  pub journal : D
  pub disks_are : disks ≡ nodes ++ journal ∷ []
  pub each : AreDisksImaged image v (map (λ (n : NodeSpec). n.sid) (nodes_of v.clusters)) nodes h
  pub last : StandsForLog (image journal) v h
  pub bytes : AreBytes (facts h)

-- A play ended so that its disks stand for its log: between two turns, or where no device call of the journal failed.
abbrev pub EndsWhole : {D : Type 0} {G : Ghosts D} → Driver D G → (refused : Option Call) → Before → Type 0
EndsWhole d refused b = HoldsBetweenTurns d b ⊎ (LeavesAtEnd d refused b × (refusal_of d.shared.export ≢ Some Failed))

-- What was opened.

-- A disk opens for a node: it has the node's size, and a text that it tells stands for a fence and records.
abbrev pub OpensForNode : {D : Type 0} → Bool → (D → List ℕ) → Layout → NodeSpec → D → Type 0
OpensForNode tells text layout node disk = let g = geometry_of layout node in
    (length (text disk) ≡ disk_bytes g) × (IsTrue tells → (fence : ℕ) × (records : Records) × StandsFor g fence (text disk) records)

-- A disk opens for a journal: it has a journal's size, and the entries of a text that it tells make an export.
abbrev pub OpensForJournal : {D : Type 0} → Bool → (D → List ℕ) → Volume → D → Type 0
OpensForJournal tells text v disk = (length (text disk) ≡ journal_bytes) × (IsTrue tells → (export : Export) × MakesExport v (text disk) export)

-- Each of these disks opens, those of the nodes in their order and that of a journal behind them.
pub record AllOpen {D : Type 0} (tells : Bool) (text : D → List ℕ) (v : Volume) (disks : List D) : Type 0 where
  pub nodes : List D
  pub journal : D
  pub disks_are : disks ≡ nodes ++ journal ∷ []
  pub each : AllZip (OpensForNode tells text v.layout) (nodes_of v.clusters) nodes
  pub last : OpensForJournal tells text v journal

-- the loss of each node that the export enrolled last, or 0
abbrev pub losses_of : Export → Volume → List ℕ
losses_of export v = map (λ (n : NodeSpec). loss_of export n.sid) (nodes_of v.clusters)

-- Nodes were opened on their disks, each as one that lost what this export says; the actors have nothing to do, nothing is
-- locked and nothing was played, after earlier runs.
pub record IsOpenedOver {D : Type 0} {G : Ghosts D} (v : Volume) (export : Metadata D) (nodes : List D) (d : Driver D G) : Type 0 where
  pub volume : d.volume ≡ v
  pub export_is : d.shared.export ≡ export
  pub made : AreOpened G.tells G.meter G.text G.image v.layout (nodes_of v.clusters) (losses_of (export_in export) v) nodes d.shared.servers.items
  pub agendas : AllByRecursion IsEmptyAgenda d.agendas.items
  pub count : length d.agendas.items ≡ 80
  pub bins : length d.shared.bins.items ≡ max_bins_of v.layout
  pub locks : d.shared.locks ≡ maps.empty
  pub turns : d.turns ≡ 0
  pub lost : d.shared.lost ≡ 0
  pub events : d.shared.log.events ≡ []

-- A driver was opened on these disks: its export is the one that the entries of the journal make, and its nodes hold what
-- their disks stand for, each as one that lost what the export enrolled last. Nothing was played.
pub record IsOpenedAgain {D : Type 0} {G : Ghosts D} (v : Volume) (disks : List D) (d : Driver D G) : Type 0 where
  pub nodes : List D
  pub journal : D
  pub disks_are : disks ≡ nodes ++ journal ∷ []
  pub export : IsTrue G.tells → MakesExport v (G.text journal) (export_in d.shared.export)
  pub made : AreOpened G.tells G.meter G.text G.image v.layout (nodes_of v.clusters) (losses_of (export_in d.shared.export) v) nodes d.shared.servers.items
  pub world : world_of d ≡ world_after (state_in d.shared.servers.items) (export_in d.shared.export) []

-- What was refused.

-- the journal was not opened, for the fault of this number
pub record IsJournalUnopened {D : Type 0} (tells : Bool) (meter : D → Meter) (text : D → List ℕ) (v : Volume) (disk back : D) (cause : ℕ) : Type 0 where
  pub why : JournalFault
  pub not_memory : why ≢ fault.NoMemory
  pub cause_is : cause ≡ journal_fault_number why
  pub refused : IsJournalRefused tells v (text disk) why
  pub risen : why ≡ fault.DiskFault → Rises (faults (meter disk)) (faults (meter back))

-- what ended the opening of a journal whose disk has this index
abbrev pub IsJournalCause : {D : Type 0} → Bool → (D → Meter) → (D → List ℕ) → Volume → (index : ℕ) → (disk back : D) → OpenRefusal → Type 0
IsJournalCause tells meter text v place disk back refusal.NoMemory = Unit {0}
IsJournalCause tells meter text v place disk back (refusal.Open index cause) = (index ≡ place) × IsJournalUnopened tells meter text v disk back cause

abbrev pub journal_refusal : JournalFault → ℕ → OpenRefusal
journal_refusal fault.NoMemory index = refusal.NoMemory
journal_refusal (fault.WrongSize have need) index = refusal.Open index 1
journal_refusal fault.DiskFault index = refusal.Open index 2
journal_refusal fault.Unformatted index = refusal.Open index 3
journal_refusal fault.BadHeader index = refusal.Open index 4
journal_refusal (fault.Damaged entry) index = refusal.Open index 5

-- no nodes were opened behind this export: their disks come back as they came, that of the export behind them
pub record IsRefusedOver {D : Type 0} (tells : Bool) (meter : D → Meter) (text : D → List ℕ) (image : D → List ℕ → Type 0) (v : Volume) (export : Metadata D) (nodes back : List D) (why : OpenRefusal) : Type 0 where
  pub nodes_back : List D
  pub back_are : back ≡ nodes_back ++ option_to_list (disk_of export)
  pub kept : AreDisksBack meter text image nodes nodes_back
  pub cause : IsCause tells meter text image v.layout (nodes_of v.clusters) (losses_of (export_in export) v) nodes nodes_back why

-- a node's disk was not opened, the first that was not, after the journal was
pub record IsNodeCause {D : Type 0} (tells : Bool) (meter : D → Meter) (text : D → List ℕ) (image : D → List ℕ → Type 0) (v : Volume) (nodes : List D) (journal : D) (back : List D) (why : OpenRefusal) : Type 0 where
  pub export : Export
  pub made : IsTrue tells → MakesExport v (text journal) export
  pub cause : IsCause tells meter text image v.layout (nodes_of v.clusters) (losses_of export v) nodes back why

-- why the disks were not opened: the journal's, which is opened first, or that of a node
pub record IsUnopened {D : Type 0} (tells : Bool) (meter : D → Meter) (text : D → List ℕ) (image : D → List ℕ → Type 0) (v : Volume) (disks back : List D) (why : OpenRefusal) : Type 0 where
  pub nodes : List D
  pub journal : D
  pub disks_are : disks ≡ nodes ++ journal ∷ []
  pub nodes_back : List D
  pub journal_back : D
  pub back_are : back ≡ nodes_back ++ journal_back ∷ []
  pub cause : IsJournalCause tells meter text v (length nodes) journal journal_back why ⊎ IsNodeCause tells meter text image v nodes journal nodes_back why

abbrev pub IsCauseAgain : {D : Type 0} → Bool → (D → Meter) → (D → List ℕ) → (D → List ℕ → Type 0) → Volume → List D → List D → OpenRefusal → Type 0
IsCauseAgain tells meter text image v disks back refusal.NoMemory = Unit {0}
IsCauseAgain tells meter text image v disks back (refusal.Open index cause) = IsUnopened tells meter text image v disks back (refusal.Open index cause)
