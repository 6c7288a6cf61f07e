-- Disks and a journal that earlier runs left, some of them away.
use Rattle.std.specs.Prelude.{ℕ, Bool, true, false, not, ◌==◌, ◌≡◌, ◌≢◌, ◌⊎◌, ◌<◌, ◌≤◌, ◌+◌, ◌^◌, ◌++◌, length, cond, IsTrue, List, [], ◌∷◌, map, Option, Some, None, IfSome, is_some, unwrap_or}
use Rattle.std.specs.List.{AllByRecursion, AllZip, zip}
use Rattle.std.specs.Option.{option_map_or}
use Rattle.std.specs.Vec.{vec_len, vec_capacity}
use Rattle.rz_disk.specs.Meter.{Meter, Rises, faults}
use Rattle.rz_events.specs.Volume.{IsVolume, Volume, nodes_of}
use Rattle.rz_events.specs.declared.files.NodeSpec.{NodeSpec}
use Rattle.rz_events.specs.declared.records.Change.{Change}
use Rattle.rz_events.specs.declared.records.Change.TheVariants as change
use Rattle.rz_events.specs.declared.nodes.Phase.TheVariants.{Lost}
use Rattle.rz_events.specs.declared.events.Word.TheVariants.{Export, Node}
use Rattle.rz_events.specs.declared.events.Event.{Event}
use Rattle.rz_events.specs.declared.export.Call.{Call}
use Rattle.rz_node_model.specs.Records.{Records, held_of, stamp_of}
use Rattle.rz_node_model.specs.States.{NodeState, fresh}
use Rattle.rz_node_model.specs.Versions.{has_stamp}
use Rattle.rz_export_model.specs.Export.{Export as ExportState, fence_of}
use Rattle.rz_cells_slots.specs.Held as disk
use Rattle.rz_cells_slots.specs.Stands.{StandsFor}
use Rattle.rz_core.specs.History.{facts, of_word}
use Rattle.rz_core.specs.NodeWord.{phase, losses, undecided}
use Rattle.rz_core.specs.NodeRows.{IsNodeOf}
use Rattle.rz_node_laws.specs.Images.{geometry_in}
use Rattle.rz_journal.specs.JournalText.{IsTextOf}
use Rattle.rz_journal.specs.Kept.{IsExportAfter}
use Rattle.rz_journal.specs.Opening.{IsJournalRefused}
use Rattle.rz_journal.specs.declared.rebuilding.JournalFault.{JournalFault}
use Rattle.rz_journal.specs.declared.rebuilding.JournalFault.TheVariants as fault
use Rattle.rz_metadata.specs.Enrolled.{loss_of}
use Rattle.rz_metadata.specs.Reopened.{AllTextsOf, IsAsItCame}
use Rattle.rz_metadata.specs.Stands.{CountsFaults, IsJournalOpen, Stands, disk_of, export_in, is_journaled}
use Rattle.rz_nodes.specs.declared.arriving.KnownNode.{KnownNode}
use Rattle.rz_nodes.specs.declared.arriving.Arrival.{Arrival}
use Rattle.rz_nodes.specs.declared.arriving.Arrival.TheVariants as arrival
use Rattle.rz_nodes.specs.declared.arriving.Missing.{Missing}
use Rattle.rz_nodes.specs.declared.arriving.Missing.TheVariants as missing
use Rattle.rz_nodes.specs.Arrived.{IsArrival}
use Rattle.rz_nodes.specs.Opened.{IsDiskBack}
use Rattle.rz_restart_laws.specs.Calls.{changing_calls}
use Rattle.rz_restart_laws.specs.Earlier.{numbers}
use Rattle.rz_restart_laws.specs.Found.{StandsByLog}
use Rattle.rz_restart_laws.specs.Returns.{AreBack, NewDisk, HasNewDisks, replaced, returned}
use Rattle.rz_shared_locked.specs.LockedExports.{AreTextsOfBytes}
use Rattle.rz_shared_locked.specs.LockedNodes.{IsAwayByLog}
use Rattle.rz_shared.specs.declared.seating.Arrived.{Arrived}
use Rattle.rz_shared.specs.declared.seating.Arrived.TheVariants as arrived
use Rattle.rz_store_opening.specs.Opened.{IsOpenedAfter}
use Rattle.rz_store_opening.specs.declared.disks.OpenedDisks.{OpenedDisks}

-- What may stand in the place of a node's disk.

-- a disk that the node had before it lost it, by this log: what stands on it is what the log said of it before
pub record IsLostDisk (v : Volume) (h : List Event) (n : ℕ) (text : List ℕ) : Type 0 where
  pub before : List Event
  pub since : List Event
  pub are : h ≡ since ++ before
  pub there : phase (of_word (Node n) before) ≢ Lost
  pub lost : losses (of_word (Node n) before) < losses (of_word (Node n) h)
  pub stands : StandsByLog v before n text

-- no disk of this node: the text stands for no records, under any fence
abbrev pub IsNoDisk : Volume → ℕ → List ℕ → Type 0
IsNoDisk v n text = (fence : ℕ) (records : disk.Records) → ¬ StandsFor (geometry_in v n) fence text records

-- the disk that the node has by the log, or one that it had, or none of its own
abbrev pub MayStand : Volume → List Event → ℕ → List ℕ → Type 0
MayStand v h n text = StandsByLog v h n text ⊎ IsLostDisk v h n text ⊎ IsNoDisk v n text

-- Disks, each in the place of its node or away, and a journal, as earlier runs with this log left them. Each node that is lost was
-- enrolled, and its new disk may be there already. Texts of blocks are of bytes.
pub record AreLeft {D : Type 0} (image : D → List ℕ → Type 0) (v : Volume) (h : List Event) (new : ℕ → NewDisk) (disks : List (Option D)) (journal : D) : Type 0 where
  pub earlier : HasNewDisks v new h
  pub bytes : AreTextsOfBytes h
  pub nodes : AllZip (λ (spec : NodeSpec) (d : Option D). IfSome d (λ there. (text : List ℕ) → image there text → MayStand v (replaced new (numbers v) h) spec.sid text)) (nodes_of v.clusters) disks
  pub last : AllTextsOf v (image journal) (changing_calls h)

-- Behind that log comes what was not told to a disk: the new disks of lost nodes, a stop of each node that was up, and a start of each
-- whose disk is here.

-- these records have the change that was undecided
abbrev pub has_change : Records → Change → Bool
has_change held (change.Keep at stamp position) = has_stamp stamp_of stamp (held_of held at)
has_change held (change.Refill fence at stamp position) = has_stamp stamp_of stamp (held_of held at)
has_change held (change.Drop at stamp) = not (has_stamp stamp_of stamp (held_of held at))

-- of which nodes a start finds the undecided change on the disk
abbrev pub took_of : List Event → (ℕ → NodeState) → ℕ → Bool
took_of h nodes n = option_map_or (has_change (nodes n).held) (undecided (of_word (Node n) h)) false

-- ---- the nodes of a store, of which some are away

-- what the export knows of the nodes of a volume
abbrev pub known_of : ExportState → List NodeSpec → List KnownNode
known_of s specs = map (λ (spec : NodeSpec). record { node = spec; losses = loss_of s spec.sid; fence = fence_of s spec.sid }) specs

-- a node that is away goes behind its lock with what is known of it
abbrev pub arrived_at : {D : Type 0} → KnownNode → Arrival D → Arrived D
arrived_at known (arrival.Here s) = arrived.Here s
arrived_at known (arrival.Away why) = arrived.Away (record { sid = known.node.sid; fence = known.fence; losses = known.losses })

abbrev pub arrived_by : {D : Type 0} → List KnownNode → List (Arrival D) → List (Arrived D)
arrived_by (known ∷ more) (a ∷ arrivals) = arrived_at known a ∷ arrived_by more arrivals
arrived_by known arrivals = []

-- why a node is away
abbrev pub missing_in : {D : Type 0} → Arrival D → Option (Missing D)
missing_in (arrival.Here s) = None
missing_in (arrival.Away why) = Some why

abbrev pub sid_of : {D : Type 0} → Arrived D → ℕ
sid_of (arrived.Here s) = s.sid
sid_of (arrived.Away a) = a.sid

-- the state of node n, where it is here
abbrev pub state_at : {D : Type 0} → List (Arrived D) → ℕ → Option NodeState
state_at [] n = None
state_at (arrived.Here s ∷ more) n = cond (s.sid == n) (Some s.node.state) (state_at more n)
state_at (arrived.Away a ∷ more) n = state_at more n

abbrev pub here_in : {D : Type 0} → List (Arrived D) → ℕ → Bool
here_in nodes n = is_some (state_at nodes n)

abbrev pub nodes_in : {D : Type 0} → List (Arrived D) → ℕ → NodeState
nodes_in nodes n = unwrap_or (state_at nodes n) fresh

-- the log in which a store goes on with these nodes
abbrev pub reopened : {D : Type 0} → Volume → (ℕ → NewDisk) → List (Arrived D) → List Event → List Event
reopened v new nodes h = let mid = replaced new (numbers v) h in returned v (here_in nodes) (took_of mid (nodes_in nodes)) mid

-- A node is here as the log has it, and its state is the one at its number; or it is away.
abbrev pub IsBackAt : {D : Type 0} → (D → Meter) → (D → List ℕ) → (D → List ℕ → Type 0) → Volume → (mid old : List Event) → List (Arrived D) → Arrived D → Type 0
IsBackAt meter text image v mid old nodes (arrived.Here s) = (state_at nodes s.sid ≡ Some s.node.state) × IsOpenedAfter meter text image v mid (λ n. 0) s
IsBackAt meter text image v mid old nodes (arrived.Away a) = IsNodeOf v a.sid × IsAwayByLog old a.sid a.fence a.losses

-- A store was opened after a log: its export and the nodes that are here are those of the log in which it goes on. That one has the same
-- permanent facts and the same events of the export, and is not much longer.
pub record IsReopened {D : Type 0} (meter : D → Meter) (text : D → List ℕ) (image : D → List ℕ → Type 0) (v : Volume) (h mid old : List Event) (export : ExportState) (nodes : List (Arrived D)) : Type 0 where
  pub back : AreBack v (here_in nodes) mid export (nodes_in nodes) old
  pub numbers_are : map sid_of nodes ≡ numbers v
  pub each : AllByRecursion (IsBackAt meter text image v mid old nodes) nodes
  pub facts_are : facts old ≡ facts h
  pub export_word : of_word Export old ≡ of_word Export h
  pub few : length old ≤ length h + 768

-- So it is of disks that earlier runs left, where the export answered the calls that changed theirs.
abbrev pub IsReopeningLaw : {D : Type 0} → Bool → (D → Meter) → (D → List ℕ) → (D → List ℕ → Type 0) → Type 0
IsReopeningLaw {D = D} tells meter text image =
    (v : Volume) (h : List Event) (new : ℕ → NewDisk) (disks : List (Option D)) (journal : D) (export : ExportState) (arrivals : List (Arrival D))
    → IsVolume v → IsTrue tells → AreLeft image v h new disks journal → export.volume ≡ v → IsExportAfter export (changing_calls h)
    → AllZip (IsArrival tells meter text image v.layout) (zip (known_of export (nodes_of v.clusters)) disks) arrivals
    → (let nodes = arrived_by (known_of export (nodes_of v.clusters)) arrivals in IsReopened meter text image v h (replaced new (numbers v) h) (reopened v new nodes h) export nodes)

-- ---- what was opened

-- The nodes are those of the volume, in the order of the description, each with what came of the disk in its place; a node that is away
-- has what the metadata know of it.
pub record AreOpenedDisks {D : Type 0} (tells : Bool) (meter : D → Meter) (text : D → List ℕ) (image : D → List ℕ → Type 0) (v : Volume) (disks : List (Option D)) (o : OpenedDisks D) : Type 0 where
  pub count : length disks ≡ length (nodes_of v.clusters)
  pub arrivals : List (Arrival D)
  pub arrived : AllZip (IsArrival tells meter text image v.layout) (zip (known_of (export_in o.parts.metadata) (nodes_of v.clusters)) disks) arrivals
  pub nodes : o.parts.nodes.items ≡ arrived_by (known_of (export_in o.parts.metadata) (nodes_of v.clusters)) arrivals
  pub missing : o.missing.items ≡ map missing_in arrivals
  pub empty : vec_len o.parts.home ≡ 0
  pub room : vec_len o.parts.nodes ≤ vec_capacity o.parts.home

-- These nodes, and the metadata of the volume behind its journal, which is open. The journal's disk is as it came.
pub record IsOpenedStore {D : Type 0} (tells : Bool) (meter : D → Meter) (text : D → List ℕ) (image : D → List ℕ → Type 0) (v : Volume) (disks : List (Option D)) (journal : D) (o : OpenedDisks D) : Type 0 where
  pub rules : IsVolume v
  pub nodes : AreOpenedDisks tells meter text image v disks o
  pub of_volume : (export_in o.parts.metadata).volume ≡ v
  pub journaled : is_journaled o.parts.metadata ≡ true
  pub is_open : IsJournalOpen o.parts.metadata
  pub counted : CountsFaults meter (faults (meter journal)) o.parts.metadata
  pub came : IfSome (disk_of o.parts.metadata) (IsAsItCame meter text image journal)

-- Nothing was opened: the journal's disk is as it came, and this fault is the first that its text has. A text that stands for calls is
-- refused by want of memory or a failed device call alone, and after such a call the count of faults rose.
pub record IsUnopened {D : Type 0} (tells : Bool) (meter : D → Meter) (text : D → List ℕ) (image : D → List ℕ → Type 0) (v : Volume) (journal back : D) (why : JournalFault) : Type 0 where
  pub same : IsAsItCame meter text image journal back
  pub refused : IsJournalRefused tells v (text journal) why
  pub exact : IsTrue tells → (calls : List Call) → IsTextOf v (text journal) calls → (why ≡ fault.NoMemory) ⊎ (why ≡ fault.DiskFault)
  pub risen : why ≡ fault.DiskFault → Rises (faults (meter journal)) (faults (meter back))

-- It was opened on some disks, and its journal's had counted so many faults.
abbrev pub IsOpenedOnSome : {D : Type 0} → Bool → (D → Meter) → (D → List ℕ) → (D → List ℕ → Type 0) → Volume → (counted : Option ℕ) → OpenedDisks D → Type 0
IsOpenedOnSome {D = D} tells meter text image v counted o =
    (disks : List (Option D)) × (journal : D) × (counted ≡ Some (faults (meter journal))) × IsOpenedStore tells meter text image v disks journal o

-- What was opened goes on after the log of the earlier runs: the nodes and the metadata are those of the log with the new disks, the
-- stops and the starts behind it, and the journal's disk stands for the calls that changed its export.
pub record GoesOnAfter {D : Type 0} (tells : Bool) (meter : D → Meter) (text : D → List ℕ) (image : D → List ℕ → Type 0) (v : Volume) (h : List Event) (new : ℕ → NewDisk) (first : ℕ) (o : OpenedDisks D) : Type 0 where
  pub told : IsTrue tells
  pub nodes : IsReopened meter text image v h (replaced new (numbers v) h) (reopened v new o.parts.nodes.items h) (export_in o.parts.metadata) o.parts.nodes.items
  pub short : length (reopened v new o.parts.nodes.items h) < 2 ^ 63 + 512
  pub bytes : AreTextsOfBytes (reopened v new o.parts.nodes.items h)
  pub stands : Stands tells meter image first o.parts.metadata (changing_calls (reopened v new o.parts.nodes.items h))

-- this is the log in which it goes on after some log of earlier runs
abbrev pub IsAfterPast : {D : Type 0} → Bool → (D → Meter) → (D → List ℕ) → (D → List ℕ → Type 0) → Volume → (first : ℕ) → (old : List Event) → OpenedDisks D → Type 0
IsAfterPast tells meter text image v first old o =
    (h : List Event) × (new : ℕ → NewDisk) × GoesOnAfter tells meter text image v h new first o × (old ≡ reopened v new o.parts.nodes.items h)

-- the disk in the place of a node that was opened, or that is away for this reason
abbrev pub disk_in : {D : Type 0} → Arrived D → Option (Missing D) → Option D
disk_in (arrived.Here s) why = Some s.node.disk.disk
disk_in (arrived.Away a) None = None
disk_in (arrived.Away a) (Some missing.Absent) = None
disk_in (arrived.Away a) (Some (missing.Unopened d why)) = Some d
disk_in (arrived.Away a) (Some (missing.Stale d)) = Some d

abbrev pub disks_in : {D : Type 0} → List (Arrived D) → List (Option (Missing D)) → List (Option D)
disks_in (a ∷ nodes) (why ∷ missing) = disk_in a why ∷ disks_in nodes missing
disks_in nodes missing = []

-- it is as it came
abbrev pub IsPlaceBack : {D : Type 0} → (D → Meter) → (D → List ℕ) → (D → List ℕ → Type 0) → Option D → Option D → Type 0
IsPlaceBack meter text image None None = Unit {0}
IsPlaceBack meter text image (Some handed) (Some back) = IsDiskBack meter text image handed back
IsPlaceBack meter text image handed back = ⊥

-- So what was opened goes back: each disk as it came.
abbrev pub AreHandedBack : {D : Type 0} → Bool → (D → Meter) → (D → List ℕ) → (D → List ℕ → Type 0) → Type 0
AreHandedBack {D = D} tells meter text image = (v : Volume) (disks : List (Option D)) (o : OpenedDisks D) → AreOpenedDisks tells meter text image v disks o
    → AllZip (IsPlaceBack meter text image) disks (disks_in o.parts.nodes.items o.missing.items)
