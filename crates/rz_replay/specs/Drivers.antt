-- The driver that a request is played on, or why there is none.
use Rattle.std.specs.Prelude.{Bool, true, false, IsTrue, ◌≡◌, List, []}
use Rattle.rz_disk.specs.declared.disk.Disk.{Ghosts}
use Rattle.rz_events.specs.Volume.{Volume, nodes_of}
use Rattle.rz_events.specs.declared.events.Event.{Event}
use Rattle.rz_nodes.specs.Formatted.{AreBack, IsCause}
use Rattle.rz_nodes.specs.Opened.{AreDisksBack}
use Rattle.rz_nodes.specs.declared.fault.DriverFault.{DriverFault}
use Rattle.rz_nodes.specs.declared.fault.DriverFault.TheVariants as faults
use Rattle.rz_nodes.specs.declared.refusal.OpenRefusal.{OpenRefusal}
use Rattle.rz_nodes.specs.declared.refusal.OpenRefusal.TheVariants as opens
use Rattle.rz_metadata.specs.Stands.{export_in, is_journaled}
use Rattle.rz_driver_nodes.specs.Meters.{faults_at}
use Rattle.rz_driver_nodes.specs.Servers.{state_in}
use Rattle.rz_driver.specs.declared.driver.Driver.{Driver}
use Rattle.rz_driver.specs.Continued.{AllOpen, AreLeft, IsCauseAgain}
use Rattle.rz_driver.specs.Formatted.{AreBackWithJournal}
use Rattle.rz_driver.specs.Worlds.{HasCounted, HoldsBetweenTurns, IsDriver, anew, left_behind, world_of}
use Rattle.rz_restart_laws.specs.Earlier.{IsEarlier, IsRestarted}
use Rattle.rz_play.specs.World.{new_world, world_after}
use Rattle.rz_request.specs.Requests.{nodes_in}
use Rattle.rz_request.specs.declared.refusal.Refusal.TheVariants as refusals
use Rattle.rz_request.specs.declared.refusal.Stop.{Stop}
use Rattle.rz_request.specs.declared.refusal.Stop.TheVariants as stops
use Rattle.rz_request.specs.declared.wishes.Request.{Request}
use Rattle.rz_request.specs.declared.wishes.Wish.{Wish}
use Rattle.rz_request.specs.declared.wishes.Wish.TheVariants.{First, Again}

-- `first` and `again` alone have a journal
abbrev pub has_journal : Wish → Bool
has_journal First = true
has_journal Again = true
has_journal _ = false

-- A driver opened each of these disks, and goes on over them. Over disks that tell their texts it does so after each earlier log with
-- which they were left. Over others nothing is said of an earlier log.
pub record GoesOnOver {D : Type 0} {G : Ghosts D} (v : Volume) (disks : List D) (d : Driver D G) : Type 0 where
  pub opened : AllOpen G.tells G.text v disks
  pub world : world_of d ≡ world_after (state_in d.shared.servers.items) (export_in d.shared.export) []
  pub held : IsTrue G.tells → (earlier : List Event) → IsEarlier v earlier → AreLeft G.image v earlier disks
      → (old : List Event) × IsRestarted v earlier old × HoldsBetweenTurns d (left_behind (faults_at G.meter disks) old)
  pub untold : G.tells ≡ false → HoldsBetweenTurns d (left_behind (faults_at G.meter disks) [])

-- what there is before the first line: a driver that goes on, or a new one
abbrev pub BeginsAs : {D : Type 0} {G : Ghosts D} → Wish → Volume → List D → Driver D G → Type 0
BeginsAs Again v disks d = GoesOnOver v disks d
BeginsAs {G = G} wish v disks d = (world_of d ≡ new_world v) × HoldsBetweenTurns d (anew (faults_at G.meter disks))

-- A driver was made for a request over these disks, and nothing was played.
pub record IsDriverFor {D : Type 0} {G : Ghosts D} (r : Request) (disks : List D) (d : Driver D G) : Type 0 where
  pub ready : IsDriver d
  pub volume : d.volume ≡ r.script.volume
  pub journal : is_journaled d.shared.export ≡ has_journal r.wish
  pub counted : HasCounted d (faults_at G.meter disks (nodes_in r.script))
  pub begins : BeginsAs r.wish r.script.volume disks d

-- why disks were not formatted, or did not open, as a reason that there is nothing to play

abbrev pub unformatted : DriverFault → Stop
unformatted faults.NoMemory = stops.NoMemory
unformatted (faults.Disk index) = stops.Refused (refusals.Disk index)

abbrev pub unopened : OpenRefusal → Stop
unopened opens.NoMemory = stops.NoMemory
unopened (opens.Open index cause) = stops.Refused (refusals.Open index cause)

-- how disks come back where no driver was made for a wish, and why
abbrev pub IsUnmade : {D : Type 0} → Ghosts D → Wish → Volume → List D → List D → Stop → Type 0
IsUnmade G First v disks back why = AreBackWithJournal G.tells G.meter G.image v disks back × ((fault : DriverFault) × (why ≡ unformatted fault) × IsCause G.meter disks back fault)
IsUnmade G Again v disks back why = AreDisksBack G.meter G.text G.image disks back × ((fault : OpenRefusal) × (why ≡ unopened fault) × IsCauseAgain G.tells G.meter G.text G.image v disks back fault)
IsUnmade G _ v disks back why =
    AreBack G.tells G.meter G.image v.layout (nodes_of v.clusters) disks back × ((fault : DriverFault) × (why ≡ unformatted fault) × IsCause G.meter disks back fault)
