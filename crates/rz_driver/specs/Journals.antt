-- The journal of a driver: for which calls its disk stands.
use Rattle.std.specs.Prelude.{ℕ, Bool, IsTrue, ◌≡◌, ◌-◌, ◌^◌, ◌<◌, List, ◌++◌, Option, length}
use Rattle.rz_disk.specs.Meter.{Meter}
use Rattle.rz_disk.specs.declared.disk.Disk.{Ghosts}
use Rattle.rz_events.specs.Volume.{nodes_of}
use Rattle.rz_events.specs.declared.export.Call.{Call}
use Rattle.rz_events.specs.declared.events.Event.{Event}
use Rattle.rz_core.specs.History.{facts}
use Rattle.rz_player.specs.Behind.{Before}
use Rattle.rz_metadata.specs.declared.metadata.Metadata.{Metadata}
use Rattle.rz_metadata.specs.Stands.{export_in, Stands}
use Rattle.rz_metadata.specs.Journals.{EndsWith}
use Rattle.rz_driver.specs.declared.driver.Driver.{Driver}
use Rattle.rz_driver.specs.Endings.{AreCallsOf}
use Rattle.rz_block_laws.specs.Acting.{AreBytes}

-- the journal stands for the calls of this log
abbrev pub KeepsLog : {D : Type 0} → Bool → (D → Meter) → (D → List ℕ → Type 0) → ℕ → Metadata D → List Event → Type 0
KeepsLog tells meter image first m h = (calls : List Call) × AreCallsOf tells h calls × Stands tells meter image first m calls

-- where it refused this call, if one
abbrev pub EndsLog : {D : Type 0} → Bool → (D → Meter) → (D → List ℕ → Type 0) → ℕ → Metadata D → (refused : Option Call) → List Event → Type 0
EndsLog tells meter image first m refused h = (calls : List Call) × AreCallsOf tells h calls × EndsWith tells meter image first m refused calls

-- the journal's disk comes behind those of the nodes
abbrev pub journal_place : {D : Type 0} {G : Ghosts D} → Driver D G → ℕ
journal_place d = length (nodes_of d.volume.clusters)

-- What there was before the first line: what the disks had counted, and the log of earlier runs. The whole log has room for an
-- event more.

-- between two turns a journal stands for the calls of the whole log, whose texts are of bytes
pub record StandsForJournal {D : Type 0} {G : Ghosts D} (d : Driver D G) (b : Before) : Type 0 where
  pub volume : (export_in d.shared.export).volume ≡ d.volume
  pub bytes : IsTrue G.tells → AreBytes (facts (d.shared.log.events ++ b.log))
  pub keeps : length (d.shared.log.events ++ b.log) < 2 ^ 64 - 1 → KeepsLog G.tells G.meter G.image (b.counts (journal_place d)) d.shared.export (d.shared.log.events ++ b.log)

-- where a play ended it does, or it refused this call
pub record LeavesJournal {D : Type 0} {G : Ghosts D} (d : Driver D G) (refused : Option Call) (b : Before) : Type 0 where
  pub volume : (export_in d.shared.export).volume ≡ d.volume
  pub bytes : IsTrue G.tells → AreBytes (facts (d.shared.log.events ++ b.log))
  pub ends : length (d.shared.log.events ++ b.log) < 2 ^ 64 - 1 → EndsLog G.tells G.meter G.image (b.counts (journal_place d)) d.shared.export refused (d.shared.log.events ++ b.log)
