-- Disks as they were lent, and as they are handed back.
use Rattle.std.specs.Prelude.{ℕ, false, IsTrue, ◌≡◌, ◌≢◌, ◌<◌, ◌≤◌, ◌+◌, ◌^◌, map, length, List, [], ◌∷◌, ◌++◌, Some, Result, Ok, Err}
use Rattle.rz_disk.specs.Meter.{Meter, faults}
use Rattle.rz_disk.specs.declared.disk.Disk.{Ghosts}
use Rattle.rz_driver_nodes.specs.Meters.{AreDisksCounted, faults_at}
use Rattle.rz_driver_nodes.specs.Images.{AreDisksImaged}
use Rattle.rz_events.specs.Volume.{Volume, nodes_of}
use Rattle.rz_events.specs.declared.files.NodeSpec.{NodeSpec}
use Rattle.rz_events.specs.declared.nodes.Phase.TheVariants.{Lost}
use Rattle.rz_events.specs.declared.events.Word.TheVariants.{Node}
use Rattle.rz_events.specs.declared.export.Call.{Call}
use Rattle.rz_events.specs.declared.events.Event.{Event}
use Rattle.rz_nodes.specs.Formatted.{AreBack}
use Rattle.rz_metadata.specs.declared.journaled.JournalRefusal.TheVariants.{Full, Failed}
use Rattle.rz_driver.specs.Endings.{EndsAsRefused, StandsForLog}
use Rattle.rz_driver.specs.Formatted.{IsJournalBack}
use Rattle.rz_core.specs.History.{of_word}
use Rattle.rz_core.specs.NodeRows.{IsNodeOf}
use Rattle.rz_core.specs.NodeWord.{phase}
use Rattle.rz_nodes.specs.Opened.{AreDisksBack}
use Rattle.rz_nodes.specs.declared.refusal.OpenRefusal.TheVariants.{Open}
use Rattle.rz_driver.specs.Continued.{AllOpen, AreLeft, IsCauseAgain}
use Rattle.rz_restart_laws.specs.Earlier.{IsEarlier, IsRestarted}
use Rattle.rz_script.specs.declared.line.Line.{Line}
use Rattle.rz_node_model.specs.States.{NodeState}
use Rattle.rz_export_model.specs.Export.{Export}
use Rattle.rz_play.specs.Faults.{missed, misses}
use Rattle.rz_play.specs.Stops.{JournalRefused}
use Rattle.rz_play.specs.World.{World, new_world, world_after}
use Rattle.rz_play_laws.specs.Fine.{IsFine}
use Rattle.rz_play_laws.specs.Runs.{IsRunAfter}
use Rattle.rz_play_locks.specs.Kept.{IsKeptAfter}
use Rattle.rz_play_locks.specs.Operations.{given}
use Rattle.rz_player.specs.Ends.{IsEnded, IsStoppedOver}
use Rattle.rz_player.specs.declared.lines.PlayEnd.TheVariants.{Journal, JournalFull}
use Rattle.rz_player.specs.declared.lines.PlayEnd.{PlayEnd}
use Rattle.rz_request.specs.declared.refusal.Stop.{Stop}
use Rattle.rz_request.specs.declared.wishes.Request.{Request}
use Rattle.rz_request.specs.declared.wishes.Wish.{Wish}
use Rattle.rz_request.specs.declared.wishes.Wish.TheVariants.{First, Again}
use Rattle.rz_report.specs.Replays.{Faulted, RequestProgress, Unplayed, Unopened, Performed}

-- the numbers of a volume's nodes, in order
abbrev pub numbers_of_volume : Volume → List ℕ
numbers_of_volume v = map (λ (n : NodeSpec). n.sid) (nodes_of v.clusters)

-- the faults of each disk, by its place
abbrev pub faulted : {D : Type 0} → (D → Meter) → List D → List D → Faulted
faulted meter old new = record { old = faults_at meter old; new = faults_at meter new }

-- There is a disk for each node, in order, its count of faults did not fall, and the faults of its node in the log are counted by
-- the rise.
abbrev pub AreFaultsTold : {D : Type 0} → (D → Meter) → Volume → List D → List D → List Event → Type 0
AreFaultsTold meter v old new h = AreDisksCounted meter (faults_at meter old) 0 (numbers_of_volume v) new h

-- Where no play began, each image of each disk is one from before, or its header is shut, or it stands for nothing. After a play,
-- with its log, each stands for what the log says that its node holds.
abbrev pub AreImagesTold : {D : Type 0} → Ghosts D → RequestProgress → Volume → List D → List D → List Event → Type 0
AreImagesTold G Unplayed v old new h = AreBack G.tells G.meter G.image v.layout (nodes_of v.clusters) old new
AreImagesTold G (Unopened index cause) v old new h = ⊥
AreImagesTold G (Performed end later) v old new h = IsTrue G.tells → AreDisksImaged G.image v (numbers_of_volume v) new h

-- the events of the records that were asked for after a play
abbrev pub asked_in : RequestProgress → List Event
asked_in Unplayed = []
asked_in (Unopened index cause) = []
asked_in (Performed end later) = later

-- Each image stands for the calls of the log. A journal that ended the play refused the call of the turn before which the play stopped:
-- it had no half for the export and that call; or its disk failed, and each image stands for the calls of the log, or for these and
-- that one.
abbrev pub IsJournalLeft : {D : Type 0} → Ghosts D → (stops : Call → Type 0) → PlayEnd → Volume → (old new : D) → List Event → Type 0
IsJournalLeft G stops Journal v old new h = (c : Call) × stops c × EndsAsRefused (Some Failed) (Some c) G.tells (G.image new) (faults (G.meter old)) (faults (G.meter new)) v h
IsJournalLeft G stops JournalFull v old new h = (c : Call) × stops c × EndsAsRefused (Some Full) (Some c) G.tells (G.image new) (faults (G.meter old)) (faults (G.meter new)) v h
IsJournalLeft G stops end v old new h = IsTrue G.tells → StandsForLog (G.image new) v h

-- Where no play began, each image of a journal's disk is one from before, or its header is shut, or it stands for no calls.
abbrev pub IsJournalTold : {D : Type 0} → Ghosts D → (stops : Call → Type 0) → RequestProgress → Volume → (old new : D) → List Event → Type 0
IsJournalTold G stops Unplayed v old new h = IsJournalBack G.tells G.meter G.image v old new
IsJournalTold G stops (Unopened index cause) v old new h = ⊥
IsJournalTold G stops (Performed end later) v old new h = IsJournalLeft G stops end v old new h

-- What a run leaves for one more, which goes on over its disks: they are as that run takes them, and the log is one of earlier runs,
-- if it has fewer than 2^63 events and no node is lost after it.
pub record MayBeResumed {D : Type 0} (image : D → List ℕ → Type 0) (v : Volume) (h : List Event) (disks : List D) : Type 0 where
  pub earlier : length h < 2 ^ 63 → ((n : ℕ) → IsNodeOf v n → phase (of_word (Node n) h) ≢ Lost) → IsEarlier v h
  pub left : AreLeft image v h disks

-- a run leaves that, however its play ended, but where the journal's disk failed
abbrev pub LeavesNext : PlayEnd → Type 0 → Type 0
LeavesNext Journal next = Unit {0}
LeavesNext end next = next

abbrev pub IsNextTold : {D : Type 0} → Ghosts D → RequestProgress → Volume → List D → List Event → Type 0
IsNextTold G Unplayed v new h = Unit {0}
IsNextTold G (Unopened index cause) v new h = Unit {0}
IsNextTold G (Performed end later) v new h = IsTrue G.tells → LeavesNext end (MayBeResumed G.image v h new)

-- The disks of the nodes, and behind them that of a journal. The faults of the nodes are told by the log with the records that were
-- asked for after it.
pub record AreAllBack {D : Type 0} (G : Ghosts D) (course : RequestProgress) (v : Volume) (lines : List Line) (lost : ℕ) (old new : List D) (h : List Event) : Type 0 where
  pub nodes : List D
  pub journal : D
  pub old_are : old ≡ nodes ++ journal ∷ []
  pub nodes_back : List D
  pub journal_back : D
  pub new_are : new ≡ nodes_back ++ journal_back ∷ []
  pub faults_told : AreFaultsTold G.meter v old nodes_back (asked_in course ++ h)
  pub images_told : AreImagesTold G course v nodes nodes_back h
  pub journal_told : IsJournalTold G (λ c. IsStoppedOver G.tells v (JournalRefused c) (new_world v) lines lost h) course v journal journal_back h
  pub next : IsNextTold G course v new h

-- The log of a play of these lines that went on after this one, by how it ended: when it began, nodes and export stood as that log
-- says. The link has lost at most so many messages then.
pub record IsPlayAfter (v : Volume) (old : List Event) (lines : List Line) (end : PlayEnd) (lost : ℕ) (h : List Event) : Type 0 where
  pub nodes : ℕ → NodeState
  pub export : Export
  pub fine : IsFine v old (world_after nodes export old)
  pub ended : IsEnded v (world_after nodes export old) lines end lost h

-- No update of such a play is lost, also where its block was published before, and each view of guarded blocks is whole.
abbrev pub AreLocksKept : Volume → List Event → List Line → List Event → Type 0
AreLocksKept v old lines h = (last : World) × IsKeptAfter v.layout (λ a. given a lines) old h last

-- A play that went on after this earlier log. Behind that log, with the nodes stopped and started, its own is that of a play of the
-- lines and is legal, and both are sound. No update is lost. Each of its lost messages was lost by a line or by the link, and
-- its disks' faults are counted by its own events. The images of each disk stand for what both logs say, and one more run may go
-- on after both.
pub record IsGoneOn {D : Type 0} (G : Ghosts D) (end : PlayEnd) (v : Volume) (lines : List Line) (lost : ℕ) (earlier : List Event)
    (disks : List D) (journal : D) (nodes_back : List D) (journal_back : D) (h : List Event) : Type 0 where
  pub old : List Event
  pub restarted : IsRestarted v earlier old
  pub played : IsPlayAfter v old lines end lost (h ++ old)
  pub run : IsRunAfter v old (h ++ old)
  pub kept : AreLocksKept v old lines (h ++ old)
  pub losses : missed h ≤ misses lines + lost
  pub faults_told : AreFaultsTold G.meter v disks nodes_back h
  pub images_told : AreImagesTold G (Performed end []) v disks nodes_back (h ++ old)
  pub journal_told : IsJournalLeft G (λ c. IsStoppedOver G.tells v (JournalRefused c) (world_after played.nodes played.export old) lines lost (h ++ old)) end v journal journal_back (h ++ old)
  pub next : LeavesNext end (MayBeResumed G.image v (h ++ old) (nodes_back ++ journal_back ∷ []))

-- The disks of the nodes, and behind them that of the journal, which were used again: each of them opened. Over disks that tell their
-- texts the play went on after each earlier log that the disks stood for. Over others the faults of the nodes are told by the log alone.
pub record AreUsedAgain {D : Type 0} (G : Ghosts D) (end : PlayEnd) (v : Volume) (lines : List Line) (lost : ℕ) (old new : List D) (h : List Event) : Type 0 where
  pub nodes : List D
  pub journal : D
  pub old_are : old ≡ nodes ++ journal ∷ []
  pub nodes_back : List D
  pub journal_back : D
  pub new_are : new ≡ nodes_back ++ journal_back ∷ []
  pub opened : AllOpen G.tells G.text v old
  pub untold : G.tells ≡ false → AreFaultsTold G.meter v old nodes_back h
  pub goes_on : IsTrue G.tells → (earlier : List Event) → IsEarlier v earlier → AreLeft G.image v earlier old
      → IsGoneOn G end v lines lost earlier old journal nodes_back journal_back h

-- Disks that were to be used again. Where no play began each has the text that it came with, each image is one from before, and no
-- count of faults fell; and where one did not open, this is why.
abbrev pub AreBackAgain : {D : Type 0} → Ghosts D → RequestProgress → Volume → List Line → ℕ → List D → List D → List Event → Type 0
AreBackAgain G Unplayed v lines lost old new h = AreDisksBack G.meter G.text G.image old new
AreBackAgain G (Unopened index cause) v lines lost old new h = AreDisksBack G.meter G.text G.image old new × IsCauseAgain G.tells G.meter G.text G.image v old new (Open index cause)
AreBackAgain G (Performed end later) v lines lost old new h = AreUsedAgain G end v lines lost old new h

-- the disks of a request that was played, which for `first` and `again` are one more than the nodes
abbrev pub AreBackFrom : {D : Type 0} → Ghosts D → RequestProgress → Wish → Volume → List Line → (lost : ℕ) → List D → List D → List Event → Type 0
AreBackFrom G course First v lines lost old new h = AreAllBack G course v lines lost old new h
AreBackFrom G course Again v lines lost old new h = AreBackAgain G course v lines lost old new h
AreBackFrom G course _ v lines lost old new h = AreFaultsTold G.meter v old new (asked_in course ++ h) × AreImagesTold G course v old new h

-- Where there is nothing to play the disks are as they came. Otherwise their images are told by the log, and their faults by the log
-- with the records that were asked for after it.
abbrev pub HandsBack : {D : Type 0} → Ghosts D → RequestProgress → Result Request Stop → (lost : ℕ) → List D → List D → List Event → Type 0
HandsBack G course (Ok r) lost old new h = AreBackFrom G course r.wish r.script.volume r.script.lines lost old new h
HandsBack G course (Err stop) lost old new h = new ≡ old
