-- What a replay of a request over disks comes to.
use Rattle.std.specs.Prelude.{ℕ, Bool, ◌≡◌, ◌≢◌, ◌⊎◌, IsTrue, List, [], Result, Ok, Err}
use Rattle.rz_events.specs.Volume.{Volume}
use Rattle.rz_script.specs.declared.line.Line.{Line}
use Rattle.rz_disk.specs.Meter.{Rises as HasRisen}
use Rattle.rz_ports.specs.Counts.{Rises}
use Rattle.rz_events.specs.declared.events.Event.{Event}
use Rattle.rz_player.specs.declared.lines.PlayEnd.{PlayEnd}
use Rattle.rz_player.specs.declared.lines.PlayEnd.TheVariants.{Journal, JournalFull}
use Rattle.rz_request.specs.Requests.{nodes_in}
use Rattle.rz_request.specs.declared.refusal.Refusal.TheVariants as refusals
use Rattle.rz_request.specs.declared.refusal.Stop.{Stop}
use Rattle.rz_request.specs.declared.wishes.Request.{Request}
use Rattle.rz_request.specs.declared.wishes.Wish.{Wish}
use Rattle.rz_request.specs.declared.wishes.Wish.TheVariants.{First, Again}
use Rattle.rz_report.specs.Output.{Sunk, Lacks}
use Rattle.rz_report.specs.Telling.{PerformsAs, TellsRefusal, Stops}
use Rattle.rz_report.specs.Told.{IsPlayReported}

-- the faults of each disk, by its place, before and after
pub record Faulted : Type 0 where
  pub old : ℕ → ℕ
  pub new : ℕ → ℕ

-- How far a request came: no play of it began, or none since the disk with this index does not open again, for a cause with this
-- number; or its script was played to this end, and then these records were asked for.
pub data RequestProgress : Type 0 where
  Unplayed : RequestProgress
  Unopened : (index cause : ℕ) → RequestProgress
  Performed : (end : PlayEnd) (later : List Event) → RequestProgress

-- `first` and `again` alone have a journal
abbrev pub HasJournal : Wish → Type 0
HasJournal First = Unit {0}
HasJournal Again = Unit {0}
HasJournal _ = ⊥

-- A journal ended a play: the faults of its disk, which is behind those of the nodes, rose; or it had no room for a call.
abbrev pub MayEnd : PlayEnd → Request → Faulted → Type 0
MayEnd Journal r disks = HasJournal r.wish × HasRisen (disks.old (nodes_in r.script)) (disks.new (nodes_in r.script))
MayEnd JournalFull r disks = HasJournal r.wish
MayEnd _ r disks = Unit {0}

-- A request that came so far, with so many messages lost by the link. No play began where memory was wanting, or where a disk
-- that was not to be used again failed while it was formatted, and its faults rose. One that was to be used again may not open:
-- then its line was to be written.
abbrev pub Opens : Bool → RequestProgress → Request → Faulted → (lost : ℕ) → Sunk → ℕ → List Event → Type 0
Opens tells Unplayed r disks lost sink status h =
    (Lacks sink status × (h ≡ []))
    ⊎ ((index : ℕ) × (r.wish ≢ Again) × Rises (disks.old index) (disks.new index) × TellsRefusal (refusals.Disk index) sink status × (h ≡ []))
Opens tells (Unopened index cause) r disks lost sink status h = (r.wish ≡ Again) × TellsRefusal (refusals.Open index cause) sink status × (h ≡ [])
Opens tells (Performed end later) r disks lost sink status h = MayEnd end r disks × PerformsAs tells r.script.volume r.script.lines r.wish end later lost h sink status

-- the log of a play that begins anew is true; that of one after earlier runs is, behind the log of those
abbrev pub IsToldAs : Wish → Volume → List Line → (lost : ℕ) → List Event → Type 0
IsToldAs Again v lines lost h = Unit {0}
IsToldAs wish v lines lost h = IsPlayReported v lines lost h

-- A request is played. Over disks that tell their texts the log is true.
abbrev pub FollowsRequest : Bool → RequestProgress → Request → Faulted → (lost : ℕ) → Sunk → ℕ → List Event → Type 0
FollowsRequest tells course r disks lost sink status h =
    Opens tells course r disks lost sink status h × (IsTrue tells → IsToldAs r.wish r.script.volume r.script.lines lost h)

-- there is nothing to play, or a request that is played
abbrev pub Ensues : Bool → RequestProgress → Result Request Stop → Faulted → (lost : ℕ) → Sunk → ℕ → List Event → Type 0
Ensues tells course (Ok r) disks lost sink status h = FollowsRequest tells course r disks lost sink status h
Ensues tells course (Err stop) disks lost sink status h = Stops stop sink status × (h ≡ []) × (course ≡ Unplayed)
