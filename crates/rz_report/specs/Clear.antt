-- When nothing stands in the way of a replay, so that it comes to its end.
use Rattle.std.specs.Prelude.{ℕ, Bool, true, false, ◌≡◌, ◌≢◌, ◌≤◌, ◌⊎◌, IsTrue, List, [], Option, Some, Result, Ok, length, reverse}
use Rattle.std.specs.Io.KnownBytes.{Appends}
use Rattle.rz_disk.specs.Meter.{Rises as HasRisen}
use Rattle.rz_ports.specs.Counts.{Rises}
use Rattle.rz_request.specs.Line.{Meaning}
use Rattle.rz_events.specs.declared.events.Event.{Event}
use Rattle.rz_generate.specs.Workload.{workload}
use Rattle.rz_script.specs.Grammar.{script}
use Rattle.rz_script.specs.Scripts.{Script}
use Rattle.rz_script_words.specs.declared.form.Form.TheVariants as forms
use Rattle.rz_play.specs.World.{World, new_world}
use Rattle.rz_play.specs.Stops.{TurnsSpent}
use Rattle.rz_play.specs.Played.{StopsLinesOver}
use Rattle.rz_play.specs.Played.{IsPlayed}
use Rattle.rz_player.specs.Ends.{IsEndedOver}
use Rattle.rz_player.specs.declared.lines.PlayEnd.TheVariants.{Ended, TooManyTurns, JournalFull}
use Rattle.rz_show.specs.Text.{text_of}
use Rattle.rz_request.specs.Input.{limit}
use Rattle.rz_request.specs.Requests.{Asks, Reading, disks_for, is_large, nodes_in, wished}
use Rattle.rz_request.specs.declared.refusal.Stop.{Stop}
use Rattle.rz_request.specs.declared.wishes.Request.{Request}
use Rattle.rz_request.specs.declared.wishes.Wish.{Wish}
use Rattle.rz_request.specs.declared.wishes.Wish.TheVariants as wishes
use Rattle.rz_report.specs.Output.{Sunk, Lacks}
use Rattle.rz_report.specs.Replays.{Faulted, RequestProgress, Unplayed, Unopened, Performed, Ensues}
use Rattle.rz_report.specs.Scrubs.{AreScrubsFound}
use Rattle.rz_report.specs.Telling.{text_told}

-- what is wished for is this script: it is the workload of the seed, or the text of the source, which is in the grammar and within the
-- limit, means it
abbrev pub Means : Wish → Option (List ℕ) → Script → Type 0
Means (wishes.Load seed) left s = workload seed ≡ s
Means wish left s = (text : List ℕ) × (left ≡ Some text) × (length text ≤ limit) × (script forms.Replay text ≡ Ok s)

-- The words wish for a play of the script, which is within the limits and has the disks that it needs. Neither the source nor the sink
-- counted a fault, nor did a disk while it was formatted, which is where no play began.
pub record IsPlayable (words : Option Meaning) (source : Reading) (count : ℕ) (disks : Faulted) (course : RequestProgress) (sink : Sunk) (wish : Wish) (s : Script) : Type 0 where
  pub wanted : wished words ≡ Some wish
  pub means : Means wish source.before s
  pub small : is_large s ≡ false
  pub fits : count ≡ disks_for wish s
  pub source_whole : ¬ Rises source.old source.new
  pub sink_whole : ¬ Rises sink.old sink.new
  pub formatted : course ≡ Unplayed → (i : ℕ) → ¬ HasRisen (disks.old i) (disks.new i)

-- Plays that begin anew.

-- Nothing stands in the way of such a play: none of the script on a new volume, over disks that tell their texts or that do not, calls
-- for a turn too many. Where there is a journal, its disk, which is behind those of the nodes, counted no fault, and no call found it
-- full.
pub record IsReplayClear (tells : Bool) (words : Option Meaning) (source : Reading) (count : ℕ) (disks : Faulted) (course : RequestProgress) (sink : Sunk) (wish : Wish) (s : Script) : Type 0 where
  pub playable : IsPlayable words source count disks course sink wish s
  pub anew : wish ≢ wishes.Again
  pub turns : (last : World) → ¬ StopsLinesOver s.volume TurnsSpent s.lines tells (new_world s.volume) last
  pub journal : wish ≡ wishes.First → ¬ HasRisen (disks.old (nodes_in s)) (disks.new (nodes_in s))
  pub room : (later : List Event) → ¬ (course ≡ Performed JournalFull later)

-- The status is 0. The script was played to its end: over disks that tell their texts the log is that of its play, over others of one
-- in which a start and a read may find anything. The sink took all that is to be told of it.
pub record IsReplayFinished (tells : Bool) (wish : Wish) (s : Script) (lost : ℕ) (sink : Sunk) (status : ℕ) (h : List Event) : Type 0 where
  pub status_is : status ≡ 0
  pub played : IsTrue tells → IsPlayed s.volume s.lines h
  pub over : IsEndedOver tells s.volume (new_world s.volume) s.lines Ended lost h
  pub later : List Event
  pub found : List ℕ
  pub sought : AreScrubsFound tells s.volume s.lines Ended wish h later found
  pub taken : Appends sink.before sink.after (text_told wish found (reverse h))

-- Where nothing stands in its way, a replay that begins anew plays the script to its end, or memory is wanting: the answer to what is
-- asked for, and what comes of it, leave nothing else.
abbrev pub ReplayCompletes : Type 0
ReplayCompletes = (tells : Bool) (words : Option Meaning) (source : Reading) (count : ℕ) (disks : Faulted) (lost : ℕ) (sink : Sunk) (status : ℕ) (h : List Event) (course : RequestProgress) (r : Result Request Stop)
    → Asks words source count r → Ensues tells course r disks lost sink status h
    → (wish : Wish) (s : Script) → IsReplayClear tells words source count disks course sink wish s → IsReplayFinished tells wish s lost sink status h ⊎ Lacks sink status

-- A play after earlier runs.

-- Nothing stands in its way: all disks opened, the journal's, which is behind those of the nodes, counted no fault, and neither a turn
-- too many nor the journal's want of room cut the play off.
pub record IsClearAgain (words : Option Meaning) (source : Reading) (count : ℕ) (disks : Faulted) (course : RequestProgress) (sink : Sunk) (s : Script) : Type 0 where
  pub playable : IsPlayable words source count disks course sink wishes.Again s
  pub opened : (index cause : ℕ) → ¬ (course ≡ Unopened index cause)
  pub turns : (later : List Event) → ¬ (course ≡ Performed TooManyTurns later)
  pub journal : ¬ HasRisen (disks.old (nodes_in s)) (disks.new (nodes_in s))
  pub room : (later : List Event) → ¬ (course ≡ Performed JournalFull later)

-- the status is 0, the play came to its end, no records were asked for, and the sink took the whole text of the log of this play
pub record IsFinishedAgain (course : RequestProgress) (sink : Sunk) (status : ℕ) (h : List Event) : Type 0 where
  pub status_is : status ≡ 0
  pub ended : course ≡ Performed Ended []
  pub taken : Appends sink.before sink.after (text_of (reverse h) true)

-- Where nothing stands in its way, a replay that goes on after earlier runs comes to its end, or memory is wanting.
abbrev pub IsCompleteAgain : Type 0
IsCompleteAgain = (tells : Bool) (words : Option Meaning) (source : Reading) (count : ℕ) (disks : Faulted) (lost : ℕ) (sink : Sunk) (status : ℕ) (h : List Event) (course : RequestProgress) (r : Result Request Stop)
    → Asks words source count r → Ensues tells course r disks lost sink status h
    → (s : Script) → IsClearAgain words source count disks course sink s → IsFinishedAgain course sink status h ⊎ Lacks sink status
