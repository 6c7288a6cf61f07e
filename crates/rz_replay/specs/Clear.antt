-- When nothing stands in the way of a replay that goes on after earlier runs, so that it comes to its end.
use Rattle.std.specs.Prelude.{ℕ, ◌≡◌, ◌⊎◌, IsTrue, List, Option, Result, length}
use Rattle.rz_disk.specs.Meter.{Rises}
use Rattle.rz_disk.specs.declared.disk.Disk.{Ghosts}
use Rattle.rz_driver_nodes.specs.Meters.{faults_at}
use Rattle.rz_request.specs.Line.{Meaning}
use Rattle.rz_events.specs.declared.events.Event.{Event}
use Rattle.rz_script.specs.Scripts.{Script}
use Rattle.rz_restart_laws.specs.Earlier.{IsEarlier, IsRestarted}
use Rattle.rz_nodes.specs.declared.refusal.OpenRefusal.TheVariants.{Open}
use Rattle.rz_driver.specs.Continued.{AreLeft, IsCauseAgain}
use Rattle.rz_player.specs.declared.lines.PlayEnd.TheVariants.{TooManyTurns, JournalFull}
use Rattle.rz_request.specs.Requests.{Asks, Reading, nodes_in}
use Rattle.rz_request.specs.declared.refusal.Stop.{Stop}
use Rattle.rz_request.specs.declared.wishes.Request.{Request}
use Rattle.rz_request.specs.declared.wishes.Wish.TheVariants.{Again}
use Rattle.rz_report.specs.Clear.{IsPlayable, IsFinishedAgain}
use Rattle.rz_report.specs.Output.{Sunk, Lacks}
use Rattle.rz_report.specs.Replays.{RequestProgress, Performed, Ensues}
use Rattle.rz_replay.specs.Disks.{HandsBack, IsPlayAfter, faulted}

-- The words wish for the script to go on over disks as earlier runs with this log left them, of which none is such that it does not
-- open. No play of the script behind that log, with the nodes stopped and started, calls for a turn too many. The last disk, that of
-- the journal, counted no fault, and no call found it full.
pub record IsResumeClear {D : Type 0} (G : Ghosts D) (words : Option Meaning) (source : Reading) (old new : List D) (lost : ℕ) (course : RequestProgress) (sink : Sunk) (s : Script) (earlier : List Event) : Type 0 where
  pub playable : IsPlayable words source (length old) (faulted G.meter old new) course sink Again s
  pub is_earlier : IsEarlier s.volume earlier
  pub left : AreLeft G.image s.volume earlier old
  pub opened : (index cause : ℕ) → ¬ IsCauseAgain G.tells G.meter G.text G.image s.volume old new (Open index cause)
  pub turns : (before h : List Event) → IsRestarted s.volume earlier before → ¬ IsPlayAfter s.volume before s.lines TooManyTurns lost h
  pub journal : ¬ Rises (faults_at G.meter old (nodes_in s)) (faults_at G.meter new (nodes_in s))
  pub room : (later : List Event) → ¬ (course ≡ Performed JournalFull later)

-- Where nothing stands in its way, a replay that goes on after earlier runs, over disks that tell their texts, comes to its end, or
-- memory is wanting.
abbrev pub ResumeCompletes : {D : Type 0} → Ghosts D → Type 0
ResumeCompletes {D = D} G =
    (words : Option Meaning) (source : Reading) (old new : List D) (lost : ℕ) (sink : Sunk) (status : ℕ) (h : List Event) (course : RequestProgress) (r : Result Request Stop)
    → Asks words source (length old) r → Ensues G.tells course r (faulted G.meter old new) lost sink status h → HandsBack G course r lost old new h
    → IsTrue G.tells → (s : Script) (earlier : List Event) → IsResumeClear G words source old new lost course sink s earlier → IsFinishedAgain course sink status h ⊎ Lacks sink status
