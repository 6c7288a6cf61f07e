-- What a run on threads comes to.
use Rattle.std.specs.Prelude.{ℕ, Bool, ◌≡◌, ◌⊎◌, IsTrue, List, Option, Result, Ok, Err, length}
use Rattle.rz_disk.specs.Meter.{Meter}
use Rattle.rz_events.specs.Volume.{Volume, nodes_of}
use Rattle.rz_events.specs.declared.events.Event.{Event}
use Rattle.rz_nodes.specs.Formatted.{AreBack, IsCause}
use Rattle.rz_nodes.specs.declared.fault.DriverFault.{DriverFault}
use Rattle.rz_script.specs.Scripts.{Script}
use Rattle.rz_script.specs.declared.line.Line.{Line}
use Rattle.rz_show.specs.RunText.{run_text}
use Rattle.rz_request.specs.Line.{Meaning}
use Rattle.rz_request.specs.Requests.{Reading}
use Rattle.rz_request.specs.Runs.{AsksRun}
use Rattle.rz_request.specs.declared.refusal.Stop.{Stop}
use Rattle.rz_report.specs.Output.{Sunk, Ends, Lacks}
use Rattle.rz_report.specs.Telling.{TellsUnformatted, Stops}
use Rattle.rz_run.specs.Done.{IsAllBegun, IsAllFinished, IsTrueLog, NobodyElseActs}
use Rattle.rz_run.specs.Handed.{AreDisksTold, AreLinksTold, Handed}

-- No play began. Either memory was wanting, or a disk failed while it was formatted, and its faults rose. Each image of each disk is
-- one from before, or its header is shut, or it stands for nothing. The links are as they came.
pub record IsUnplayed {D L : Type 0} (tells : Bool) (meter : D → Meter) (image : D → List ℕ → Type 0) (v : Volume) (disks : Handed D) (links : Handed L) (sink : Sunk) (status : ℕ) : Type 0 where
  pub fault : DriverFault
  pub cause : IsCause meter disks.old disks.new fault
  pub told : TellsUnformatted fault sink status
  pub disks_back : AreBack tells meter image v.layout (nodes_of v.clusters) disks.old disks.new
  pub links_back : links.new ≡ links.old

-- Everything was done, and the text of the log was to be written, with the number of its events. Or memory was wanting for someone,
-- or for the text: then the first part of everything was done, and nothing is written.
abbrev pub IsToldOf : Bool → Volume → List Line → List Event → Sunk → ℕ → Type 0
IsToldOf honest v lines h sink status =
    (IsAllFinished honest v lines h × Ends sink 0 (run_text h (length h)) status)
    ⊎ (IsAllBegun honest v lines h × Lacks sink status)

-- A script was played with this log, the newest event first. The log says what each actor did, and that nobody else did anything, and
-- how disks and links come back. Where the disks tell what they hold, its book is honest, and the log is true.
pub record IsRunPlayed {D L : Type 0} (tells : Bool) (meter : D → Meter) (image : D → List ℕ → Type 0) (count : L → ℕ) (s : Script) (disks : Handed D) (links : Handed L) (sink : Sunk) (status : ℕ) (h : List Event) : Type 0 where
  pub told : IsToldOf tells s.volume s.lines h sink status
  pub acting : NobodyElseActs s.lines h
  pub true_log : IsTrue tells → IsTrueLog s.volume h
  pub disks_told : AreDisksTold tells meter image s.volume h disks
  pub links_told : AreLinksTold count h links

-- what comes of a script over disks
abbrev pub PlaysRun : {D L : Type 0} → (tells : Bool) → (D → Meter) → (D → List ℕ → Type 0) → (L → ℕ) → Script → Handed D → Handed L → Sunk → ℕ → Type 0
PlaysRun tells meter image count s disks links sink status =
    IsUnplayed tells meter image s.volume disks links sink status
    ⊎ ((h : List Event) × IsRunPlayed tells meter image count s disks links sink status h)

-- a script is played; or there is none, that is told, and disks and links are as they came
abbrev pub FollowsRun : {D L : Type 0} → (tells : Bool) → (D → Meter) → (D → List ℕ → Type 0) → (L → ℕ) → Result Script Stop → Handed D → Handed L → Sunk → ℕ → Type 0
FollowsRun tells meter image count (Ok s) disks links sink status = PlaysRun tells meter image count s disks links sink status
FollowsRun tells meter image count (Err stop) disks links sink status = Stops stop sink status × (disks.new ≡ disks.old) × (links.new ≡ links.old)

-- A run at words of this meaning, over a source, disks that tell what they hold or do not, links and a sink: what the words and the
-- source ask for of so many disks is answered, and played.
abbrev pub Runs : {D L : Type 0} → (tells : Bool) → (D → Meter) → (D → List ℕ → Type 0) → (L → ℕ) → Option Meaning → Reading → Handed D → Handed L → Sunk → ℕ → Type 0
Runs tells meter image count words source disks links sink status =
    (r : Result Script Stop) × AsksRun words source (length disks.old) r × FollowsRun tells meter image count r disks links sink status
