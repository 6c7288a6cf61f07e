-- When nothing stands in the way of a run, so that it comes to its end.
use Rattle.std.specs.Prelude.{ℕ, Bool, true, false, ◌≡◌, ◌≤◌, ◌⊎◌, List, Option, Some, Ok, length}
use Rattle.std.specs.Io.KnownBytes.{Appends}
use Rattle.rz_disk.specs.Meter.{Meter}
use Rattle.rz_ports.specs.Counts.{Rises}
use Rattle.rz_events.specs.declared.events.Event.{Event}
use Rattle.rz_nodes.specs.Formatted.{IsCause}
use Rattle.rz_nodes.specs.declared.fault.DriverFault.TheVariants as faults
use Rattle.rz_script.specs.Grammar.{script}
use Rattle.rz_script.specs.Scripts.{Script}
use Rattle.rz_script_words.specs.declared.form.Form.TheVariants as forms
use Rattle.rz_show.specs.RunText.{run_text}
use Rattle.rz_request.specs.Line.{Meaning}
use Rattle.rz_request.specs.Input.{limit}
use Rattle.rz_request.specs.Requests.{Reading, is_large, nodes_in}
use Rattle.rz_request.specs.Runs.{wants_run}
use Rattle.rz_report.specs.Output.{Sunk, Lacks}
use Rattle.rz_run.specs.Done.{IsAllFinished}
use Rattle.rz_run.specs.Handed.{Handed}
use Rattle.rz_run.specs.Runs.{IsRunPlayed, IsUnplayed, Runs}

-- The words are those of a run. The text that the source has left is in the grammar and within the limit, and means the script, which
-- is within the limits and has a disk for each node. Neither the source nor the sink counted a fault, nor did a disk while it was
-- formatted, which is where no play began.
pub record IsRunClear {D L : Type 0} (tells : Bool) (meter : D → Meter) (image : D → List ℕ → Type 0) (words : Option Meaning) (source : Reading) (disks : Handed D) (links : Handed L) (sink : Sunk) (status : ℕ) (s : Script) : Type 0 where
  pub wanted : wants_run words ≡ true
  pub means : (text : List ℕ) × (source.before ≡ Some text) × (length text ≤ limit) × (script forms.Run text ≡ Ok s)
  pub small : is_large s ≡ false
  pub fits : length disks.old ≡ nodes_in s
  pub source_whole : ¬ Rises source.old source.new
  pub sink_whole : ¬ Rises sink.old sink.new
  pub formatted : IsUnplayed tells meter image s.volume disks links sink status → (index : ℕ) → ¬ IsCause meter disks.old disks.new (faults.Disk index)

-- The status is 0. The script was played with this log, in which everyone did all that the script gives it, and the sink took the
-- whole text of the log, with the number of its events.
pub record IsRunFinished {D L : Type 0} (tells : Bool) (meter : D → Meter) (image : D → List ℕ → Type 0) (count : L → ℕ) (s : Script) (disks : Handed D) (links : Handed L) (sink : Sunk) (status : ℕ) (h : List Event) : Type 0 where
  pub status_is : status ≡ 0
  pub played : IsRunPlayed tells meter image count s disks links sink status h
  pub all_done : IsAllFinished tells s.volume s.lines h
  pub taken : Appends sink.before sink.after (run_text h (length h))

-- Where nothing stands in its way, a run that returns has played the script, everyone to its end, or memory was wanting: what comes of
-- the words and the source leaves nothing else.
abbrev pub RunCompletes : {D L : Type 0} → (tells : Bool) → (D → Meter) → (D → List ℕ → Type 0) → (L → ℕ) → Type 0
RunCompletes {D = D} {L = L} tells meter image count =
    (words : Option Meaning) (source : Reading) (disks : Handed D) (links : Handed L) (sink : Sunk) (status : ℕ)
    → Runs tells meter image count words source disks links sink status
    → (s : Script) → IsRunClear tells meter image words source disks links sink status s
    → ((h : List Event) × IsRunFinished tells meter image count s disks links sink status h) ⊎ Lacks sink status
