-- Where nothing stands in the way of a run, each answer but the end of the play and want of memory is excluded.
use Rattle.std.proofs.Common.{ℕ, Bool, true, ◌≡◌, ◌⊎◌, inl, inr, List, Result, Ok, Err, length, subst}
use Rattle.rz_disk.specs.Meter.{Meter}
use Rattle.rz_ports.specs.Counts.{Rises}
use Rattle.rz_events.specs.declared.events.Event.{Event}
use Rattle.rz_nodes.specs.Formatted.{IsCause}
use Rattle.rz_nodes.specs.declared.fault.DriverFault.{DriverFault}
use Rattle.rz_nodes.specs.declared.fault.DriverFault.TheVariants as faults
use Rattle.rz_script.specs.Scripts.{Script}
use Rattle.rz_script_words.specs.declared.form.Form.TheVariants as forms
use Rattle.rz_request.specs.Requests.{nodes_in}
use Rattle.rz_request.specs.Runs.{AsksIf}
use Rattle.rz_request.specs.declared.refusal.Stop.{Stop}
use Rattle.rz_request.specs.declared.refusal.Stop.TheVariants as stops
use Rattle.rz_report.specs.Output.{Sunk, Lacks}
use Rattle.rz_report.specs.Telling.{TellsUnformatted}
use Rattle.rz_report.proofs.Asked.{HasCome, has-come}
use Rattle.rz_run.specs.Clear.{RunCompletes, IsRunFinished}
use Rattle.rz_run.specs.Handed.{Handed}
use Rattle.rz_run.specs.Runs.{FollowsRun, IsRunPlayed, IsToldOf, IsUnplayed, PlaysRun}

module _ {D L : Type 0} (tells : Bool) (meter : D → Meter) (image : D → List ℕ → Type 0) (count : L → ℕ) (disks : Handed D) (links : Handed L) (sink : Sunk) (status : ℕ) (s : Script)
    (sink_whole : ¬ Rises sink.old sink.new) (formatted : IsUnplayed tells meter image s.volume disks links sink status → (index : ℕ) → ¬ IsCause meter disks.old disks.new (faults.Disk index)) where
  -- what the law says of the run
  abbrev Comes : Type 0
  Comes = ((h : List Event) × IsRunFinished tells meter image count s disks links sink status h) ⊎ Lacks sink status

  -- no disk failed
  only-lacks : (fault : DriverFault) → IsCause meter disks.old disks.new fault → TellsUnformatted fault sink status → ((index : ℕ) → ¬ IsCause meter disks.old disks.new (faults.Disk index)) → Lacks sink status
  only-lacks faults.NoMemory cause lacks none = lacks
  only-lacks (faults.Disk index) cause refuses none = absurd (none index cause)

  told : (h : List Event) → IsRunPlayed tells meter image count s disks links sink status h → IsToldOf tells s.volume s.lines h sink status → Comes
  told h played (inl (all, inl took)) = inl (
    h,
    record {
      status_is = took.0;
      played = played;
      all_done = all;
      taken = took.1;
    },
  )
  told h played (inl (all, inr failed)) = absurd (sink_whole failed.1)
  told h played (inr (begun, lacks)) = inr lacks

  plays : PlaysRun tells meter image count s disks links sink status → Comes
  plays (inl unplayed) = inr (only-lacks unplayed.fault unplayed.cause unplayed.told (formatted unplayed))
  plays (inr (h, played)) = told h played played.told

  follows : (r : Result Script Stop) → HasCome s r → FollowsRun tells meter image count r disks links sink status → Comes
  follows (Ok came) is so = plays (subst (λ (x : Script). PlaysRun tells meter image count x disks links sink status) is so)
  follows (Err stops.NoMemory) is so = inr so.0
  follows (Err stops.Source) is so = absurd is
  follows (Err (stops.Refused refusal)) is so = absurd is

pub complete : {D L : Type 0} (tells : Bool) (meter : D → Meter) (image : D → List ℕ → Type 0) (count : L → ℕ) → RunCompletes tells meter image count
complete tells meter image count words source disks links sink status (r, asks, so) s clear =
    let text = clear.means in
    let asked : AsksIf true words source (length disks.old) r = subst (λ (b : Bool). AsksIf b words source (length disks.old) r) clear.wanted asks in
    let came = has-come forms.Run source nodes_in (length disks.old) s clear.source_whole text.0 text.1 text.2 text.3 clear.small clear.fits r asked in
    follows tells meter image count disks links sink status s clear.sink_whole clear.formatted r came so
