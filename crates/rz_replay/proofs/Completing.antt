-- Where nothing stands in the way of a replay that goes on after earlier runs, nothing keeps its disks shut, or cuts it off.
use Rattle.std.proofs.Common.{ℕ, ◌≡◌, ◌⊎◌, inl, inr, IsTrue, List, ◌++◌, Result, Ok, Err, length, subst}
use Rattle.rz_disk.specs.declared.disk.Disk.{Ghosts}
use Rattle.rz_events.specs.declared.events.Event.{Event}
use Rattle.rz_script.specs.Scripts.{Script}
use Rattle.rz_restart_laws.specs.Earlier.{IsEarlier, IsRestarted}
use Rattle.rz_nodes.specs.declared.refusal.OpenRefusal.TheVariants.{Open}
use Rattle.rz_driver.specs.Continued.{AreLeft, IsCauseAgain}
use Rattle.rz_player.specs.declared.lines.PlayEnd.TheVariants as ends
use Rattle.rz_request.specs.Requests.{IsRequestFor, script_in}
use Rattle.rz_request.specs.declared.refusal.Stop.{Stop}
use Rattle.rz_request.specs.declared.wishes.Request.{Request}
use Rattle.rz_request.specs.declared.wishes.Wish.{Wish}
use Rattle.rz_request.specs.declared.wishes.Wish.TheVariants.{Again}
use Rattle.rz_report.specs.Clear.{IsCompleteAgain}
use Rattle.rz_report.specs.Output.{Sunk}
use Rattle.rz_report.specs.Replays.{RequestProgress, Unplayed, Unopened, Performed, Ensues}
use Rattle.rz_report.proofs.Asked.{HasCome}
use Rattle.rz_report.proofs.Completing.{come}
use Rattle.rz_replay.specs.Clear.{ResumeCompletes}
use Rattle.rz_replay.specs.Disks.{AreBackAgain, AreBackFrom, HandsBack, IsPlayAfter, faulted}

module _ {D : Type 0} (G : Ghosts D) (old new : List D) (lost : ℕ) (h : List Event) (s : Script) where
  -- how the disks come back where a play after earlier runs was asked for
  abbrev Back : RequestProgress → Type 0
  Back course = (course ≡ Unplayed) ⊎ AreBackAgain G course s.volume s.lines lost old new h

  back-from : (sink : Sunk) (status : ℕ) (course : RequestProgress) (result : Result Request Stop) → HasCome s (script_in result) → IsRequestFor Again result → Ensues G.tells course result (faulted G.meter old new) lost sink status h
      → HandsBack G course result lost old new h → Back course
  back-from sink status course (Err stop) came for e back = inl e.2
  back-from sink status course (Ok r) came for e back =
      let P : Script → Type 0 = λ x. AreBackFrom G course r.wish x.volume x.lines lost old new h in
      let Q : Wish → Type 0 = λ w. AreBackFrom G course w s.volume s.lines lost old new h in
      inr (subst Q for (subst P came back))

  all-opened : ((index cause : ℕ) → ¬ IsCauseAgain G.tells G.meter G.text G.image s.volume old new (Open index cause)) → (course : RequestProgress) → Back course → (index cause : ℕ) → course ≡ Unopened index cause → ⊥
  all-opened opens Unplayed back index cause is = cc
  all-opened opens (Unopened i k) (inl none) index cause is = cc
  all-opened opens (Unopened i k) (inr back) index cause is = absurd (opens i k back.1)
  all-opened opens (Performed end events) back index cause is = cc

  module _ (telling : IsTrue G.tells) (earlier : List Event) (is_earlier : IsEarlier s.volume earlier) (left : AreLeft G.image s.volume earlier old) where
    -- no turn too many was called for
    enough-turns : ((before g : List Event) → IsRestarted s.volume earlier before → ¬ IsPlayAfter s.volume before s.lines ends.TooManyTurns lost g) → (course : RequestProgress) → Back course
        → (later : List Event) → course ≡ Performed ends.TooManyTurns later → ⊥
    enough-turns turns Unplayed back later is = cc
    enough-turns turns (Unopened i k) back later is = cc
    enough-turns turns (Performed ends.Ended events) back later is = cc
    enough-turns turns (Performed ends.NoMemory events) back later is = cc
    enough-turns turns (Performed ends.Journal events) back later is = cc
    enough-turns turns (Performed ends.JournalFull events) back later is = cc
    enough-turns turns (Performed ends.TooManyTurns events) (inl none) later is = cc
    enough-turns turns (Performed ends.TooManyTurns events) (inr used) later is =
        let on = used.goes_on telling earlier is_earlier left in absurd (turns on.old (h ++ on.old) on.restarted on.played)

pub complete : IsCompleteAgain → {D : Type 0} (G : Ghosts D) → ResumeCompletes G
complete law G words source old new lost sink status h course result asks ensues back telling s earlier clear =
    let p = clear.playable in
    let came = come words source (length old) (faulted G.meter old new) course sink s result Again p asks in
    let how = back-from G old new lost h s sink status course result came.0 came.1 ensues back in
    law G.tells words source (length old) (faulted G.meter old new) lost sink status h course result asks ensues s (record {
      playable = p;
      opened = all-opened G old new lost h s clear.opened course how;
      turns = enough-turns G old new lost h s telling earlier clear.is_earlier clear.left clear.turns course how;
      journal = clear.journal;
      room = clear.room;
    })
