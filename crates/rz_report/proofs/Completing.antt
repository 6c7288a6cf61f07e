-- Where nothing stands in the way of a replay, each answer but the end of the play and want of memory is excluded.
use Rattle.std.proofs.Common.{ℕ, Bool, IsTrue, ◌≡◌, ◌≢◌, ◌⊎◌, inl, inr, List, Option, Some, Result, Ok, Err, refl, sym, ◌∙◌, ap, subst, arith}
use Rattle.rz_disk.specs.Meter.{Rises as HasRisen}
use Rattle.rz_ports.specs.Counts.{Rises}
use Rattle.rz_request.specs.Line.{Meaning}
use Rattle.rz_events.specs.declared.events.Event.{Event}
use Rattle.rz_generate.specs.Workload.{workload}
use Rattle.rz_script.specs.Scripts.{Script}
use Rattle.rz_script_words.specs.declared.form.Form.TheVariants as forms
use Rattle.rz_script.specs.declared.fault.ScriptError.{ScriptError}
use Rattle.rz_play.specs.World.{World, new_world}
use Rattle.rz_play.specs.Stops.{TurnsSpent}
use Rattle.rz_play.specs.Played.{StopsLinesOver}
use Rattle.rz_player.specs.Ends.{IsEnded, IsEndedOver}
use Rattle.rz_player.specs.declared.lines.PlayEnd.{PlayEnd}
use Rattle.rz_player.specs.declared.lines.PlayEnd.TheVariants as ends
use Rattle.rz_request.specs.Requests.{Asks, Reading, AsksFor, IsRequestFor, ReadsRequest, disks_for, nodes_in, script_in}
use Rattle.rz_request.specs.declared.refusal.Stop.{Stop}
use Rattle.rz_request.specs.declared.refusal.Stop.TheVariants as stops
use Rattle.rz_request.specs.declared.wishes.Request.{Request}
use Rattle.rz_request.specs.declared.wishes.Wish.{Wish}
use Rattle.rz_request.specs.declared.wishes.Wish.TheVariants as wishes
use Rattle.rz_report.specs.Output.{Sunk, Lacks}
use Rattle.rz_report.specs.Telling.{Tells, Performs, PerformsAs, TellsOwn}
use Rattle.rz_report.specs.Replays.{Faulted, RequestProgress, Unplayed, Unopened, Performed, HasJournal, MayEnd, Opens, Ensues}
use Rattle.rz_report.specs.Clear.{Means, IsPlayable, IsReplayFinished, IsFinishedAgain, ReplayCompletes, IsCompleteAgain}
use Rattle.rz_report.proofs.Asked.{HasCome, judged, has-come}

-- What is asked for.

module _ (words : Option Meaning) (source : Reading) (count : ℕ) (disks : Faulted) (course : RequestProgress) (sink : Sunk) (s : Script) (result : Result Request Stop) where
  from-text : (wish : Wish) → IsPlayable words source count disks course sink wish s → Means wishes.Replay source.before s → ReadsRequest source wish count result → HasCome s (script_in result)
  from-text wish playable (text, left, short, means) reads =
      has-come forms.Replay source (disks_for wish) count s playable.source_whole text left short means playable.small playable.fits (script_in result) reads

  asked-for : (wish : Wish) → IsPlayable words source count disks course sink wish s → AsksFor (Some wish) words source count result → HasCome s (script_in result) × IsRequestFor wish result
  asked-for wishes.Replay playable asked = (from-text wishes.Replay playable playable.means asked.0, asked.1)
  asked-for wishes.Scrub playable asked = (from-text wishes.Scrub playable playable.means asked.0, asked.1)
  asked-for wishes.First playable asked = (from-text wishes.First playable playable.means asked.0, asked.1)
  asked-for wishes.Again playable asked = (from-text wishes.Again playable playable.means asked.0, asked.1)
  asked-for (wishes.Load seed) playable asked =
      let is : ◌≡◌ {A = Result Script ScriptError} (Ok (workload seed)) (Ok s) = ap (λ (x : Script). Ok x) playable.means in
      (judged (Ok (workload seed)) (disks_for (wishes.Load seed)) count s is playable.small playable.fits (script_in result) asked.0, asked.1)

  -- it is the script, or memory was wanting
  pub come : (wish : Wish) → IsPlayable words source count disks course sink wish s → Asks words source count result → HasCome s (script_in result) × IsRequestFor wish result
  come wish playable asks = asked-for wish playable (subst (λ (w : Option Wish). AsksFor w words source count result) playable.wanted asks)

-- What comes of it.

-- a count that rose as a stream counts has risen as a disk counts
has-risen : (old new : ℕ) → Rises old new → HasRisen old new
has-risen old new rises = omega (arith, rises)

-- a play that begins anew has a journal for `first` alone
only-first : (w : Wish) → w ≢ wishes.Again → HasJournal w → w ≡ wishes.First
only-first wishes.Replay anew has = absurd has
only-first (wishes.Load seed) anew has = absurd has
only-first wishes.Scrub anew has = absurd has
only-first wishes.First anew has = refl
only-first wishes.Again anew has = absurd (anew refl)

module _ (tells : Bool) (disks : Faulted) (lost : ℕ) (sink : Sunk) (status : ℕ) (h : List Event) (s : Script) (sink_whole : ¬ Rises sink.old sink.new) where
  -- of a request that came, what follows; or memory was wanting
  ensued : (Goal : Type 0) (wish : Wish) (course : RequestProgress) (result : Result Request Stop) → ((r : Request) → r.script ≡ s → r.wish ≡ wish → Opens tells course r disks lost sink status h → Goal ⊎ Lacks sink status)
      → HasCome s (script_in result) → IsRequestFor wish result → Ensues tells course result disks lost sink status h → Goal ⊎ Lacks sink status
  ensued Goal wish course (Ok r) follows came for e = follows r came for e.0
  ensued Goal wish course (Err stops.NoMemory) follows came for e = inr e.0
  ensued Goal wish course (Err stops.Source) follows came for e = absurd came
  ensued Goal wish course (Err (stops.Refused refusal)) follows came for e = absurd came

  -- A play that begins anew.

  module _ (wish : Wish) (anew : wish ≢ wishes.Again) (turns : (last : World) → ¬ StopsLinesOver s.volume TurnsSpent s.lines tells (new_world s.volume) last)
      (journal : wish ≡ wishes.First → ¬ HasRisen (disks.old (nodes_in s)) (disks.new (nodes_in s))) where
    -- the journal's disk did not end the play
    kept-journal : (end : PlayEnd) (r : Request) → r.script ≡ s → r.wish ≡ wish → MayEnd end r disks → end ≡ ends.Journal → ⊥
    kept-journal ends.Journal r script_is wish_is may is =
        let first : r.wish ≡ wishes.First = only-first r.wish (λ again. anew (sym wish_is ∙ again)) may.0 in
        journal (sym wish_is ∙ first) (subst (λ (x : Script). HasRisen (disks.old (nodes_in x)) (disks.new (nodes_in x))) script_is may.1)
    kept-journal ends.Ended r script_is wish_is may is = cc
    kept-journal ends.TooManyTurns r script_is wish_is may is = cc
    kept-journal ends.NoMemory r script_is wish_is may is = cc
    kept-journal ends.JournalFull r script_is wish_is may is = cc

    told-end : (end : PlayEnd) (later : List Event) → ¬ (end ≡ ends.Journal) → ¬ (end ≡ ends.JournalFull) → (IsTrue tells → IsEnded s.volume (new_world s.volume) s.lines end lost h)
        → IsEndedOver tells s.volume (new_world s.volume) s.lines end lost h → Tells tells s.volume s.lines end wish h later sink status → IsReplayFinished tells wish s lost sink status h ⊎ Lacks sink status
    told-end ends.Ended later kept room ended over (may, inl (found, sought, inl took)) = inl (record {
      status_is = took.0;
      played = λ telling. (ended telling).0;
      over = over;
      later = later;
      found = found;
      sought = sought;
      taken = took.1;
    })
    told-end ends.Ended later kept room ended over (may, inl (found, sought, inr failed)) = absurd (sink_whole failed.1)
    told-end ends.Ended later kept room ended over (may, inr lacks) = inr lacks
    told-end ends.TooManyTurns later kept room ended over t = absurd (turns over.last over.played)
    told-end ends.NoMemory later kept room ended over (may, inl (found, sought, says)) = absurd says
    told-end ends.NoMemory later kept room ended over (may, inr lacks) = inr lacks
    told-end ends.Journal later kept room ended over t = absurd (kept refl)
    told-end ends.JournalFull later kept room ended over t = absurd (room refl)

    performed-as : (w : Wish) (end : PlayEnd) (later : List Event) → w ≢ wishes.Again → PerformsAs tells s.volume s.lines w end later lost h sink status → Performs tells s.volume s.lines w end later lost h sink status
    performed-as wishes.Replay end later new p = p
    performed-as (wishes.Load seed) end later new p = p
    performed-as wishes.Scrub end later new p = p
    performed-as wishes.First end later new p = p
    performed-as wishes.Again end later new p = absurd (new refl)

    followed : (course : RequestProgress) → (course ≡ Unplayed → (i : ℕ) → ¬ HasRisen (disks.old i) (disks.new i)) → ((later : List Event) → ¬ (course ≡ Performed ends.JournalFull later)) → (r : Request) → r.script ≡ s → r.wish ≡ wish
        → Opens tells course r disks lost sink status h → IsReplayFinished tells wish s lost sink status h ⊎ Lacks sink status
    followed Unplayed formatted room r script_is wish_is (inl lacks) = inr lacks.0
    followed Unplayed formatted room r script_is wish_is (inr failed) = absurd (formatted refl failed.0 (has-risen (disks.old failed.0) (disks.new failed.0) failed.2))
    followed (Unopened index cause) formatted room r script_is wish_is unopened = absurd (anew (sym wish_is ∙ unopened.0))
    followed (Performed end later) formatted room r script_is wish_is performed =
        let P : Script → Type 0 = λ x. PerformsAs tells x.volume x.lines r.wish end later lost h sink status in
        let Q : Wish → Type 0 = λ w. PerformsAs tells s.volume s.lines w end later lost h sink status in
        let p = performed-as wish end later anew (subst Q wish_is (subst P script_is performed.1)) in
        told-end end later (kept-journal end r script_is wish_is performed.0) (λ is. room later (ap (λ (e : PlayEnd). Performed e later) is)) p.0 p.1 p.3

  -- A play after earlier runs.

  own-end : (end : PlayEnd) (later : List Event) → ¬ (end ≡ ends.TooManyTurns) → (end ≡ ends.Journal → ⊥) → ¬ (end ≡ ends.JournalFull) → TellsOwn end wishes.Again later h sink status
      → IsFinishedAgain (Performed end later) sink status h ⊎ Lacks sink status
  own-end ends.Ended later turns journal room (may, inl (found, inl took)) = inl (record {
    status_is = took.0;
    ended = ap (λ (events : List Event). Performed ends.Ended events) may;
    taken = took.1;
  })
  own-end ends.Ended later turns journal room (may, inl (found, inr failed)) = absurd (sink_whole failed.1)
  own-end ends.Ended later turns journal room (may, inr lacks) = inr lacks
  own-end ends.TooManyTurns later turns journal room own = absurd (turns refl)
  own-end ends.NoMemory later turns journal room (may, inl (found, says)) = absurd says
  own-end ends.NoMemory later turns journal room (may, inr lacks) = inr lacks
  own-end ends.Journal later turns journal room own = absurd (journal refl)
  own-end ends.JournalFull later turns journal room own = absurd (room refl)

  -- the disk of the journal failed
  failed : (end : PlayEnd) (r : Request) → r.script ≡ s → ¬ HasRisen (disks.old (nodes_in s)) (disks.new (nodes_in s)) → MayEnd end r disks → end ≡ ends.Journal → ⊥
  failed ends.Journal r script_is whole may is = whole (subst (λ (x : Script). HasRisen (disks.old (nodes_in x)) (disks.new (nodes_in x))) script_is may.1)
  failed ends.Ended r script_is whole may is = cc
  failed ends.TooManyTurns r script_is whole may is = cc
  failed ends.NoMemory r script_is whole may is = cc
  failed ends.JournalFull r script_is whole may is = cc

  gone-on : (course : RequestProgress) → (course ≡ Unplayed → (i : ℕ) → ¬ HasRisen (disks.old i) (disks.new i)) → ((index cause : ℕ) → ¬ (course ≡ Unopened index cause))
      → ((end : PlayEnd) (later : List Event) → course ≡ Performed end later → ¬ (end ≡ ends.TooManyTurns) × ¬ (end ≡ ends.JournalFull)) → ¬ HasRisen (disks.old (nodes_in s)) (disks.new (nodes_in s)) → (r : Request) → r.script ≡ s → r.wish ≡ wishes.Again
      → Opens tells course r disks lost sink status h → IsFinishedAgain course sink status h ⊎ Lacks sink status
  gone-on Unplayed formatted opened uncut whole r script_is wish_is (inl lacks) = inr lacks.0
  gone-on Unplayed formatted opened uncut whole r script_is wish_is (inr failed) = absurd (failed.1 wish_is)
  gone-on (Unopened index cause) formatted opened uncut whole r script_is wish_is unopened = absurd (opened index cause refl)
  gone-on (Performed end later) formatted opened uncut whole r script_is wish_is performed =
      let Q : Wish → Type 0 = λ w. PerformsAs tells r.script.volume r.script.lines w end later lost h sink status in
      let kept = uncut end later refl in
      own-end end later kept.0 (failed end r script_is whole performed.0) kept.1 (subst Q wish_is performed.1).1

-- The laws.

pub complete : ReplayCompletes
complete tells words source count disks lost sink status h course result asks ensues wish s clear =
    let p = clear.playable in
    let came = come words source count disks course sink s result wish p asks in
    ensued tells disks lost sink status h s p.sink_whole (IsReplayFinished tells wish s lost sink status h) wish course result
    (followed tells disks lost sink status h s p.sink_whole wish clear.anew clear.turns clear.journal course p.formatted clear.room) came.0 came.1 ensues

pub complete-again : IsCompleteAgain
complete-again tells words source count disks lost sink status h course result asks ensues s clear =
    let p = clear.playable in
    let came = come words source count disks course sink s result wishes.Again p asks in
    let at : (end not : PlayEnd) (later : List Event) → course ≡ Performed end later → end ≡ not → course ≡ Performed not later = λ end not later is ends. is ∙ ap (λ (e : PlayEnd). Performed e later) ends in
    ensued tells disks lost sink status h s p.sink_whole (IsFinishedAgain course sink status h) wishes.Again course result
    (gone-on tells disks lost sink status h s p.sink_whole course p.formatted clear.opened
    (λ end later is. (
      λ spent. clear.turns later (at end ends.TooManyTurns later is spent),
      λ full. clear.room later (at end ends.JournalFull later is full),
    )) clear.journal)
    came.0 came.1 ensues
