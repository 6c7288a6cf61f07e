use Rattle.std.proofs.Common.{◌≡◌, ◌≢◌, ◌-◌, ◌+◌, ◌++◌, ◌∷◌, ◌<◌, ◌^◌, ℕ, Bool, true, false, IsTrue, List, [], Option, Some, length, reverse, refl, sym, ap, ◌∙◌, subst, inl, inr, arith}
use Rattle.std.specs.Global.{Vec}
use Rattle.std.specs.Prelude.{option_to_list}
use Rattle.std.proofs.lemmas.List.{append-nil, reverse-reverse}
use Rattle.rz_disk.specs.Meter.{faults, Rises as HasRisen}
use Rattle.rz_disk.specs.UnderFuse.{UnderFuse}
use Rattle.rz_driver_actors.specs.declared.shared.Shared.{Shared}
use Rattle.rz_driver.proofs.FetchLemmas.{asked-counted}
use Rattle.rz_driver.specs.Continued.{AreLeft}
use Rattle.rz_driver.specs.Endings.{EndsAsRefused, StandsForLog}
use Rattle.rz_driver.specs.Worlds.{HoldsBetweenTurns, LeavesAtEnd, anew, is_known, left_behind, tells-known, world_of}
use Rattle.rz_restart_laws.specs.Earlier.{IsEarlier, IsRestarted}
use Rattle.rz_events.specs.Volume.{Volume, nodes_of}
use Rattle.rz_events.specs.declared.export.Call.{Call}
use Rattle.rz_events.specs.declared.events.Event.{Event}
use Rattle.rz_nodes.specs.Formatted.{disks_of}
use Rattle.rz_metadata.specs.Stands.{disk_of, export_in, is_journaled, refusal_of}
use Rattle.rz_script.specs.declared.line.Line.{Line}
use Rattle.rz_driver_nodes.specs.Meters.{faults_at}
use Rattle.rz_driver_nodes.specs.Servers.{state_in}
use Rattle.rz_driver_nodes.specs.Images.{AreDisksImaged}
use Rattle.rz_core.specs.HeldRecords.{block_of}
use Rattle.rz_core.specs.History.{facts, text_in}
use Rattle.rz_core.specs.Legal.{IsLegalInRuns}
use Rattle.rz_play.specs.Stops.{JournalRefused}
use Rattle.rz_play.specs.World.{World, new_world, world_after}
use Rattle.rz_play.specs.Played.{IsBegunFrom}
use Rattle.rz_play_laws.specs.Fine.{IsFine, MayBegin}
use Rattle.rz_play_laws.specs.Runs.{IsRunAfter}
use Rattle.rz_player.specs.Behind.{Before, behind}
use Rattle.rz_player.specs.Ends.{IsCut, IsEnded, IsStoppedOver}
use Rattle.rz_player.specs.declared.lines.PlayEnd.{PlayEnd}
use Rattle.rz_report.proofs.Anew.{performs, performs_as, played_on, told_as, told_own}
use Rattle.rz_report.specs.Output.{Sunk}
use Rattle.rz_report.specs.Replays.{HasJournal, IsToldAs, MayEnd, Performed}
use Rattle.rz_report.specs.Scrubs.{BetweenTurns}
use Rattle.rz_report.specs.Telling.{IsPlayAgain, IsPlayOf, PerformsAs, TellsOwn}
use Rattle.rz_request.specs.Requests.{disks_for}
use Rattle.rz_request.specs.declared.wishes.Request.{Request}
use Rattle.rz_request.specs.declared.wishes.Wish.{Wish}
use Rattle.rz_request.specs.declared.wishes.Wish.TheVariants.{Replay, Load, Scrub, First, Again}
use Rattle.rz_replay.specs.Disks.{AreAllBack, AreFaultsTold, AreImagesTold, AreLocksKept, AreUsedAgain, IsJournalLeft, IsNextTold, IsPlayAfter, LeavesNext, MayBeResumed, faulted, numbers_of_volume}
use Rattle.rz_replay.specs.Drivers.{GoesOnOver, IsDriverFor, IsUnmade, has_journal}
use Rattle.rz_replay.specs.Replays.{PlaysRequest}
use Rattle.rz_replay.proofs.Continuing.{any_told, own_as}
use Rattle.rz_replay.proofs.Beginnings.{begins-again, begins-anew, first-world, unjournaled}
use Rattle.rz_replay.proofs.Journals.{again-back, at-last, between-on, first-back, has-disk, journal-end, journal-left, may-follow, next-on, no-disk, plain-back, plain-end, split-last, whole-end}
use Rattle.rz_replay.proofs.Unmade.{not-made}
use Rattle.rz_replay.proofs.replaying.play_request.Given as given
use Rattle.rz_replay.proofs.replaying.play_request.Goals as goal

pub driver_for-requires : goal.driver_for-requires
driver_for-requires g c = record { count = ap (λ (v : Vec g.row.D.Denot). length v.items) c.replace-lent.ensures.value ∙ c.requires }

pub perform-status-requires-clause-new : goal.perform-status-requires-clause-new
perform-status-requires-clause-new g c = first-world c.args.request.now.script.volume _ c.in-Ok.driver c.args.request.now.wish c.in-Ok.ensures.made.begins

pub perform-status-requires-clause-rules : goal.perform-status-requires-clause-rules
perform-status-requires-clause-rules g c = c.keeps_rules.ensures.volume

pub perform-status-requires-clause-asked : goal.perform-status-requires-clause-asked
perform-status-requires-clause-asked g c = asked-counted

pub perform-status-requires-clause-stage : goal.perform-status-requires-clause-stage
perform-status-requires-clause-stage g c = record {
  described_is = λ d. refl;
  state_is = λ d h. refl;
  open_is = λ d ready. ready;
  counted = λ d b held. held.0;
  short = λ d b held. held.3.short;
  log_is = λ d e asked. ap (λ (s : Shared (UnderFuse g.row.D.Denot) g.row.D.Denot). s.log.events) asked.shared;
  journal_is = λ d e asked. ap (λ (s : Shared (UnderFuse g.row.D.Denot) g.row.D.Denot). is_journaled s.export) asked.shared;
  whole = λ d b ready held tells few after l is. (
    block_of d.volume.layout (text_in ((facts (d.shared.log.events ++ b.log)).wrote l.published.stamp)),
    c.untouched.ensures d.volume b.log (world_of d) d.agendas.items d.shared.servers.items refl (held.1 tells few) tells after l is,
  );
}

-- there was no earlier run
known-anew : (tells : Bool) (counts : ℕ → ℕ) → is_known tells (anew counts) ≡ true
known-anew true counts = refl
known-anew false counts = refl

-- What the performance left.
module _ (g : given.Over) (c : goal.After-drop-disks g) where
  abbrev request : Request
  request = c.args.request.now

  abbrev old : List g.row.D.Denot
  old = c.args.disks.now.items

  abbrev new : List g.row.D.Denot
  new = c.close-log.result.1.items

  abbrev counts : ℕ → ℕ
  counts = faults_at g.D.Disk.meter old

  abbrev volume : Volume
  volume = request.script.volume

  abbrev lines : List Line
  lines = request.script.lines

  abbrev nodes : ℕ
  nodes = length (nodes_of volume.clusters)

  abbrev log : List Event
  log = c.perform-status.new.stage.shared.log.events

  abbrev lost : ℕ
  lost = g.L.Link.lost c.perform-status.new.link - g.L.Link.lost c.args.link.now

  abbrev sink : Sunk
  sink = record {
    before = g.O.Sink.taken c.args.output.now;
    after = g.O.Sink.taken c.perform-status.new.output;
    old = g.O.Sink.faults c.args.output.now;
    new = g.O.Sink.faults c.perform-status.new.output;
  }

  abbrev status : ℕ
  status = c.perform-status.result

  abbrev end : PlayEnd
  end = c.perform-status.ensures.performed.0

  abbrev later : List Event
  later = c.perform-status.ensures.performed.1

  -- the disks of the nodes
  abbrev back : List g.row.D.Denot
  back = disks_of c.perform-status.new.stage.shared.servers.items

  log_is : reverse c.close-log.result.0.items ≡ log
  log_is = ap reverse c.close-log.ensures.log ∙ reverse-reverse log

  made : IsDriverFor request old c.in-Ok.driver
  made = let lent : c.replace-lent.result.items ≡ old = ap (λ (v : Vec g.row.D.Denot). v.items) c.replace-lent.ensures.value in
      subst (λ (xs : List g.row.D.Denot). IsDriverFor request xs c.in-Ok.driver) lent c.in-Ok.ensures.made

  volume_is : c.perform-status.new.stage.volume ≡ volume
  volume_is = c.perform-status.ensures.volume ∙ made.volume

  -- and that of a journal
  module _ (journaled : has_journal request.wish ≡ true) (no_scrub : request.wish ≢ Scrub) (full : length old ≡ nodes + 1) where
    is_behind : is_journaled c.perform-status.new.stage.shared.export ≡ true
    is_behind = c.perform-status.ensures.journal ∙ made.journal ∙ journaled

    disk : (d : g.row.D.Denot) × (disk_of c.perform-status.new.stage.shared.export ≡ Some d)
    disk = has-disk c.perform-status.new.stage.shared.export is_behind

    new_is : new ≡ back ++ disk.0 ∷ []
    new_is = c.close-log.ensures.disks ∙ ap (λ (d : Option g.row.D.Denot). back ++ option_to_list d) disk.1

    split : (front : List g.row.D.Denot) × (last : g.row.D.Denot) × (old ≡ front ++ last ∷ []) × (length front ≡ nodes)
    split = split-last nodes old full

    was : counts nodes ≡ faults (g.D.Disk.meter split.1)
    was =
        ap counts (sym split.3) ∙ ap (λ (xs : List g.row.D.Denot). faults_at g.D.Disk.meter xs (length split.0)) split.2 ∙ at-last g.D.Disk.meter split.0 split.1

    -- where the journal's disk ended the play its faults rose, whatever earlier runs there were
    may_end : HasJournal request.wish → MayEnd end request (faulted g.D.Disk.meter old new)
    may_end has =
        let meter = g.D.Disk.meter in
        let counted = c.perform-status.ensures.faults (counts nodes) made.counted in
        let many : length back ≡ nodes = c.close-log.ensures.each (counts nodes) counted ∙ ap (λ (v : Volume). length (nodes_of v.clusters)) volume_is in
        let is_now : faults_at meter new nodes ≡ faults (meter disk.0) =
        ap (λ (k : ℕ). faults_at meter new k) (sym many) ∙ ap (λ (xs : List g.row.D.Denot). faults_at meter xs (length back)) new_is ∙ at-last meter back disk.0 in
        journal-end end (refusal_of c.perform-status.new.stage.shared.export) _ request (faulted meter old new) has c.perform-status.ensures.performed.3
        (λ failed. subst (λ (k : ℕ). HasRisen (counts nodes) k) (sym is_now) (c.close-log.ensures.risen (counts nodes) disk.0 counted disk.1 failed))

    none_asked : later ≡ []
    none_asked = elim c.perform-status.ensures.performed.2 [
      | inl plays ↦ plays.0
      | inr asks ↦ absurd (no_scrub asks.1)
    ]

    -- behind what there was before
    module _ (earlier : List Event) (known : Bool) where
      abbrev before : Before
      before = record { counts = counts; log = earlier; known = known }

      module _ (held : HoldsBetweenTurns c.in-Ok.driver before) where
        abbrev Stops : Call → Before → Type 0
        Stops refused b = IsStoppedOver g.D.Disk.tells volume (JournalRefused refused) (behind b.log (world_of c.in-Ok.driver)) lines lost (log ++ b.log)

        cut : IsCut end (HoldsBetweenTurns c.in-Ok.driver) (LeavesAtEnd c.perform-status.new.stage) Stops
        cut = elim c.perform-status.ensures.performed.2 [
          | inl plays ↦ plays.1
          | inr asks ↦ absurd (no_scrub asks.1)
        ]

        left_by : LeavesAtEnd c.perform-status.new.stage cut.refused before
        left_by = cut.left before held

        holds_by : BetweenTurns end (HoldsBetweenTurns c.perform-status.new.stage before)
        holds_by = elim c.perform-status.ensures.performed.2 [
          | inl plays ↦ between-on end _ (HoldsBetweenTurns c.perform-status.new.stage before) (λ on. on before held) plays.2
          | inr asks ↦ absurd (no_scrub asks.1)
        ]

        counted : AreFaultsTold g.D.Disk.meter volume old back log
        counted = subst (λ (v : Volume). AreFaultsTold g.D.Disk.meter v old back log) volume_is (c.close-log.ensures.counted before cut.refused left_by)

        imaged : AreImagesTold g.D.Disk (Performed end []) volume old back (log ++ earlier)
        imaged = subst (λ (v : Volume). AreImagesTold g.D.Disk (Performed end []) v old back (log ++ earlier)) volume_is
            (c.close-log.ensures.imaged before cut.refused left_by)

        left_journal : is_known g.D.Disk.tells before ≡ true
            → IsJournalLeft g.D.Disk (λ x. Stops x before) end volume split.1 disk.0 (log ++ earlier)
        left_journal know =
            let why = refusal_of c.perform-status.new.stage.shared.export in
            let refused = cut.refused in
            let E : Volume → Type 0 = λ v. EndsAsRefused why refused g.D.Disk.tells (g.D.Disk.image disk.0) (counts (length (nodes_of v.clusters))) (faults (g.D.Disk.meter disk.0)) v (log ++ earlier) in
            let ended : E volume = subst E volume_is (c.close-log.ensures.ends before refused disk.0 left_by know disk.1) in
            let S : Volume → Type 0 = λ v. IsTrue g.D.Disk.tells → StandsForLog (g.D.Disk.image disk.0) v (log ++ earlier) in
            let stands : BetweenTurns end (S volume) = between-on end _ (S volume) (λ holding. subst S volume_is (c.close-log.ensures.stands before disk.0 holding disk.1)) holds_by in
            journal-left g.D.Disk volume split.1 disk.0 (log ++ earlier) (λ x. Stops x before) why _ end refused c.perform-status.ensures.performed.3 cut.ends
            (λ x is. cut.stopped x is before held) stands
            (subst (λ (k : ℕ). EndsAsRefused why refused g.D.Disk.tells (g.D.Disk.image disk.0) k (faults (g.D.Disk.meter disk.0)) volume (log ++ earlier)) was ended)

        -- what is left for the next run
        next_run : IsTrue g.D.Disk.tells → IsLegalInRuns volume (log ++ earlier) → LeavesNext end (MayBeResumed g.D.Disk.image volume (log ++ earlier) new)
        next_run telling legal =
            let stage = c.perform-status.new.stage in
            next-on end _ (MayBeResumed g.D.Disk.image volume (log ++ earlier) new)
            (λ whole.
            let left = c.close-log.ensures.left before cut.refused whole is_behind telling in
            may-follow g.D.Disk.image volume (log ++ earlier) new legal (subst (λ (v : Volume). AreLeft g.D.Disk.image v (log ++ earlier) new) volume_is left))
            (whole-end (HoldsBetweenTurns stage before) (LeavesAtEnd stage cut.refused before) end (refusal_of stage.shared.export) _ c.perform-status.ensures.performed.3 holds_by left_by)

  -- of a driver that begins anew
  module _ (anew_wish : request.wish ≢ Again) where
    begun : (world_of c.in-Ok.driver ≡ new_world volume) × HoldsBetweenTurns c.in-Ok.driver (anew counts)
    begun = begins-anew volume old c.in-Ok.driver request.wish anew_wish made.begins

    performed_as : PerformsAs g.D.Disk.tells volume lines request.wish end later lost log sink status
    performed_as =
        performs_as g.D.Disk.tells volume lines request.wish end later lost log sink status anew_wish
        (performs (HoldsBetweenTurns c.in-Ok.driver) g.D.Disk.tells volume (world_of c.in-Ok.driver) lines request.wish end later lost log (anew counts) refl begun.1 begun.0 sink status c.perform-status.ensures.performed.4)

    told : IsTrue g.D.Disk.tells → IsToldAs request.wish volume lines lost log
    told tells = told_as request.wish volume lines lost log anew_wish (c.perform-status.ensures.told (anew counts) begun.1 refl begun.0 tells)

-- Without a journal.

driver-plain : (g : given.Over) (c : goal.After-drop-disks g) → c.args.request.now.wish ≢ First → c.args.request.now.wish ≢ Again → is_journaled c.in-Ok.driver.shared.export ≡ false
driver-plain g c no_first no_again = (made g c).journal ∙ unjournaled c.args.request.now.wish no_first no_again

made-plain : (g : given.Over) (c : goal.After-drop-disks g) → c.args.request.now.wish ≢ First → c.args.request.now.wish ≢ Again → is_journaled c.perform-status.new.stage.shared.export ≡ false
made-plain g c no_first no_again = c.perform-status.ensures.journal ∙ driver-plain g c no_first no_again

plain : (g : given.Over) (c : goal.After-drop-disks g) → c.args.request.now.wish ≢ First → c.args.request.now.wish ≢ Again
    → PlaysRequest g.D.Disk (request g c) (old g c) (new g c) (lost g c) (sink g c) (status g c) (log g c)
plain g c no_first no_again =
    let v : Volume = volume g c in
    let h : List Event = log g c in
    let b : Before = anew (counts g c) in
    let held = (begun g c no_again).1 in
    let is_plain = made-plain g c no_first no_again in
    let row : List g.row.D.Denot = back g c in
    let stage = c.perform-status.new.stage in
    let all_are : new g c ≡ row = c.close-log.ensures.disks ∙ ap (λ (o : Option g.row.D.Denot). row ++ option_to_list o) (no-disk stage.shared.export is_plain) ∙ append-nil row in
    let counted_in = λ (k : List Event). subst (λ (xs : List g.row.D.Denot). AreFaultsTold g.D.Disk.meter stage.volume (old g c) xs k) (sym all_are) in
    let imaged_in = subst (λ (xs : List g.row.D.Denot). AreDisksImaged g.D.Disk.image stage.volume (numbers_of_volume stage.volume) xs (h ++ [])) (sym all_are) in
    let F : List Event → Type 0 = λ x. AreFaultsTold g.D.Disk.meter stage.volume (old g c) (new g c) (x ++ h) in
    let none_asked : later g c ≡ [] → F [] → F (later g c) = λ none counted. subst F (sym none) counted in
    let counted : F (later g c) = elim c.perform-status.ensures.performed.2 [
      | inl plays ↦ none_asked plays.0 (counted_in h (c.close-log.ensures.counted b plays.1.refused (plays.1.left b held)))
      | inr asks ↦ counted_in (later g c ++ h) (c.close-log.ensures.asked (later g c ++ h) b.counts (asks.4 b held))
    ] in
    let I : Volume → List Event → Type 0 = λ x k. AreImagesTold g.D.Disk (Performed (end g c) (later g c)) x (old g c) (new g c) k in
    let images : I stage.volume (h ++ []) = elim c.perform-status.ensures.performed.2 [
      | inl plays ↦ λ telling. imaged_in (c.close-log.ensures.imaged b plays.1.refused (plays.1.left b held) telling)
      | inr asks ↦ λ telling. imaged_in (c.close-log.ensures.since b (asks.0, asks.2 b held, asks.3) telling)
    ] in
    let B : Volume → Type 0 = λ x. AreFaultsTold g.D.Disk.meter x (old g c) (new g c) (later g c ++ h) in (
      Performed (end g c) (later g c),
      ((plain-end (end g c) _ (request g c) _ _ (driver-plain g c no_first no_again) c.perform-status.ensures.performed.3, performed_as g c no_again), told g c no_again),
      plain-back g.D.Disk (Performed (end g c) (later g c)) (request g c).wish v (lines g c) (lost g c) _ _ h no_first no_again
          (subst B (volume_is g c) counted, subst (I v) (append-nil h) (subst (λ (x : Volume). I x (h ++ [])) (volume_is g c) images)),
    )

-- With one, over disks that were formatted.
first : (g : given.Over) (c : goal.After-drop-disks g) → c.args.request.now.wish ≡ First
    → PlaysRequest g.D.Disk (request g c) (old g c) (new g c) (lost g c) (sink g c) (status g c) (log g c)
first g c is =
    let no_again : c.args.request.now.wish ≢ Again = λ e. (let other : First ≡ Again = sym is ∙ e in cc) in
    let no_scrub : c.args.request.now.wish ≢ Scrub = λ e. (let other : First ≡ Scrub = sym is ∙ e in cc) in
    let journaled = ap has_journal is in
    let full = c.requires ∙ ap (λ (w : Wish). disks_for w c.args.request.now.script) is in
    let h : List Event = log g c in
    let tells = g.D.Disk.tells in
    let meter = g.D.Disk.meter in
    let image = g.D.Disk.image in
    let held = (begun g c no_again).1 in
    let new_so = (begun g c no_again).0 in
    let no_more : h ++ [] ≡ h = append-nil h in
    let parts = split g c journaled no_scrub full in
    let last = disk g c journaled no_scrub full in
    let row : List g.row.D.Denot = back g c in
    let left = left_journal g c journaled no_scrub full [] true held (known-anew tells (counts g c)) in
    let Stopped : World → List Event → Call → Type 0 = λ w k x. IsStoppedOver tells (volume g c) (JournalRefused x) (behind [] w) (lines g c) (lost g c) k in
    let L : World → List Event → Type 0 = λ w k. IsJournalLeft g.D.Disk (Stopped w k) (end g c) (volume g c) parts.1 last.0 k in
    let told_journal : L (new_world (volume g c)) h = subst (L (new_world (volume g c))) no_more (subst (λ (w : World). L w (h ++ [])) new_so left) in
    let I : List Event → Type 0 = λ k. AreImagesTold g.D.Disk (Performed (end g c) (later g c)) (volume g c) parts.0 row k in
    let next : IsNextTold g.D.Disk (Performed (end g c) (later g c)) (volume g c) (new g c) h =
    λ telling.
    let true_log = c.perform-status.ensures.told (anew (counts g c)) held refl new_so telling in
    let legal = c.one_run.ensures (volume g c) h true_log.legal in
    subst (λ (k : List Event). LeavesNext (end g c) (MayBeResumed image (volume g c) k (new g c))) no_more
    (next_run g c journaled no_scrub full [] true held telling (subst (IsLegalInRuns (volume g c)) (sym no_more) legal)) in
    let all : AreAllBack g.D.Disk (Performed (end g c) (later g c)) (volume g c) (lines g c) (lost g c) (old g c) (new g c) h = record {
      nodes = parts.0;
      journal = parts.1;
      old_are = parts.2;
      nodes_back = row;
      journal_back = last.0;
      new_are = new_is g c journaled no_scrub full;
      faults_told = subst (λ (x : List Event). AreFaultsTold meter (volume g c) (old g c) row (x ++ h)) (sym (none_asked g c journaled no_scrub full)) (counted g c journaled no_scrub full [] true held);
      images_told = subst I no_more (imaged g c journaled no_scrub full [] true held);
      journal_told = told_journal;
      next = next;
    } in (
      Performed (end g c) (later g c),
      ((may_end g c journaled no_scrub full (subst HasJournal (sym is) tt), performed_as g c no_again), told g c no_again),
      first-back g.D.Disk (Performed (end g c) (later g c)) (request g c).wish (volume g c) (lines g c) (lost g c) (old g c) (new g c) h is all,
    )

-- Over disks that earlier runs left.
module _ (g : given.Over) (c : goal.After-drop-disks g) (is : c.args.request.now.wish ≡ Again) where
  no_scrub : c.args.request.now.wish ≢ Scrub
  no_scrub e = let other : Again ≡ Scrub = sym is ∙ e in cc

  journaled : has_journal c.args.request.now.wish ≡ true
  journaled = ap has_journal is

  full : length (old g c) ≡ nodes g c + 1
  full = c.requires ∙ ap (λ (w : Wish). disks_for w c.args.request.now.script) is

  on : GoesOnOver (volume g c) (old g c) c.in-Ok.driver
  on = begins-again (volume g c) (old g c) c.in-Ok.driver c.args.request.now.wish is (made g c).begins

  -- behind a log that the driver went on after
  module _ (earlier : List Event) (held : HoldsBetweenTurns c.in-Ok.driver (left_behind (counts g c) earlier)) (telling : IsTrue g.D.Disk.tells) where
    plays : IsPlayOf g.D.Disk.tells (volume g c) (behind earlier (world_of c.in-Ok.driver)) (lines g c) (end g c) (lost g c) (log g c ++ earlier) (log g c)
    plays = c.perform-status.ensures.performed.4.1 (left_behind (counts g c) earlier) held

    few : length (c.in-Ok.driver.shared.log.events ++ earlier) < 2 ^ 64 - 1
    few =
        let short = held.3.short in
        let none : c.in-Ok.driver.shared.log.events ≡ [] = ap (λ (w : World). w.log) on.world in
        subst (λ (h : List Event). length (h ++ earlier) < 2 ^ 64 - 1) (sym none) (omega (arith, short))

    fine : IsFine (volume g c) earlier (world_after (state_in c.in-Ok.driver.shared.servers.items) (export_in c.in-Ok.driver.shared.export) earlier)
    fine =
        subst (λ (w : World). IsFine (volume g c) earlier (behind earlier w)) on.world
        (subst (λ (v : Volume). IsFine v earlier (behind earlier (world_of c.in-Ok.driver))) (made g c).volume (held.1 telling few).fine)

    played : IsPlayAfter (volume g c) earlier (lines g c) (end g c) (lost g c) (log g c ++ earlier)
    played =
        let E : World → Type 0 = λ w. IsEnded (volume g c) (behind earlier w) (lines g c) (end g c) (lost g c) (log g c ++ earlier) in
        record {
          nodes = state_in c.in-Ok.driver.shared.servers.items;
          export = export_in c.in-Ok.driver.shared.export;
          fine = fine;
          ended = subst E on.world (plays.0 telling);
        }

    begun_after : IsBegunFrom (volume g c) (world_after played.nodes played.export earlier) (lines g c) (log g c ++ earlier)
    begun_after = c.begins.ensures (volume g c) (world_after played.nodes played.export earlier) (lines g c) (end g c) (lost g c) (log g c ++ earlier) played.ended

    run_after : IsRunAfter (volume g c) earlier (log g c ++ earlier)
    run_after =
        let short = held.3.short in
        c.afterwards.ensures (volume g c) (lines g c) c.keeps_rules.ensures played.nodes played.export earlier played.fine (omega (arith, short)) (log g c ++ earlier) begun_after

    legal : IsLegalInRuns (volume g c) (log g c ++ earlier)
    legal = let it = run_after in subst (IsLegalInRuns (volume g c)) (sym it.log_is) (c.next_run.ensures (volume g c) earlier it.run it.legal)

    -- and what locks promise
    kept : (h : List Event) → IsEarlier (volume g c) h → IsRestarted (volume g c) h earlier → AreLocksKept (volume g c) earlier (lines g c) (log g c ++ earlier)
    kept h is_earlier (took, may, restarted_is) =
        let restart = c.restarting.ensures (volume g c) c.keeps_rules.ensures.volume h is_earlier took may in
        let may_begin : MayBegin (volume g c) played.nodes played.export earlier = record {
          legal = subst (IsLegalInRuns (volume g c)) (sym restarted_is) restart.legal;
          nodes_are = played.fine.nodes_are;
          export_is = played.fine.export_is;
          few = held.3.short;
        } in
        (begun_after.last, c.after.ensures (volume g c) (lines g c) c.keeps_rules.ensures played.nodes played.export earlier may_begin (log g c ++ earlier) begun_after)

    journal_after : IsJournalLeft g.D.Disk
        (λ x. IsStoppedOver g.D.Disk.tells (volume g c) (JournalRefused x) (world_after played.nodes played.export earlier) (lines g c) (lost g c) (log g c ++ earlier))
        (end g c) (volume g c) (split g c journaled no_scrub full).1 (disk g c journaled no_scrub full).0 (log g c ++ earlier)
    unfolding played
    journal_after =
        let P : World → Type 0 = λ w. IsJournalLeft g.D.Disk
        (λ x. IsStoppedOver g.D.Disk.tells (volume g c) (JournalRefused x) (behind earlier w) (lines g c) (lost g c) (log g c ++ earlier))
        (end g c) (volume g c) (split g c journaled no_scrub full).1 (disk g c journaled no_scrub full).0 (log g c ++ earlier) in
        subst P on.world (left_journal g c journaled no_scrub full earlier false held (tells-known g.D.Disk.tells (left_behind (counts g c) earlier) telling))

  used : AreUsedAgain g.D.Disk (end g c) (volume g c) (lines g c) (lost g c) (old g c) (new g c) (log g c)
  used =
      let parts = split g c journaled no_scrub full in
      let last = disk g c journaled no_scrub full in
      let all_are = new_is g c journaled no_scrub full in
      record {
        nodes = parts.0;
        journal = parts.1;
        old_are = parts.2;
        nodes_back = back g c;
        journal_back = last.0;
        new_are = all_are;
        opened = on.opened;
        untold = λ silent. counted g c journaled no_scrub full [] false (on.untold silent);
        goes_on = λ telling earlier is_earlier left.
            let went = on.held telling earlier is_earlier left in
            record {
              old = went.0;
              restarted = went.1;
              played = played went.0 went.2 telling;
              run = run_after went.0 went.2 telling;
              kept = kept went.0 went.2 telling earlier is_earlier went.1;
              losses = (plays went.0 went.2 telling).2;
              faults_told = counted g c journaled no_scrub full went.0 false went.2;
              images_told = imaged g c journaled no_scrub full went.0 false went.2;
              journal_told = journal_after went.0 went.2 telling;
              next = subst (λ (xs : List g.row.D.Denot). LeavesNext (end g c) (MayBeResumed g.D.Disk.image (volume g c) (log g c ++ went.0) xs)) all_are
                  (next_run g c journaled no_scrub full went.0 false went.2 telling (legal went.0 went.2 telling));
            };
      }

  again : PlaysRequest g.D.Disk (request g c) (old g c) (new g c) (lost g c) (sink g c) (status g c) (log g c)
  again =
      let holds = HoldsBetweenTurns c.in-Ok.driver in
      let wish = (request g c).wish in
      let told = c.perform-status.ensures.performed.4 in
      let own : TellsOwn (end g c) wish (later g c) (log g c) (sink g c) (status g c) =
      told_own holds g.D.Disk.tells (volume g c) (world_of c.in-Ok.driver) (lines g c) wish (end g c) (later g c) (lost g c) (log g c) (sink g c) (status g c) told in
      let play : IsPlayAgain g.D.Disk.tells (volume g c) (lines g c) (end g c) (lost g c) (log g c) =
      played_on holds g.D.Disk.tells (volume g c) (world_of c.in-Ok.driver) (lines g c) wish (end g c) (later g c) (lost g c) (log g c) (sink g c) (status g c)
      (state_in c.in-Ok.driver.shared.servers.items) (export_in c.in-Ok.driver.shared.export) on.world (left_behind (counts g c) []) refl on.untold told in (
        Performed (end g c) (later g c),
        (
          (may_end g c journaled no_scrub full (subst HasJournal (sym is) tt), own_as g.D.Disk.tells (volume g c) (lines g c) wish (end g c) (later g c) (lost g c) (log g c) (sink g c) (status g c) is play own),
          λ telling. any_told wish (volume g c) (lines g c) (lost g c) (log g c) is,
        ),
        again-back g.D.Disk (Performed (end g c) (later g c)) wish (volume g c) (lines g c) (lost g c) (old g c) (new g c) (log g c) is used,
      )

by-wish : (g : given.Over) (c : goal.After-drop-disks g) (w : Wish) → c.args.request.now.wish ≡ w
    → PlaysRequest g.D.Disk (request g c) (old g c) (new g c) (lost g c) (sink g c) (status g c) (log g c)
by-wish g c First is = first g c is
by-wish g c Again is = again g c is
by-wish g c Replay is = plain g c (λ e. (let other : Replay ≡ First = sym is ∙ e in cc)) (λ e. (let other : Replay ≡ Again = sym is ∙ e in cc))
by-wish g c (Load seed) is = plain g c (λ e. (let other : Load seed ≡ First = sym is ∙ e in cc)) (λ e. (let other : Load seed ≡ Again = sym is ∙ e in cc))
by-wish g c Scrub is = plain g c (λ e. (let other : Scrub ≡ First = sym is ∙ e in cc)) (λ e. (let other : Scrub ≡ Again = sym is ∙ e in cc))

pub returns-in-Ok : goal.returns-in-Ok
returns-in-Ok g c =
    subst (λ (h : List Event). PlaysRequest g.D.Disk (request g c) (old g c) (new g c) (lost g c) (sink g c) (status g c) h) (sym (log_is g c))
    (by-wish g c c.args.request.now.wish refl)

pub returns-in-Err : goal.returns-in-Err
returns-in-Err g c =
    let end_sink : Sunk = record {
      before = g.O.Sink.taken c.args.output.now;
      after = g.O.Sink.taken c.stop-status.new.output;
      old = g.O.Sink.faults c.args.output.now;
      new = g.O.Sink.faults c.stop-status.new.output;
    } in
    let lent : c.replace-lent.result.items ≡ c.args.disks.now.items = ap (λ (v : Vec g.row.D.Denot). v.items) c.replace-lent.ensures.value in
    let back_so = subst (λ (xs : List g.row.D.Denot). IsUnmade g.D.Disk c.args.request.now.wish c.args.request.now.script.volume xs c.in-Err.back.items c.in-Err.unmade) lent c.in-Err.ensures.unmade in
    not-made g.D.Disk c.args.request.now c.args.disks.now.items c.in-Err.back.items (g.L.Link.lost c.args.link.now - g.L.Link.lost c.args.link.now) end_sink
    c.unplayed.result.status (reverse c.unplayed.result.log.items) (ap reverse c.unplayed.ensures.log) c.in-Err.unmade c.requires back_so (rw c.unplayed.ensures.status c.stop-status.ensures)
