-- A request for which no driver was made.
use Rattle.std.proofs.Common.{ℕ, ◌≡◌, ◌≢◌, ◌+◌, ◌<◌, ◌≤◌, ◌++◌, ◌∷◌, List, [], inl, length, refl, sym, ap, ◌∙◌, subst, arith}
use Rattle.rz_disk.specs.declared.disk.Disk.{Ghosts}
use Rattle.rz_events.specs.Volume.{Volume, nodes_of}
use Rattle.rz_events.specs.declared.files.NodeSpec.{NodeSpec}
use Rattle.rz_events.specs.declared.events.Event.{Event}
use Rattle.rz_nodes.specs.Formatted.{AreBack, IsCause}
use Rattle.rz_nodes.specs.Opened.{AreDisksBack}
use Rattle.rz_nodes.specs.declared.fault.DriverFault.{DriverFault}
use Rattle.rz_nodes.specs.declared.refusal.OpenRefusal.{OpenRefusal}
use Rattle.rz_nodes.specs.declared.refusal.OpenRefusal.TheVariants as opens
use Rattle.rz_driver.specs.Continued.{IsCauseAgain}
use Rattle.rz_driver.specs.Formatted.{AreBackWithJournal}
use Rattle.rz_driver_nodes.specs.Meters.{faults_at}
use Rattle.rz_report.specs.Output.{Sunk}
use Rattle.rz_report.specs.Replays.{Unplayed, Unopened}
use Rattle.rz_report.specs.Telling.{Stops}
use Rattle.rz_report.proofs.Anew.{told_as}
use Rattle.rz_request.specs.Requests.{disks_for}
use Rattle.rz_request.specs.declared.refusal.Stop.{Stop}
use Rattle.rz_request.specs.declared.wishes.Request.{Request}
use Rattle.rz_request.specs.declared.wishes.Wish.{Wish}
use Rattle.rz_request.specs.declared.wishes.Wish.TheVariants.{Replay, Load, Scrub, First, Again}
use Rattle.rz_replay.specs.Disks.{AreAllBack, AreFaultsTold}
use Rattle.rz_replay.specs.Drivers.{IsUnmade, unformatted, unopened}
use Rattle.rz_replay.specs.Replays.{PlaysRequest}
use Rattle.rz_replay.proofs.Continuing.{any_told}
use Rattle.rz_replay.proofs.Journals.{again-back, all-back-faults, at-front, first-back, length-joined, plain-back}
use Rattle.rz_replay.proofs.Lent.{back-faults, counted-none, not-opened}
use Rattle.rz_replay.proofs.Untold.{told-none}

module _ {D : Type 0} (G : Ghosts D) (r : Request) (old new : List D) (lost : ℕ) (sink : Sunk) (status : ℕ) (h : List Event) (none : h ≡ []) where
  abbrev v : Volume
  v = r.script.volume

  abbrev nodes : List NodeSpec
  nodes = nodes_of v.clusters

  plain : (k : ℕ) → 0 + k ≡ k
  plain k = omega arith

  abbrev Unmade : Wish → Stop → Type 0
  Unmade w why = IsUnmade G w v old new why

  -- new disks, without a journal
  no-new : r.wish ≢ First → r.wish ≢ Again → length old ≡ length nodes → AreBack G.tells G.meter G.image v.layout nodes old new → (fault : DriverFault) → IsCause G.meter old new fault → Stops (unformatted fault) sink status
      → PlaysRequest G r old new lost sink status h
  no-new plain_wish anew count back fault cause fails =
      let R : List Event → Type 0 = λ x. AreFaultsTold G.meter v old new x in
      let counted : R [] = counted-none G.tells G.meter G.image v.layout (faults_at G.meter old) 0 nodes old new (λ k lt. ap (faults_at G.meter old) (plain k)) count back in (
        Unplayed,
        (
          not-opened G.tells G.meter r old new lost sink status h fault anew (back-faults G.tells G.meter G.image v.layout nodes old new count back) cause fails none,
          λ told. told_as r.wish v r.script.lines lost h anew (told-none v r.script.lines lost h none),
        ),
        plain-back G Unplayed r.wish v r.script.lines lost old new h plain_wish anew (subst R (sym none) counted, back),
      )

  -- with one
  no-first : r.wish ≡ First → length old ≡ length nodes + 1 → AreBackWithJournal G.tells G.meter G.image v old new → (fault : DriverFault) → IsCause G.meter old new fault → Stops (unformatted fault) sink status
      → PlaysRequest G r old new lost sink status h
  no-first is full b fault cause fails =
      let anew : r.wish ≢ Again = λ e. (let other : First ≡ Again = sym is ∙ e in cc) in
      let whole : length (b.nodes ++ b.journal ∷ []) ≡ length nodes + 1 = ap (λ (xs : List D). length xs) (sym b.disks_are) ∙ full in
      let count : length b.nodes ≡ length nodes = let joined = length-joined b.nodes b.journal in omega (arith, whole, joined) in
      let kept : (i : ℕ) → faults_at G.meter old i ≤ faults_at G.meter new i =
      subst (λ (xs : List D). (i : ℕ) → faults_at G.meter xs i ≤ faults_at G.meter new i) (sym b.disks_are)
      (subst (λ (ys : List D). (i : ℕ) → faults_at G.meter (b.nodes ++ b.journal ∷ []) i ≤ faults_at G.meter ys i) (sym b.back_are)
      (all-back-faults G.meter G.tells G.image v.layout nodes b.nodes b.nodes_back b.journal b.journal_back count b.each b.last.count)) in
      let firsts : (k : ℕ) → k < length b.nodes → faults_at G.meter old (0 + k) ≡ faults_at G.meter b.nodes k =
      λ k lt. ap (faults_at G.meter old) (plain k) ∙ ap (λ (xs : List D). faults_at G.meter xs k) b.disks_are ∙ at-front G.meter b.nodes b.journal k lt in
      let counted : AreFaultsTold G.meter v old b.nodes_back [] = counted-none G.tells G.meter G.image v.layout (faults_at G.meter old) 0 nodes b.nodes b.nodes_back firsts count b.each in
      let B : List Event → Type 0 = λ x. AreAllBack G Unplayed v r.script.lines lost old new x in
      let all : B [] = record {
        nodes = b.nodes;
        journal = b.journal;
        old_are = b.disks_are;
        nodes_back = b.nodes_back;
        journal_back = b.journal_back;
        new_are = b.back_are;
        faults_told = counted;
        images_told = b.each;
        journal_told = b.last;
        next = tt;
      } in (
        Unplayed,
        (not-opened G.tells G.meter r old new lost sink status h fault anew kept cause fails none, λ told. told_as r.wish v r.script.lines lost h anew (told-none v r.script.lines lost h none)),
        first-back G Unplayed r.wish v r.script.lines lost old new h is (subst B (sym none) all),
      )

  -- disks that earlier runs left
  no-again : r.wish ≡ Again → AreDisksBack G.meter G.text G.image old new → (fault : OpenRefusal) → IsCauseAgain G.tells G.meter G.text G.image v old new fault → Stops (unopened fault) sink status → PlaysRequest G r old new lost sink status h
  no-again is kept opens.NoMemory cause fails = (
    Unplayed,
    (inl (fails, none), λ telling. any_told r.wish v r.script.lines lost h is),
    again-back G Unplayed r.wish v r.script.lines lost old new h is kept,
  )
  no-again is kept (opens.Open index number) cause fails = (
    Unopened index number,
    ((is, fails, none), λ telling. any_told r.wish v r.script.lines lost h is),
    again-back G (Unopened index number) r.wish v r.script.lines lost old new h is (kept, cause),
  )

  by-wish : (w : Wish) → r.wish ≡ w → (why : Stop) → length old ≡ disks_for w r.script → Unmade w why → Stops why sink status → PlaysRequest G r old new lost sink status h
  by-wish First is why count unmade fails = no-first is count unmade.0 unmade.1.0 unmade.1.2 (subst (λ (s : Stop). Stops s sink status) unmade.1.1 fails)
  by-wish Again is why count unmade fails = no-again is unmade.0 unmade.1.0 unmade.1.2 (subst (λ (s : Stop). Stops s sink status) unmade.1.1 fails)
  by-wish Replay is why count unmade fails =
      no-new (λ e. (let other : Replay ≡ First = sym is ∙ e in cc)) (λ e. (let other : Replay ≡ Again = sym is ∙ e in cc)) count unmade.0 unmade.1.0 unmade.1.2 (subst (λ (s : Stop). Stops s sink status) unmade.1.1 fails)
  by-wish (Load seed) is why count unmade fails =
      no-new (λ e. (let other : Load seed ≡ First = sym is ∙ e in cc)) (λ e. (let other : Load seed ≡ Again = sym is ∙ e in cc)) count unmade.0 unmade.1.0 unmade.1.2 (subst (λ (s : Stop). Stops s sink status) unmade.1.1 fails)
  by-wish Scrub is why count unmade fails =
      no-new (λ e. (let other : Scrub ≡ First = sym is ∙ e in cc)) (λ e. (let other : Scrub ≡ Again = sym is ∙ e in cc)) count unmade.0 unmade.1.0 unmade.1.2 (subst (λ (s : Stop). Stops s sink status) unmade.1.1 fails)

  pub not-made : (why : Stop) → length old ≡ disks_for r.wish r.script → Unmade r.wish why → Stops why sink status → PlaysRequest G r old new lost sink status h
  not-made = by-wish r.wish refl
