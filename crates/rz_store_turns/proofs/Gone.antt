-- Turns of a rebuild and the words that it says, beside which nobody acts.
use Rattle.std.proofs.Common.{ℕ, Bool, true, false, ◌≡◌, List, [], ◌∷◌, ◌++◌, Option, Some, None, refl, sym, ◌∙◌, ap, subst, append_assoc}
use Rattle.std.specs.Prelude.{IsTrue, IfSome, IfOk, Result, Ok, Err}
use Rattle.std.proofs.lemmas.List.{append-nil}
use Rattle.mj_angles.specs.declared.layout.Layout.{Layout}
use Rattle.rz_events.specs.Volume.{Volume}
use Rattle.rz_events.specs.declared.keys.Actor.{Actor}
use Rattle.rz_events.specs.declared.operations.Operation.TheVariants as operation
use Rattle.rz_events.specs.declared.ends.RebuildEnd.{RebuildEnd}
use Rattle.rz_events.specs.declared.ends.RebuildEnd.TheVariants as ends
use Rattle.rz_events.specs.declared.events.Answer.TheVariants as answers
use Rattle.rz_events.specs.declared.events.Event.{Event}
use Rattle.rz_events.specs.declared.events.Event.TheVariants as e
use Rattle.rz_operation.specs.Machine.{Machine}
use Rattle.rz_operation_model.specs.Ask.{Ask, Say, SayDone, ask_of}
use Rattle.rz_operation_model.specs.Work.{Work}
use Rattle.rz_operation_model.specs.Steps.{begun, told}
use Rattle.rz_operation_model.specs.Turns.{IsStep}
use Rattle.rz_core.specs.Legal.{IsLegalInRuns}
use Rattle.rz_chronicle.specs.Kinds.{keeps_legal, volume_in}
use Rattle.rz_chronicle.specs.Rules.{PassView}
use Rattle.rz_contents.specs.Model.{IsStill}
use Rattle.rz_contents.specs.Putting.{IsCourseFrom, Starts, Goes}
use Rattle.rz_contents.specs.Files.{IsSilentCourse, Begins, Turns}
use Rattle.rz_contents.specs.Mending.{IsRebuildCourse, IsRebuildEnding, AreRebuildsStill, IsRebuildWhole}
use Rattle.rz_store_turns.specs.Sole.{SoleView, IsInHand, IsSameTurn}
use Rattle.rz_store_turns.specs.declared.sole.Stop.{Stop}
use Rattle.rz_store_turns.specs.Runs.{HasRun, HasTurned}
use Rattle.rz_store_turns.specs.Performed.{IsQuiet}
use Rattle.rz_store_turns.specs.Rebuilt.{rebuild_end, HasGone, HasEnded, HasRebuilt, IsWholeIfRebuilt}

-- Courses.

loud : (y : Layout) (by : Actor) (number : ℕ) (first : Work) (xs : List Event) (work : Work) → IsSilentCourse y by number first xs work → IsCourseFrom y by number first xs work
loud y by number first xs work (Begins) = Starts
loud y by number first xs work (Turns before was t ys course quiet step) = Goes before was t ys (loud y by number first before was course) step

course-then : (y : Layout) (by : Actor) (number : ℕ) (first mid last : Work) (xs ys : List Event) → IsCourseFrom y by number first xs mid → IsCourseFrom y by number mid ys last
    → IsCourseFrom y by number first (ys ++ xs) last
course-then y by number first mid last xs ys a (Starts) = a
course-then y by number first mid last xs ys a (Goes zs work t us b step) =
    subst (λ (l : List Event). IsCourseFrom y by number first l (told y work t)) (sym (append_assoc us zs xs))
    (Goes (zs ++ xs) work t us (course-then y by number first mid work xs zs a b) step)

pub no-turn : (kind : List ℕ) (number : ℕ) (p : PassView) (m : Machine) → HasGone kind number p p m m
no-turn kind number p m = record { events = []; log = refl; course = λ keeps. Starts }

pub run-gone : (kind : List ℕ) (number : ℕ) (old new : PassView) (m m' : Machine) → HasRun kind number old new m m' → HasGone kind number old new m m'
run-gone kind number old new m m' ran = record {
  events = ran.events;
  log = ran.log;
  course = λ keeps. loud m.layout old.actor number m.work ran.events m'.work (ran.course keeps);
}

pub turn-gone : (kind : List ℕ) (number : ℕ) (old new : PassView) (m m' : Machine) → HasTurned kind number old new m m' → HasGone kind number old new m m'
turn-gone kind number old new m m' t = record {
  events = t.events;
  log = t.log;
  course = λ keeps.
      subst (λ (w : Work). IsCourseFrom m.layout old.actor number m.work t.events w) (sym (t.goes keeps))
      (subst (λ (l : List Event). IsCourseFrom m.layout old.actor number m.work l (told m.layout m.work t.answer)) (append-nil t.events)
      (Goes [] m.work t.answer t.events Starts t.step));
}

module _ (kind : List ℕ) (number : ℕ) (old mid new : PassView) (m n : Machine) (actor : mid.actor ≡ old.actor) (layout : n.layout ≡ m.layout) (a : HasGone kind number old mid m n) where
  pub gone-then : (o : Machine) → HasGone kind number mid new n o → HasGone kind number old new m o
  gone-then o b = record {
    events = b.events ++ a.events;
    log = b.log ∙ ap (λ (l : List Event). b.events ++ l) a.log ∙ sym (append_assoc b.events a.events old.log);
    course = λ keeps.
        let later : IsCourseFrom m.layout old.actor number n.work b.events o.work =
        subst (λ (y : Layout). IsCourseFrom y old.actor number n.work b.events o.work) layout
        (subst (λ (c : Actor). IsCourseFrom n.layout c number n.work b.events o.work) actor (b.course keeps)) in
        course-then m.layout old.actor number m.work n.work o.work a.events b.events (a.course keeps) later;
  }

  -- it ended later
  pub ended-then : (end : RebuildEnd) → HasEnded kind number mid new n end → HasEnded kind number old new m end
  ended-then end b = record {
    events = b.events ++ a.events;
    log = b.log
        ∙ ap (λ (c : Actor). e.Done c number (answers.Rebuild end) ∷ b.events ++ mid.log) actor
        ∙ ap (λ (l : List Event). e.Done old.actor number (answers.Rebuild end) ∷ b.events ++ l) a.log
        ∙ ap (λ (l : List Event). e.Done old.actor number (answers.Rebuild end) ∷ l) (sym (append_assoc b.events a.events old.log));
    course = λ keeps.
        let last = b.course keeps in
        let later : IsCourseFrom m.layout old.actor number n.work b.events last.0 =
        subst (λ (y : Layout). IsCourseFrom y old.actor number n.work b.events last.0) layout
        (subst (λ (c : Actor). IsCourseFrom n.layout c number n.work b.events last.0) actor last.1) in (
          last.0,
          course-then m.layout old.actor number m.work n.work last.0 a.events b.events (a.course keeps) later,
          subst (λ (y : Layout). ask_of y last.0 ≡ Say (SayDone (answers.Rebuild end))) layout last.2,
        );
  }

-- The last word.

end-asked : (a : Ask) (end : RebuildEnd) → rebuild_end a ≡ Some end → a ≡ Say (SayDone (answers.Rebuild end))
end-asked (Say (SayDone (answers.Rebuild said))) end is = (let same : said ≡ end = cc in ap (λ (z : RebuildEnd). Say (SayDone (answers.Rebuild z))) same)
end-asked (Say (SayDone (_))) end is = cc
end-asked (Say (_)) end is = cc
end-asked (_) end is = cc

pub said-end : (kind : List ℕ) (number : ℕ) (old new : PassView) (m m' : Machine) (end : RebuildEnd) → HasTurned kind number old new m m' → rebuild_end (ask_of m.layout m.work) ≡ Some end
    → HasEnded kind number old new m end
said-end kind number old new m m' end turned is =
    let asked = end-asked (ask_of m.layout m.work) end is in
    let step : IsStep old.actor number (Say (SayDone (answers.Rebuild end))) turned.answer turned.events =
    subst (λ (a : Ask). IsStep old.actor number a turned.answer turned.events) asked turned.step in
    record {
      events = [];
      log = turned.log ∙ ap (λ (xs : List Event). xs ++ old.log) step.2;
      course = λ keeps. (m.work, Starts, asked);
    }

-- Turns of an operation in hand, after those that led to `mid`.
module _ (kind : List ℕ) (earlier : List Event) (old mid new : SoleView) (m n : Machine) (same : IsSameTurn old mid) (hand : IsInHand kind earlier old m) (there : IsInHand kind earlier mid n)
    (gone : HasGone kind old.number old.pass mid.pass m n) where
  pub more-gone : (o : Machine) → HasGone kind mid.number mid.pass new.pass n o → HasGone kind old.number old.pass new.pass m o
  more-gone o more =
      gone-then kind old.number old.pass mid.pass new.pass m n same.actor (there.layout ∙ sym hand.layout) gone o
      (subst (λ (k : ℕ). HasGone kind k mid.pass new.pass n o) same.number more)

  pub more-ended : (end : RebuildEnd) → HasEnded kind mid.number mid.pass new.pass n end → HasEnded kind old.number old.pass new.pass m end
  more-ended end more =
      ended-then kind old.number old.pass mid.pass new.pass m n same.actor (there.layout ∙ sym hand.layout) gone end
      (subst (λ (k : ℕ). HasEnded kind k mid.pass new.pass n end) same.number more)

  pub said-gone : (o : Machine) → HasTurned kind mid.number mid.pass new.pass n o → HasGone kind old.number old.pass new.pass m o
  said-gone o turned = more-gone o (turn-gone kind mid.number mid.pass new.pass n o turned)

  pub said-if : (o : Machine) (said : Option RebuildEnd) → said ≡ rebuild_end (ask_of n.layout n.work) → HasTurned kind mid.number mid.pass new.pass n o
      → IfSome said (λ end. HasEnded kind old.number old.pass new.pass m end)
  said-if o None is turned = tt
  said-if o (Some end) is turned = more-ended end (said-end kind mid.number mid.pass new.pass n o end turned (sym is))

pub same-then : (a b c : SoleView) → IsSameTurn a b → IsSameTurn b c → IsSameTurn a c
same-then a b c x y = record { actor = y.actor ∙ x.actor; number = y.number ∙ x.number; client = y.client ∙ x.client; rebuilder = y.rebuilder ∙ x.rebuilder }

-- The whole rebuild: `mid` has the operation in hand, and `last` came of its turns.
module _ (kind : List ℕ) (earlier : List Event) (node : ℕ) (old mid last new : SoleView) (m m' : Machine) where
  abbrev Keeps : Type 0
  Keeps = IsTrue (keeps_legal kind)

  abbrev v : Volume
  v = volume_in kind

  module _ (began : mid.pass.log ≡ old.pass.log) (work : m.work ≡ begun (operation.Rebuild node)) (layout : m.layout ≡ v.layout) (ends_with : new.pass ≡ last.pass) where
    its-course : (events : List Event) (w : Work) → IsCourseFrom m.layout mid.pass.actor mid.number m.work events w → IsRebuildCourse v.layout mid.pass.actor mid.number node events w
    its-course events w course =
        subst (λ (first : Work). IsCourseFrom v.layout mid.pass.actor mid.number first events w) work
        (subst (λ (y : Layout). IsCourseFrom y mid.pass.actor mid.number m.work events w) layout course)

    -- users see nothing of it
    pub rebuild-quiet : AreRebuildsStill → (Keeps → IsLegalInRuns v (new.pass.log ++ earlier)) → HasGone kind mid.number mid.pass last.pass m m' → IsQuiet kind earlier old new
    rebuild-quiet still legal gone = go (keeps_legal kind) refl
      where
        apart : keeps_legal kind ≡ false → Keeps → ⊥
        apart is keeps = cc

        go : (b : Bool) → keeps_legal kind ≡ b → IsQuiet kind earlier old new
        go true is = record {
          events = gone.events;
          log = λ keeps. ap (λ (p : PassView). p.log) ends_with ∙ gone.log ∙ ap (λ (l : List Event). gone.events ++ l) began;
          still = still v.layout mid.pass.actor mid.number node gone.events m'.work (its-course gone.events m'.work (gone.course is));
          legal = legal;
        }
        go false is = record { events = []; log = λ keeps. absurd (apart is keeps); still = tt; legal = legal }

    -- how it ended
    pub rebuild-ended : IsRebuildWhole v → (Keeps → IsLegalInRuns v (new.pass.log ++ earlier)) → IsSameTurn mid last → (end : RebuildEnd) → HasEnded kind mid.number mid.pass last.pass m end
        → HasRebuilt kind earlier node old new end
    rebuild-ended whole legal same end ended =
        let by : mid.pass.actor ≡ new.pass.actor = sym (ap (λ (p : PassView). p.actor) ends_with ∙ same.actor) in
        let log : new.pass.log ≡ e.Done new.pass.actor mid.number (answers.Rebuild end) ∷ ended.events ++ old.pass.log =
        ap (λ (p : PassView). p.log) ends_with
        ∙ ended.log
        ∙ ap (λ (l : List Event). e.Done mid.pass.actor mid.number (answers.Rebuild end) ∷ ended.events ++ l) began
        ∙ ap (λ (a : Actor). e.Done a mid.number (answers.Rebuild end) ∷ ended.events ++ old.pass.log) by in
        let course : Keeps → IsRebuildEnding v.layout new.pass.actor mid.number node ended.events end = λ keeps.
        let c = ended.course keeps in
        subst (λ (a : Actor). IsRebuildEnding v.layout a mid.number node ended.events end) by
        (c.0, its-course ended.events c.0 c.1, subst (λ (y : Layout). ask_of y c.0 ≡ Say (SayDone (answers.Rebuild end))) layout c.2) in
        record { number = mid.number; events = ended.events; log = log; course = course; whole = λ keeps. its-whole whole end ended.events log (course keeps) (legal keeps) }
      where
        its-whole : IsRebuildWhole v → (end : RebuildEnd) (events : List Event) → new.pass.log ≡ e.Done new.pass.actor mid.number (answers.Rebuild end) ∷ events ++ old.pass.log
            → IsRebuildEnding v.layout new.pass.actor mid.number node events end → IsLegalInRuns v (new.pass.log ++ earlier) → IsWholeIfRebuilt (new.pass.log ++ earlier) node end
        its-whole law (ends.Rebuilt fence refilled) events log course at =
            let x : Event = e.Done new.pass.actor mid.number (answers.Rebuild (ends.Rebuilt fence refilled)) in
            let all : new.pass.log ++ earlier ≡ x ∷ events ++ (old.pass.log ++ earlier) =
            ap (λ (l : List Event). l ++ earlier) log ∙ ap (λ (l : List Event). x ∷ l) (append_assoc events old.pass.log earlier) in
            subst (λ (h : List Event). IsWholeIfRebuilt h node (ends.Rebuilt fence refilled)) (sym all)
            (law (old.pass.log ++ earlier) events new.pass.actor mid.number node fence refilled (subst (IsLegalInRuns v) all at) course)
        its-whole law (_) events log course at = tt

    pub rebuilt-if : IsRebuildWhole v → (Keeps → IsLegalInRuns v (new.pass.log ++ earlier)) → IsSameTurn mid last → (r : Result RebuildEnd Stop)
        → IfOk r (λ end. HasEnded kind mid.number mid.pass last.pass m end) → IfOk r (λ end. HasRebuilt kind earlier node old new end)
    rebuilt-if whole legal same (Ok end) ended = rebuild-ended whole legal same end ended
    rebuilt-if whole legal same (Err why) ended = tt
