-- Turns of one operation, one after another, and who they are by.
use Rattle.std.proofs.Common.{ℕ, Bool, true, false, ◌≡◌, List, [], ◌∷◌, ◌++◌, cond, refl, sym, ◌∙◌, ap, subst, append_assoc}
use Rattle.std.specs.Prelude.{IsTrue}
use Rattle.std.specs.List.{AllByRecursion, filter}
use Rattle.std.proofs.lemmas.List.{append-nil, append_cancel_right}
use Rattle.std.proofs.lemmas.List.Elements.{filter-append}
use Rattle.mj_angles.specs.declared.layout.Layout.{Layout}
use Rattle.rz_events.specs.declared.keys.Actor.{Actor}
use Rattle.rz_events.specs.declared.events.Event.{Event}
use Rattle.rz_events.specs.Events.{by_of, same_actor}
use Rattle.rz_operation.specs.Machine.{Machine}
use Rattle.rz_operation_model.specs.Ask.{ask_of}
use Rattle.rz_operation_model.specs.Work.{Work}
use Rattle.rz_operation_model.specs.Steps.{told}
use Rattle.rz_core.specs.History.{of_actor}
use Rattle.rz_play_laws.proofs.Frames.{AreBy, of_actor-other, same_actor-true}
use Rattle.rz_contents.specs.Files.{is_word, IsSilentCourse, Begins, Turns}
use Rattle.rz_chronicle.specs.Kinds.{keeps_legal}
use Rattle.rz_chronicle.specs.Holds.{HasAllActors}
use Rattle.rz_chronicle.specs.Rules.{PassView}
use Rattle.rz_threads_steps.specs.Acted.{HasActed, IsStopped}
use Rattle.rz_threads_steps.specs.Adding.{PassLasts}
use Rattle.rz_store_turns.specs.Runs.{GoesAlone, HasTurned, HasRun}

-- Whose events they are.

passes : (p : Event → Bool) (xs : List Event) → AllByRecursion (λ x. p x ≡ true) (filter p xs)
passes p [] = tt
passes p (x ∷ xs) = go (passes p xs) (p x) refl
  where
    go : AllByRecursion (λ y. p y ≡ true) (filter p xs) → (b : Bool) → p x ≡ b → AllByRecursion (λ y. p y ≡ true) (cond b (x ∷ filter p xs) (filter p xs))
    go rest true is = (is, rest)
    go rest false is = rest

by-them : (by : Actor) (xs : List Event) → AllByRecursion (λ x. same_actor by (by_of x) ≡ true) xs → AreBy by xs
by-them by [] all = tt
by-them by (x ∷ xs) all = (sym (same_actor-true by (by_of x) all.0), by-them by xs all.1)

-- new events that are new ones of the actor are all its own
mine : (by : Actor) (xs old new : List Event) → new ≡ xs ++ old → of_actor by new ≡ xs ++ of_actor by old → AreBy by xs
mine by xs old new all own =
    let p : Event → Bool = λ x. same_actor by (by_of x) in
    let kept : of_actor by xs ≡ xs =
    append_cancel_right (of_actor by xs) xs (of_actor by old) (sym (filter-append p xs old) ∙ ap (of_actor by) (sym all) ∙ own) in
    by-them by xs (subst (AllByRecursion (λ x. p x ≡ true)) kept (passes p xs))

apart : (a by : Actor) → ¬ (a ≡ by) → same_actor a by ≡ false
apart a by other = go (same_actor a by) refl
  where
    go : (b : Bool) → same_actor a by ≡ b → b ≡ false
    go true is = absurd (other (same_actor-true a by is))
    go false is = refl

pub others : (a by : Actor) (xs old new : List Event) → ¬ (a ≡ by) → new ≡ xs ++ old → of_actor by new ≡ xs ++ of_actor by old → of_actor a new ≡ of_actor a old
others a by xs old new other all own =
    ap (of_actor a) all ∙ of_actor-other a by xs old (apart a by other) (mine by xs old new all own)

pub goes-alone : (old new : PassView) (events : List Event) → PassLasts old new → new.log ≡ events ++ old.log → of_actor old.actor new.log ≡ events ++ of_actor old.actor old.log → GoesAlone old new
goes-alone old new events lasts all own = record {
  actor = lasts.actor;
  keys = lasts.keys;
  others = λ a other. others a old.actor events old.log new.log other all own;
}

pub stays-alone : (p : PassView) → GoesAlone p p
stays-alone p = record { actor = refl; keys = refl; others = λ a other. refl }

pub alone-then : (old mid new : PassView) → GoesAlone old mid → GoesAlone mid new → GoesAlone old new
alone-then old mid new a b = record {
  actor = b.actor ∙ a.actor;
  keys = b.keys ∙ a.keys;
  others = λ c other. b.others c (λ same. other (same ∙ a.actor)) ∙ a.others c other;
}

-- Turns.

course-then : (y : Layout) (by : Actor) (number : ℕ) (first mid last : Work) (xs ys : List Event) → IsSilentCourse y by number first xs mid → IsSilentCourse y by number mid ys last
    → IsSilentCourse y by number first (ys ++ xs) last
course-then y by number first mid last xs ys a (Begins) = a
course-then y by number first mid last xs ys a (Turns zs work t us b quiet step) =
    subst (λ (l : List Event). IsSilentCourse y by number first l (told y work t)) (sym (append_assoc us zs xs))
    (Turns (zs ++ xs) work t us (course-then y by number first mid work xs zs a b) quiet step)

pub no-turn : (kind : List ℕ) (number : ℕ) (p : PassView) (m : Machine) → HasRun kind number p p m m
no-turn kind number p m = record { events = []; log = refl; course = λ legal. Begins }

pub runs-then : (kind : List ℕ) (number : ℕ) (old mid new : PassView) (m n o : Machine) → GoesAlone old mid → n.layout ≡ m.layout → HasRun kind number old mid m n → HasRun kind number mid new n o
    → HasRun kind number old new m o
runs-then kind number old mid new m n o alone layout a b = record {
  events = b.events ++ a.events;
  log = b.log ∙ ap (λ (l : List Event). b.events ++ l) a.log ∙ sym (append_assoc b.events a.events old.log);
  course = λ legal.
      let later : IsSilentCourse m.layout old.actor number n.work b.events o.work =
      subst (λ (y : Layout). IsSilentCourse y old.actor number n.work b.events o.work) layout
      (subst (λ (c : Actor). IsSilentCourse n.layout c number n.work b.events o.work) alone.actor (b.course legal)) in
      course-then m.layout old.actor number m.work n.work o.work a.events b.events (a.course legal) later;
}

-- a turn in which no word was said
pub one-turn : (kind : List ℕ) (number : ℕ) (old new : PassView) (m m' : Machine) → is_word (ask_of m.layout m.work) ≡ false → HasTurned kind number old new m m' → HasRun kind number old new m m'
one-turn kind number old new m m' quiet t = record {
  events = t.events;
  log = t.log;
  course = λ legal.
      subst (λ (w : Work). IsSilentCourse m.layout old.actor number m.work t.events w) (sym (t.goes legal))
      (subst (λ (l : List Event). IsSilentCourse m.layout old.actor number m.work l (told m.layout m.work t.answer)) (append-nil t.events)
      (Turns [] m.work t.answer t.events Begins quiet t.step));
}

-- What the steps say.

pub acted-turn : (kind : List ℕ) (earlier : List Event) (number : ℕ) (old new : PassView) (m m' : Machine) → HasAllActors old.keys → HasActed kind earlier number old new m m' → HasTurned kind number old new m m'
acted-turn kind earlier number old new m m' all acted =
    let t = acted.turned in
    record { answer = t.answer; events = t.events; log = acted.alone all; step = t.step; goes = λ legal. t.goes.fitting legal }

pub cut-turn : (kind : List ℕ) (number : ℕ) (old new : PassView) (m m' : Machine) → HasAllActors old.keys → m' ≡ m → IsStopped kind number old new m → HasRun kind number old new m m'
cut-turn kind number old new m m' all kept stopped = record {
  events = stopped.cut.events;
  log = stopped.alone all;
  course = λ legal.
      subst (λ (l : List Event). IsSilentCourse m.layout old.actor number m.work l m'.work) (sym (stopped.none legal))
      (subst (λ (z : Machine). IsSilentCourse m.layout old.actor number m.work [] z.work) (sym kept) Begins);
}

pub cut-still : (kind : List ℕ) (number : ℕ) (old new : PassView) (m : Machine) → HasAllActors old.keys → IsStopped kind number old new m → IsTrue (keeps_legal kind) → new.log ≡ old.log
cut-still kind number old new m all stopped legal = stopped.alone all ∙ ap (λ (l : List Event). l ++ old.log) (stopped.none legal)
