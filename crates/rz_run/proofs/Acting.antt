-- Nobody has events in the log of a play but those to whom the lines give an operation, and the administrator.
use Rattle.std.proofs.Common.{ℕ, Bool, true, false, ◌≡◌, List, [], ◌∷◌, ◌++◌, cond, refl, sym, ap, ◌∙◌, subst, inl, inr}
use Rattle.std.specs.List.{AllByRecursion}
use Rattle.std.proofs.lemmas.Bool.{eq-eqb}
use Rattle.rz_events.specs.Volume.{Volume}
use Rattle.rz_events.specs.Events.{by_of, same_actor}
use Rattle.rz_events.specs.declared.keys.Actor.{Actor}
use Rattle.rz_events.specs.declared.keys.Actor.TheVariants.{Client, Rebuilder, Admin}
use Rattle.rz_events.specs.declared.events.Event.{Event}
use Rattle.rz_operation_model.specs.Ask.{ask_of}
use Rattle.rz_operation_model.specs.Turns.{IsStep}
use Rattle.rz_core.specs.History.{of_actor}
use Rattle.rz_script.specs.Lines.{IsActor}
use Rattle.rz_script.specs.declared.line.Line.{Line}
use Rattle.rz_events.specs.declared.operations.Operation.{Operation}
use Rattle.rz_play.specs.World.{Agenda, actors, at_work}
use Rattle.rz_play_locks.specs.Operations.{given}
use Rattle.rz_play_locks.proofs.Barring.{of-actors}
use Rattle.rz_chronicle.specs.Keys.{IsMember}
use Rattle.rz_chronicle.specs.Kinds.{HavePlaces}
use Rattle.rz_threads_worker.specs.Doing.{IsDoing, Begins, Turns, IsSomeDone}
use Rattle.rz_threads_worker.specs.Workers.{agenda_with}
use Rattle.rz_run.specs.Done.{ActsFor, HasBegun, NobodyElseActs}

-- An actor that is given nothing.

module _ (honest : Bool) (v : Volume) (by : Actor) where
  -- it takes no turn
  no-turns : (from s : Agenda) (run : List Event) → from ≡ agenda_with [] → IsDoing honest v.layout by from run s → (run ≡ []) × (s ≡ from)
  no-turns from s run none Begins = (refl, refl)
  no-turns from s run none (Turns before mid t xs work first step goes) =
      let at : mid ≡ agenda_with [] = (no-turns from mid before none first).1 ∙ none in
      absurd (subst (λ (z : Agenda). IsStep by (at_work z).number (ask_of v.layout (at_work z).work) t xs) at step)

  -- so it has no event
  no-events : (ops : List Operation) (h : List Event) → ops ≡ [] → IsSomeDone honest v.layout by (agenda_with ops) [] h → of_actor by h ≡ []
  no-events ops h none done =
      let still = no-turns (agenda_with ops) done.0 done.1.run (ap agenda_with none) done.1.doing in
      done.1.own ∙ ap (λ (run : List Event). run ++ []) still.0

-- An event is one of its actor.

same-self : (a : Actor) → same_actor a a ≡ true
same-self (Client n) = eq-eqb n n refl
same-self (Rebuilder n) = eq-eqb n n refl
same-self Admin = refl

not-none : (x : Event) (h : List Event) → x ∷ h ≡ [] → ⊥
not-none x h is = cc (is)

has-own : (a : Actor) (x : Event) (h : List Event) → a ≡ by_of x → of_actor a (x ∷ h) ≡ [] → ⊥
has-own a x h is none =
    let same : same_actor a (by_of x) ≡ true = subst (λ (b : Actor). same_actor a b ≡ true) is (same-self a) in
    not-none x (of_actor a h) (sym (ap (λ (b : Bool). cond b (x ∷ of_actor a h) (of_actor a h)) same) ∙ none)

-- an actor without events in a log has none in its beginning
none-before : (b : Bool) (x : Event) (h : List Event) → cond b (x ∷ h) h ≡ [] → h ≡ []
none-before true x h is = absurd (not-none x h is)
none-before false x h is = is

module _ (kind : List ℕ) (lines : List Line) where
  -- who is given nothing has no event
  abbrev AreIdle : List Event → Type 0
  AreIdle h = (a : Actor) → IsActor a → given a lines ≡ [] → of_actor a h ≡ []

  acts-one : (x : Event) (h : List Event) → AreIdle (x ∷ h) → (a : Actor) → a ≡ by_of x → IsMember a → ActsFor lines a
  acts-one x h idle (Client n) is member = inr (λ none. has-own (Client n) x h is (idle (Client n) member none))
  acts-one x h idle (Rebuilder n) is member = inr (λ none. has-own (Rebuilder n) x h is (idle (Rebuilder n) member none))
  acts-one x h idle Admin is member = inl refl

  acts-all : (h : List Event) → HavePlaces kind h → AreIdle h → NobodyElseActs lines h
  acts-all [] places idle = tt
  acts-all (x ∷ h) places idle = (
    acts-one x h idle (by_of x) refl places.0.member,
    acts-all h places.1 (λ a ok none. none-before (same_actor a (by_of x)) x (of_actor a h) (idle a ok none)),
  )

-- each did a beginning of what it was given
pub nobody-else : (honest : Bool) (v : Volume) (kind : List ℕ) (lines : List Line) (h : List Event) → HavePlaces kind h → AllByRecursion (HasBegun honest v lines h) actors → NobodyElseActs lines h
nobody-else honest v kind lines h places begun =
    acts-all kind lines h places (λ a ok none. no-events honest v a (given a lines) h none (of-actors (HasBegun honest v lines h) a ok begun))
