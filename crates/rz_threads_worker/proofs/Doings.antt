-- Turns one after another.
use Rattle.std.proofs.Common.{◌≡◌, ℕ, Bool, List, [], ◌++◌, sym, ◌∙◌, ap, subst, inl, inr, append_assoc, append-nil, arith}
use Rattle.mj_angles.specs.declared.layout.Layout.{Layout}
use Rattle.rz_events.specs.declared.keys.Actor.{Actor}
use Rattle.rz_events.specs.declared.events.Event.{Event}
use Rattle.rz_operation_model.specs.Ask.{ask_of}
use Rattle.rz_operation_model.specs.Work.{Work}
use Rattle.rz_operation_model.specs.Steps.{Told, told}
use Rattle.rz_operation_model.specs.Turns.{IsStep}
use Rattle.rz_operation.specs.Machine.{Machine}
use Rattle.rz_core.specs.History.{of_actor}
use Rattle.rz_play.specs.Faults.{missed}
use Rattle.rz_play.specs.World.{Agenda, at_work, with_work}
use Rattle.rz_threads_steps.specs.Turned.{WorkGoesOn, IsTurned, IsCutOff, AreLost}
use Rattle.rz_threads_steps.proofs.Acts.{goes-as-told}
use Rattle.rz_threads_worker.specs.Doing.{IsDoing, Begins, Turns, HasDone, IsSomeDone}

module _ (honest : Bool) (layout : Layout) (by : Actor) where
  -- turns after turns
  pub doing-on : (from mid last : Agenda) (run more : List Event) → IsDoing honest layout by from run mid → IsDoing honest layout by mid more last → IsDoing honest layout by from (more ++ run) last
  doing-on from mid last run more first Begins = first
  doing-on from mid last run more first (Turns before s t xs work next step goes) =
      subst (λ (r : List Event). IsDoing honest layout by from r (with_work (at_work s) work)) (sym (append_assoc xs before run))
      (Turns (before ++ run) s t xs work (doing-on from mid s run before first next) step goes)

  pub done-on : (from mid last : Agenda) (old between new : List Event) → HasDone honest layout by from mid old between → HasDone honest layout by mid last between new → HasDone honest layout by from last old new
  done-on from mid last old between new first next = record {
    run = next.run ++ first.run;
    own = next.own ∙ ap (λ (o : List Event). next.run ++ o) first.own ∙ sym (append_assoc next.run first.run (of_actor by old));
    doing = doing-on from mid last first.run next.run first.doing next.doing;
  }

  -- nothing was done
  pub none-done : (s : Agenda) (old new : List Event) → of_actor by new ≡ of_actor by old → HasDone honest layout by s s old new
  none-done s old new own = record { run = []; own = own; doing = Begins }

  -- one turn was
  module _ (s w : Agenda) (m : Machine) (old new : List Event) (at : w ≡ at_work s) (work : w.work ≡ m.work) (is : m.layout ≡ layout) where
    step-at : (t : Told) (xs : List Event) → IsStep by w.number (ask_of m.layout m.work) t xs → IsStep by (at_work s).number (ask_of layout (at_work s).work) t xs
    step-at t xs step =
        subst (λ (z : Agenda). IsStep by z.number (ask_of layout z.work) t xs) at
        (subst (λ (k : Work). IsStep by w.number (ask_of layout k) t xs) (sym work) (subst (λ (y : Layout). IsStep by w.number (ask_of y m.work) t xs) is step))

    goes-at : (t : Told) (work' : Work) → WorkGoesOn honest m.layout m.work t work' → WorkGoesOn honest layout (at_work s).work t work'
    goes-at t work' goes =
        subst (λ (z : Agenda). WorkGoesOn honest layout z.work t work') at
        (subst (λ (k : Work). WorkGoesOn honest layout k t work') (sym work) (subst (λ (y : Layout). WorkGoesOn honest y m.work t work') is goes))

    stepped : (t : Told) (xs : List Event) (work' : Work) → of_actor by new ≡ xs ++ of_actor by old → IsStep by w.number (ask_of m.layout m.work) t xs → WorkGoesOn honest m.layout m.work t work'
        → HasDone honest layout by s (with_work w work') old new
    stepped t xs work' own step goes = record {
      run = xs;
      own = own;
      doing = subst (λ (z : Agenda). IsDoing honest layout by s xs (with_work z work')) (sym at)
          (subst (λ (r : List Event). IsDoing honest layout by s r (with_work (at_work s) work')) (append-nil xs) (Turns [] s t xs work' Begins (step-at t xs step) (goes-at t work' goes)));
    }

    pub turn-done : (m' : Machine) → IsTurned honest by w.number old new m m' → HasDone honest layout by s (with_work w m'.work) old new
    turn-done m' it = stepped it.answer it.events m'.work it.own it.step it.goes

    pub cut-begun : IsCutOff by w.number old new m → IsSomeDone honest layout by s old new
    cut-begun it = elim it.some [
      | inl none ↦ (s, none-done s old new (it.own ∙ ap (λ (xs : List Event). xs ++ of_actor by old) none))
      | inr step ↦ (with_work w (told m.layout m.work step.0), stepped step.0 it.events (told m.layout m.work step.0) it.own step.1 (goes-as-told honest m.layout m.work step.0))
    ]

-- ---- messages that were lost

-- nothing was done
pub still-lost : (by : Actor) (h : List Event) (n : ℕ) → AreLost by h h n n
still-lost by h n = omega arith

-- no message was lost
pub quiet-lost : (by : Actor) (old new : List Event) (n : ℕ) → missed (of_actor by new) ≡ missed (of_actor by old) → AreLost by old new n n
quiet-lost by old new n same = omega (arith, same)

-- losses add up
pub lost-on : (by : Actor) (old between new : List Event) (a b c : ℕ) → AreLost by old between a b → AreLost by between new b c → AreLost by old new a c
lost-on by old between new a b c p q = omega (arith, p, q)
