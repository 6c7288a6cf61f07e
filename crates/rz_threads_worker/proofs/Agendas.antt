-- A worker takes up its next operation.
use Rattle.std.proofs.Common.{◌≡◌, ℕ, ◌+◌, Bool, true, false, not, List, [], ◌∷◌, ◌++◌, length, drop, Option, Some, None, refl, sym, ◌∙◌, ap, subst, arith}
use Rattle.std.specs.List.{AllByRecursion}
use Rattle.mj_angles.specs.declared.layout.Layout.{Layout}
use Rattle.rz_events.specs.Volume.{Volume}
use Rattle.rz_events.specs.declared.keys.Actor.{Actor}
use Rattle.rz_events.specs.declared.events.Event.{Event}
use Rattle.rz_events.specs.declared.operations.Operation.{Operation}
use Rattle.rz_script.specs.Lines.{IsOperation}
use Rattle.rz_operation.specs.Answers as answers
use Rattle.rz_operation.specs.Machine.{Machine, work_in, HasLayout}
use Rattle.rz_operation_model.specs.Work.{Work, Calling, Dropping, Opening, Locking, Writing, Reading, Rebuilding, Ending, Over}
use Rattle.rz_operation_model.specs.Steps.{begun}
use Rattle.rz_core.specs.History.{facts, of_actor}
use Rattle.rz_core.specs.Own.{IsBetween}
use Rattle.rz_play.specs.World.{Agenda as APlayer, begin_next, at_work, is_over}
use Rattle.rz_play_laws.specs.Own.{IsOwnOf}
use Rattle.rz_block_laws.specs.ActingLaws.{IsBeginningLaw, IsScriptLaw}
use Rattle.rz_chronicle.specs.Kinds.{volume_in}
use Rattle.rz_chronicle.specs.Rules.{PassView}
use Rattle.rz_threads_steps.specs.Acted.{IsWorkRight}
use Rattle.rz_threads_worker.specs.declared.worker_agenda.Agenda.{Agenda}
use Rattle.rz_threads_worker.specs.Workers.{agenda_of, IsAtHand, IsWorkerReady, BeginsNext, Works, Rests, Begins}

-- ---- in the words of a play

-- an operation in hand stays
same-work : (s : APlayer) (work : Work) (ops : List Operation) → is_over work ≡ false → begin_next s work ops ≡ s
same-work s Over ops busy = absurd (cc)
same-work s (Calling c) ops busy = refl
same-work s (Dropping fid n places) ops busy = refl
same-work s (Opening path plan) ops busy = refl
same-work s (Locking path plan) ops busy = refl
same-work s (Writing course text w) ops busy = refl
same-work s (Reading course r) ops busy = refl
same-work s (Rebuilding n r) ops busy = refl
same-work s (Ending answer) ops busy = refl

-- nothing to do
no-work : (s : APlayer) (work : Work) → begin_next s work [] ≡ s
no-work s Over = refl
no-work s (Calling c) = refl
no-work s (Dropping fid n places) = refl
no-work s (Opening path plan) = refl
no-work s (Locking path plan) = refl
no-work s (Writing course text w) = refl
no-work s (Reading course r) = refl
no-work s (Rebuilding n r) = refl
no-work s (Ending answer) = refl

over-is : (work : Work) → is_over work ≡ true → work ≡ Over
over-is Over is = refl
over-is (Calling c) is = absurd (cc)
over-is (Dropping fid n places) is = absurd (cc)
over-is (Opening path plan) is = absurd (cc)
over-is (Locking path plan) is = absurd (cc)
over-is (Writing course text w) is = absurd (cc)
over-is (Reading course r) is = absurd (cc)
over-is (Rebuilding n r) is = absurd (cc)
over-is (Ending answer) is = absurd (cc)

-- the next operation was taken up
next-work : (s : APlayer) (op : Operation) (ops : List Operation) (number : ℕ) (work : Work) → is_over s.work ≡ true → s.todo ≡ op ∷ ops → number ≡ s.number + 1 → work ≡ begun op
    → record s { todo = ops; number = number; work = work } ≡ at_work s
next-work s op ops number work over todo num is =
    ap (λ (n : ℕ). record s { todo = ops; number = n; work = work }) num
    ∙ ap (λ (w : Work). record s { todo = ops; number = s.number + 1; work = w }) is
    ∙ sym (ap (begin_next s s.work) todo ∙ ap (λ (w : Work). begin_next s w (op ∷ ops)) (over-is s.work over))

-- the agenda is that of an actor at work
pub taken-up : (layout : Layout) (a b : Agenda) → BeginsNext layout a b → agenda_of b ≡ at_work (agenda_of a)
taken-up layout a b (Works busy same) = ap agenda_of same ∙ sym (same-work (agenda_of a) (work_in a.machine) a.todo.items busy)
taken-up layout a b (Rests none still number hand) =
    (λ i. record { todo = (still ∙ sym none) i; number = number i; work = work_in (hand i); lock = None; miss = None })
    ∙ sym (ap (begin_next (agenda_of a) (work_in a.machine)) none ∙ no-work (agenda_of a) (work_in a.machine))
taken-up layout a b (Begins op m over todo number is lay work) =
    next-work (agenda_of a) op b.todo.items b.number (work_in b.machine) over todo number (ap work_in is ∙ work)

pub negated : (b : Bool) → false ≡ not b → b ≡ true
negated true is = refl
negated false is = absurd (cc)

pub negated-too : (b : Bool) → true ≡ not b → b ≡ false
negated-too true is = absurd (cc)
negated-too false is = refl

-- a row of which nothing came is empty
pub none-left : (old new : List Operation) → old ≡ new → new ≡ drop 1 old → old ≡ []
none-left [] new same rest = refl
none-left (op ∷ ops) new same rest =
    let short : length (op ∷ ops) ≡ length ops = ap length (same ∙ rest) in
    absurd (omega (arith, short))

-- ---- the operations are such as machines take

pub all-taken : (v : Volume) → IsScriptLaw v → (by : Actor) (ops : List Operation) → AllByRecursion (IsOperation v by) ops → AllByRecursion (answers.IsWithinLayout v.layout) ops
all-taken v scripted by [] all = tt
all-taken v scripted by (op ∷ ops) all = ((scripted by op all.0).takes, all-taken v scripted by ops all.1)

-- ---- it is ready with what it took up

-- where none is in hand, the actor is between two operations
between : (v : Volume) (h : List Event) (by : Actor) (number : ℕ) (hand : Option Machine) → is_over (work_in hand) ≡ true → IsAtHand v h by number hand → IsBetween (of_actor by h)
between v h by number None over at = at
between v h by number (Some m) over at = subst (λ (w : Work). IsOwnOf v (facts (h ++ [])) (of_actor by (h ++ [])) (of_actor by h) by w) (over-is m.work over) at.true_to.own

module _ (kind : List ℕ) (pass : PassView) (a b : Agenda) (bins : List ℕ) (shown : List Event) (ready : IsWorkerReady kind pass a bins shown) where
  abbrev v : Volume
  v = volume_in kind

  begins-ready : IsScriptLaw v → IsBeginningLaw v → (op : Operation) (m : Machine) → is_over (work_in a.machine) ≡ true → a.todo.items ≡ op ∷ b.todo.items → b.machine ≡ Some m → m.layout ≡ v.layout → m.work ≡ begun op → IsWorkerReady kind pass b bins shown
  begins-ready scripted begins op m over todo is layout work =
      let all = subst (AllByRecursion (IsOperation v pass.actor)) todo ready.todo in
      record {
        actor = ready.actor;
        todo = all.1;
        machine = subst (HasLayout v.layout) (sym is) layout;
        at_hand = λ keeps. subst (IsAtHand v pass.log pass.actor b.number) (sym is)
            (begins [] pass.log pass.actor b.number op m (scripted pass.actor op all.0) (between v pass.log pass.actor a.number a.machine over (ready.at_hand keeps)) layout work);
        room = ready.room;
        shows = ready.shows;
      }

  pub ready-on : IsScriptLaw v → IsBeginningLaw v → (layout : Layout) → layout ≡ v.layout → BeginsNext layout a b → IsWorkerReady kind pass b bins shown
  ready-on scripted begins layout is (Works busy same) = subst (λ (s : Agenda). IsWorkerReady kind pass s bins shown) (sym same) ready
  ready-on scripted begins layout is (Rests none still number hand) = record {
    actor = ready.actor;
    todo = subst (AllByRecursion (IsOperation v pass.actor)) (sym still) tt;
    machine = subst (HasLayout v.layout) (sym hand) ready.machine;
    at_hand = λ keeps. subst (λ (n : ℕ). IsAtHand v pass.log pass.actor n b.machine) (sym number) (subst (IsAtHand v pass.log pass.actor a.number) (sym hand) (ready.at_hand keeps));
    room = ready.room;
    shows = ready.shows;
  }
  ready-on scripted begins layout is (Begins op m over todo number some lay work) = begins-ready scripted begins op m over todo some (lay ∙ is) work

  -- the machine in hand
  pub hand-layout : (m : Machine) → a.machine ≡ Some m → m.layout ≡ v.layout
  hand-layout m is = subst (HasLayout v.layout) is ready.machine

  pub hand-right : (m : Machine) → a.machine ≡ Some m → IsWorkRight kind [] pass a.number m
  hand-right m is keeps = subst (IsAtHand v pass.log pass.actor a.number) is (ready.at_hand keeps)
