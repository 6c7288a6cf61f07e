-- Between two turns each operation holds what it has to, and no two locks conflict.
use Rattle.std.proofs.Common.{◌≡◌, ◌⊎◌, inl, inr, ◌+◌, ℕ, zero, suc, Bool, true, false, List, [], ◌∷◌, ◌++◌, drop, Option, Some, None, refl, sym, ◌∙◌, ap, subst, add-one}
use Rattle.std.specs.Prelude.{slice_get}
use Rattle.mj_angles.specs.declared.layout.Layout.{Layout}
use Rattle.rz_events.specs.Volume.{Volume}
use Rattle.rz_events.specs.declared.keys.Actor.{Actor}
use Rattle.rz_events.specs.declared.export.Call.TheVariants as call
use Rattle.rz_events.specs.declared.tree.TreeCall.TheVariants as tree
use Rattle.rz_events.specs.declared.events.Event.{Event}
use Rattle.rz_events.specs.Events.{by_of, same_actor}
use Rattle.rz_core.specs.History.{Facts, facts, of_actor}
use Rattle.rz_core.specs.Own.{IsBetween}
use Rattle.rz_events.specs.declared.operations.Operation.{Operation}
use Rattle.rz_events.specs.declared.operations.Operation.TheVariants as operation
use Rattle.rz_operation_model.specs.Work.{Work, Calling, Dropping, Opening, Locking, Writing, Reading, Rebuilding, Ending, Over}
use Rattle.rz_operation_model.specs.Ask.{Ask, AskExport, AskNode, AskLock, Say, Rest, Saying, SayGot, SayGave, SayLeft, SayDone, ask_of}
use Rattle.rz_operation_model.specs.Steps.{Told, begun, told}
use Rattle.rz_operation_model.specs.Turns.{IsStep, said_event}
use Rattle.rz_play.specs.World.{World, Agenda, begin_next, at_work}
use Rattle.rz_locks.specs.declared.conflict.Lock.{Lock}
use Rattle.rz_play.specs.Turns.{IsTurn, IsAskTurn, counted}
use Rattle.rz_play_laws.specs.Own.{IsOwnOf, IsProper}
use Rattle.rz_script.specs.Lines.{IsActor}
use Rattle.rz_play_laws.specs.Fine.{IsFine}
use Rattle.rz_play_laws.proofs.Frames.{AreBy, of_actor-mine, of_actor-other, same_actor-true}
use Rattle.rz_play_laws.proofs.Steps.{export-step, node-step, lock-step, say-step}
use Rattle.rz_play_laws.proofs.Events.{export-event, node-event}
use Rattle.rz_play_laws.proofs.OwnTurns.{proper}
use Rattle.rz_play_laws.proofs.Plays.{IsAtWork, working}
use Rattle.rz_play_laws.proofs.Scripts.{seated}
use Rattle.rz_play_locks.specs.Operations.{in_hand, ended}
use Rattle.rz_play_locks.specs.Holding.{IsHolding, InHand, IsAgendaOf, IsKeeping}
use Rattle.rz_play_locks.proofs.Moves.{IsMoved, moves}
use Rattle.rz_play_locks.proofs.Barring.{apart-after, lock-at_work}
use Rattle.rz_play_locks.proofs.Turned.{hand-turn}
use Rattle.std.proofs.lemmas.List.{append_cancel_right, append_assoc}

-- The events of a turn are the actor's.
pub step-mine : (v : Volume) (f : Facts) (o run : List Event) (by : Actor) (number : ℕ) (a : Ask) → IsProper v f o run by number a → (t : Told) (xs : List Event) → IsStep by number a t xs → AreBy by xs
step-mine v f o run by number (AskExport c) ok t xs step = export-step by c (λ t xs. AreBy by xs) (λ r x is. ((export-event by c r x is).by_is, tt)) t xs step
step-mine v f o run by number (AskNode n question) ok t xs step =
    node-step by n question (λ t xs. AreBy by xs)
    (λ given x is. ((node-event by n question given x ok.2 is).by_is, tt))
    (λ given x is link. (refl, ((node-event by n question given x ok.2 is).by_is, tt)))
    (λ link. (refl, tt)) t xs step
step-mine v f o run by number (AskLock path exclusive from count) ok t xs step =
    lock-step by path (λ t xs. AreBy by xs) (λ granted r x is. ((export-event by (call.Tree (tree.OpenFile path)) r x is).by_is, tt)) t xs step
step-mine v f o run by number (Say said) ok t xs step = say-step by number said (λ t xs. AreBy by xs) (λ text. (whose said text, tt)) t xs step
  where
    whose : (said : Saying) (text : List ℕ) → by_of (said_event by number text said) ≡ by
    whose (SayGot key part mark) text = refl
    whose (SayGave key part end) text = refl
    whose (SayLeft key why) text = refl
    whose (SayDone answer) text = refl
step-mine v f o run by number Rest ok t xs step = absurd step

-- Lists.

next-of : (n : ℕ) (all : List Operation) (op : Operation) (ops : List Operation) → op ∷ ops ≡ drop n all → (slice_get all n ≡ Some op) × (ops ≡ drop (suc n) all)
next-of zero [] op ops is = cc
next-of zero (x ∷ all) op ops is = (first op x is, rest op x is)
  where
    first : (a b : Operation) → a ∷ ops ≡ b ∷ all → Some b ≡ Some a
    first a b k = cc

    rest : (a b : Operation) → a ∷ ops ≡ b ∷ all → ops ≡ all
    rest a b k = cc
next-of (suc n) [] op ops is = cc
next-of (suc n) (x ∷ all) op ops is = next-of n all op ops is

-- What others do changes nothing.

pub agenda-frame : (layout : Layout) (ops : Actor → List Operation) (h xs : List Event) (by : Actor) (more : List Operation) (s : Agenda) → of_actor by (xs ++ h) ≡ of_actor by h
    → IsAgendaOf layout ops h by more s → IsAgendaOf layout ops (xs ++ h) by more s
agenda-frame layout ops h xs by more s own is = record {
  rest = is.rest;
  hand = subst (λ (o : List Event). InHand layout ops o by s.number s.lock s.work) (sym own) is.hand;
}

-- An operation is taken up.

module _ (layout : Layout) (ops : Actor → List Operation) (h : List Event) (by : Actor) (more : List Operation) (s : Agenda) (is : IsAgendaOf layout ops h by more s) where
  begins : (op : Operation) → ended (of_actor by h) ≡ s.number → s.lock ≡ None → slice_get (ops by) s.number ≡ Some op → InHand layout ops (of_actor by h) by (s.number + 1) s.lock (begun op)
  begins op count none at = go op (ap (slice_get (ops by)) count ∙ at)
    where
      go : (op : Operation) → in_hand (ops by) (of_actor by h) ≡ Some op → InHand layout ops (of_actor by h) by (s.number + 1) s.lock (begun op)
      go (operation.Tree c) at = (ap (λ k. k + 1) count, (operation.Tree c, at, tt))
      go (operation.Put path block datum) at = (ap (λ k. k + 1) count, (operation.Put path block datum, at, (refl, none)))
      go (operation.Get path block) at = (ap (λ k. k + 1) count, (operation.Get path block, at, (refl, none)))
      go (operation.Write path offset datum) at = (ap (λ k. k + 1) count, (operation.Write path offset datum, at, (refl, none)))
      go (operation.Read path offset size) at = (ap (λ k. k + 1) count, (operation.Read path offset size, at, (refl, none)))
      go (operation.Rebuild n) at = (ap (λ k. k + 1) count, (operation.Rebuild n, at, tt))
      go (operation.Update path offset datum) at = (ap (λ k. k + 1) count, (operation.Update path offset datum, at, (refl, none)))
      go (operation.View path offset size) at = (ap (λ k. k + 1) count, (operation.View path offset size, at, (refl, none)))

  up : (work : Work) (todo : List Operation) → s.work ≡ work → s.todo ≡ todo → IsAgendaOf layout ops h by more (begin_next s work todo)
  up Over (op ∷ rest) at todo =
      let hand : InHand layout ops (of_actor by h) by s.number s.lock Over = subst (InHand layout ops (of_actor by h) by s.number s.lock) at is.hand in
      let k = next-of s.number (ops by) op (rest ++ more) (subst (λ (z : List Operation). z ++ more ≡ drop s.number (ops by)) todo is.rest) in
      record {
        rest = subst (λ n. rest ++ more ≡ drop n (ops by)) (sym (add-one s.number)) k.1;
        hand = begins op hand.0 hand.1 k.0;
      }
  up Over [] at todo = is
  up (Calling c) todo at same = is
  up (Dropping fid n places) todo at same = is
  up (Opening path plan) todo at same = is
  up (Locking path plan) todo at same = is
  up (Writing c text w) todo at same = is
  up (Reading c r) todo at same = is
  up (Rebuilding n r) todo at same = is
  up (Ending a) todo at same = is

  pub agenda-at_work : IsAgendaOf layout ops h by more (at_work s)
  agenda-at_work = up s.work s.todo refl refl

-- nothing is in hand, or an operation
pub record IsInHand (layout : Layout) (ops : Actor → List Operation) (o : List Event) (by : Actor) (number : ℕ) (lock : Option Lock) (work : Work) : Type 0 where
  pub op : Operation
  pub count : ended o + 1 ≡ number
  pub at : in_hand (ops by) o ≡ Some op
  pub holds : IsHolding layout op lock work

pub hand-of : (layout : Layout) (ops : Actor → List Operation) (o : List Event) (by : Actor) (number : ℕ) (lock : Option Lock) (work : Work) → InHand layout ops o by number lock work
    → (work ≡ Over) ⊎ IsInHand layout ops o by number lock work
hand-of layout ops o by number lock Over is = inl refl
hand-of layout ops o by number lock (Calling c) is = inr (record { op = is.1.0; count = is.0; at = is.1.1; holds = is.1.2 })
hand-of layout ops o by number lock (Dropping fid n places) is = inr (record { op = is.1.0; count = is.0; at = is.1.1; holds = is.1.2 })
hand-of layout ops o by number lock (Opening path plan) is = inr (record { op = is.1.0; count = is.0; at = is.1.1; holds = is.1.2 })
hand-of layout ops o by number lock (Locking path plan) is = inr (record { op = is.1.0; count = is.0; at = is.1.1; holds = is.1.2 })
hand-of layout ops o by number lock (Writing c text s) is = inr (record { op = is.1.0; count = is.0; at = is.1.1; holds = is.1.2 })
hand-of layout ops o by number lock (Reading c s) is = inr (record { op = is.1.0; count = is.0; at = is.1.1; holds = is.1.2 })
hand-of layout ops o by number lock (Rebuilding n s) is = inr (record { op = is.1.0; count = is.0; at = is.1.1; holds = is.1.2 })
hand-of layout ops o by number lock (Ending a) is = inr (record { op = is.1.0; count = is.0; at = is.1.1; holds = is.1.2 })

-- A turn, with all that is known of the actor at work; `run` has the events of this run before it.
pub record IsGoing (v : Volume) (ops : Actor → List Operation) (run : List Event) (w : World) (by : Actor) (s : Agenda) (next : World) : Type 0 where
  pub move : IsMoved v (counted w) by s (ask_of v.layout s.work) next
  pub own : IsOwnOf v (facts w.log) (of_actor by w.log) (of_actor by run) by s.work
  pub proper : IsProper v (facts w.log) (of_actor by w.log) (of_actor by run) by s.number (ask_of v.layout s.work)
  pub hand : IsInHand v.layout ops (of_actor by run) by s.number s.lock s.work
  pub mine : AreBy by move.xs
  pub after : IsOwnOf v (facts (move.xs ++ w.log)) (move.xs ++ of_actor by w.log) (move.xs ++ of_actor by run) by (told v.layout s.work move.t)

-- the events that a turn, or a line, adds are of this run
pub runs-on : (v : Volume) (old : List Event) (w next : World) (fine : IsFine v old w) (fine_next : IsFine v old next) (xs : List Event) → next.log ≡ xs ++ w.log → fine_next.run ≡ xs ++ fine.run
runs-on v old w next fine fine_next xs log_is =
    append_cancel_right fine_next.run (xs ++ fine.run) old
    (sym fine_next.log_is ∙ log_is ∙ ap (λ (z : List Event). xs ++ z) fine.log_is ∙ sym (append_assoc xs fine.run old))

pub going : (v : Volume) (old : List Event) (ops more : Actor → List Operation) (by : Actor) → IsActor by → (w next : World) (fine : IsFine v old w) → IsFine v old next
    → IsKeeping v.layout ops more fine.run w → IsTurn v by w next → (next ≡ counted w) ⊎ IsGoing v ops fine.run w by (at_work (w.agendas by)) next
going v old ops more by ok w next fine fine_next keeping turn =
    go (at_work (w.agendas by)) (working v old w fine by (seated by ok)) (agenda-at_work v.layout ops fine.run by (more by) (w.agendas by) (keeping.agendas by ok)) turn
  where
    all : List Event
    all = of_actor by w.log

    mine : List Event
    mine = of_actor by fine.run

    moved : (s : Agenda) → IsAtWork v (facts w.log) all mine by s → IsInHand v.layout ops mine by s.number s.lock s.work
        → IsProper v (facts w.log) all mine by s.number (ask_of v.layout s.work) → IsMoved v (counted w) by s (ask_of v.layout s.work) next → IsGoing v ops fine.run w by s next
    moved s at hand ok_ask m =
        let by_is = step-mine v (facts w.log) all mine by s.number (ask_of v.layout s.work) ok_ask m.t m.xs m.step in
        record {
          move = m;
          own = at.own;
          proper = ok_ask;
          hand = hand;
          mine = by_is;
          after = subst (λ (r : List Event). IsOwnOf v (facts (m.xs ++ w.log)) (m.xs ++ all) r by (told v.layout s.work m.t)) (of_actor-mine by m.xs fine.run by_is)
              (subst (λ (o : List Event). IsOwnOf v (facts (m.xs ++ w.log)) o (of_actor by (m.xs ++ fine.run)) by (told v.layout s.work m.t)) (of_actor-mine by m.xs w.log by_is)
              (subst (λ (h : List Event). IsOwnOf v (facts h) (of_actor by h) (of_actor by (m.xs ++ fine.run)) by (told v.layout s.work m.t)) m.log_is
              (subst (λ z. IsOwnOf v (facts next.log) (of_actor by next.log) (of_actor by (m.xs ++ fine.run)) by z) m.work_is
              (subst (λ (r : List Event). IsOwnOf v (facts next.log) (of_actor by next.log) (of_actor by r) by (next.agendas by).work) (runs-on v old w next fine fine_next m.xs m.log_is)
              (fine_next.own by (seated by ok))))));
        }

    go : (s : Agenda) → IsAtWork v (facts w.log) all mine by s → IsAgendaOf v.layout ops fine.run by (more by) s → IsAskTurn v (counted w) by s (ask_of v.layout s.work) next
        → (next ≡ counted w) ⊎ IsGoing v ops fine.run w by s next
    go s at agenda turn = elim (hand-of v.layout ops mine by s.number s.lock s.work agenda.hand) [
      | inl over ↦ inl (subst (λ z. IsAskTurn v (counted w) by s (ask_of v.layout z) next) over turn)
      | inr hand ↦ elim at.way [
        | inl over ↦ inl (subst (λ z. IsAskTurn v (counted w) by s (ask_of v.layout z) next) over turn)
        | inr course ↦ elim (moves v (counted w) by s (ask_of v.layout s.work) next turn) [
          | inl same ↦ inl same
          | inr m ↦ inr (moved s at hand (proper v (facts w.log) all mine by s.number s.work at.own course) m)
        ]
      ]
    ]

between-of : (v : Volume) (f : Facts) (o run : List Event) (by : Actor) (work : Work) → IsOwnOf v f o run by work → work ≡ Over → IsBetween run
between-of v f o run by work own over = subst (IsOwnOf v f o run by) over own

-- The world after a turn.
pub keeping-turn : (v : Volume) (old : List Event) (ops more : Actor → List Operation) (by : Actor) → IsActor by → (w next : World) (fine : IsFine v old w) (fine_next : IsFine v old next)
    → IsKeeping v.layout ops more fine.run w → IsTurn v by w next → IsKeeping v.layout ops more fine_next.run next
keeping-turn v old ops more by ok w next fine fine_next keeping turn = elim (going v old ops more by ok w next fine fine_next keeping turn) [
  | inl same ↦ subst (λ (r : List Event). IsKeeping v.layout ops more r next) (sym (runs-on v old w next fine fine_next [] (ap (λ (z : World). z.log) same)))
      (subst (IsKeeping v.layout ops more fine.run) (sym same) (record { apart = keeping.apart; agendas = keeping.agendas }))
  | inr g ↦ subst (λ (r : List Event). IsKeeping v.layout ops more r next) (sym (runs-on v old w next fine fine_next g.move.xs g.move.log_is)) (record {
    apart = apart-after v (counted w) keeping.apart by ok (at_work (w.agendas by)) (lock-at_work (w.agendas by)) (ask_of v.layout (at_work (w.agendas by)).work) next g.move;
    agendas = λ a is. agenda g a is (same_actor a by) refl;
  })
]
  where
    agenda : (g : IsGoing v ops fine.run w by (at_work (w.agendas by)) next) → (a : Actor) → IsActor a → (b : Bool) → same_actor a by ≡ b → IsAgendaOf v.layout ops (g.move.xs ++ fine.run) a (more a) (next.agendas a)
    agenda g a is true at =
        let s = at_work (w.agendas by) in
        let before = agenda-at_work v.layout ops fine.run by (more by) (w.agendas by) (keeping.agendas by ok) in
        let m = g.move in
        let now = hand-turn v ops fine.run by s.number g.hand.op g.hand.count g.hand.at (counted w) s (facts w.log) (of_actor by w.log) (of_actor by fine.run) m.t m.xs (next.agendas by).lock s.work g.own g.hand.holds m.step m.lock_is
        (between-of v (facts (m.xs ++ w.log)) (m.xs ++ of_actor by w.log) (m.xs ++ of_actor by fine.run) by (told v.layout s.work m.t) g.after) in
        subst (λ z. IsAgendaOf v.layout ops (m.xs ++ fine.run) z (more z) (next.agendas z)) (sym (same_actor-true a by at))
        (record {
          rest = subst (λ (z : List Operation). z ++ more by ≡ drop (next.agendas by).number (ops by)) (sym m.todo_is)
              (subst (λ k. s.todo ++ more by ≡ drop k (ops by)) (sym m.number_is) before.rest);
          hand = subst (λ (o : List Event). InHand v.layout ops o by (next.agendas by).number (next.agendas by).lock (next.agendas by).work) (sym (of_actor-mine by m.xs fine.run g.mine))
              (subst (λ k. InHand v.layout ops (m.xs ++ of_actor by fine.run) by k (next.agendas by).lock (next.agendas by).work) (sym m.number_is)
              (subst (InHand v.layout ops (m.xs ++ of_actor by fine.run) by s.number (next.agendas by).lock) (sym m.work_is) now));
        })
    agenda g a is false apart =
        let m = g.move in
        subst (λ (z : Agenda). IsAgendaOf v.layout ops (m.xs ++ fine.run) a (more a) z) (sym (m.others a apart))
        (agenda-frame v.layout ops fine.run m.xs a (more a) (w.agendas a) (of_actor-other a by m.xs fine.run apart g.mine) (keeping.agendas a is))
