-- A turn, taken apart: what the actor is told, the events, and what its agenda is then.
use Rattle.std.proofs.Common.{◌≡◌, ◌⊎◌, inl, inr, Bool, true, false, cond, List, [], ◌∷◌, ◌++◌, Option, Some, None, refl, ◌∙◌, ap}
use Rattle.rz_events.specs.Volume.{Volume}
use Rattle.rz_events.specs.declared.keys.Actor.{Actor}
use Rattle.rz_events.specs.declared.export.Call.TheVariants as call
use Rattle.rz_events.specs.declared.tree.TreeCall.TheVariants as tree
use Rattle.rz_events.specs.declared.nodes.NodeAsk.{NodeAsk}
use Rattle.rz_events.specs.declared.events.Event.{Event}
use Rattle.rz_events.specs.declared.events.Event.TheVariants as e
use Rattle.rz_events.specs.Events.{same_actor}
use Rattle.rz_export_model.specs.Export.{export_reply}
use Rattle.rz_core.specs.History.{facts}
use Rattle.rz_operation_model.specs.Ask.{Ask, AskExport, AskNode, AskLock, Say, Rest}
use Rattle.rz_operation_model.specs.Steps.{Told, Replied, Locked, Answered, Missed, Noted, told as told_work}
use Rattle.rz_operation_model.specs.Turns.{IsStep, said_event, goes_by_link, Through as StepThrough, ReplyLost as StepReplyLost, RequestLost as StepRequestLost}
use Rattle.rz_play.specs.World.{World, Agenda}
use Rattle.rz_locks.specs.declared.conflict.Lock.{Lock}
use Rattle.rz_play.specs.Turns.{IsAskTurn, IsGranted, IsLost, Through, ReplyLost, RequestLost, text_said, lock_after, lock_on}
use Rattle.rz_play_laws.proofs.Turning.{agenda-other, agenda-mine}

-- what becomes of the actor's lock
abbrev pub IsLockAfter : World → Actor → Agenda → Ask → Told → Option Lock → Type 0
IsLockAfter w by s (AskLock path exclusive from count) t lock =
    (granted : Bool) × ((t ≡ Locked granted (export_reply w.export (call.Tree (tree.OpenFile path))))
    × IsGranted w by (lock_on (export_reply w.export (call.Tree (tree.OpenFile path))) exclusive from count) granted
    × (lock ≡ cond granted (lock_on (export_reply w.export (call.Tree (tree.OpenFile path))) exclusive from count) s.lock))
IsLockAfter w by s (Say said) t lock = (t ≡ Noted (text_said (facts w.log) said)) × (lock ≡ lock_after said s.lock)
IsLockAfter w by s _ t lock = lock ≡ s.lock

pub record IsMoved (v : Volume) (w : World) (by : Actor) (s : Agenda) (a : Ask) (next : World) : Type 0 where
  pub t : Told
  pub xs : List Event
  pub step : IsStep by s.number a t xs
  pub log_is : next.log ≡ xs ++ w.log
  pub others : (b : Actor) → same_actor b by ≡ false → next.agendas b ≡ w.agendas b
  pub work_is : (next.agendas by).work ≡ told_work v.layout s.work t
  pub number_is : (next.agendas by).number ≡ s.number
  pub todo_is : (next.agendas by).todo ≡ s.todo
  pub lock_is : IsLockAfter w by s a t (next.agendas by).lock

-- the agendas after a turn
agendas-of : (by : Actor) (agendas : Actor → Agenda) (next : Actor → Agenda) (s : Agenda) → next ≡ (λ b. cond (same_actor b by) s (agendas b))
    → (next by ≡ s) × ((b : Actor) → same_actor b by ≡ false → next b ≡ agendas b)
agendas-of by agendas next s is = (
  ap (λ (f : Actor → Agenda). f by) is ∙ agenda-mine by s (agendas by),
  λ b apart. ap (λ (f : Actor → Agenda). f b) is ∙ agenda-other b by (same_actor b by) s (agendas b) apart,
)

link : (miss : Option Bool) (question : NodeAsk) (reply : Bool) → IsLost miss question reply → goes_by_link question ≡ true
link None question reply is = is
link (Some planned) question reply is = is.0

pub moves : (v : Volume) (w : World) (by : Actor) (s : Agenda) (a : Ask) (next : World) → IsAskTurn v w by s a next → (next ≡ w) ⊎ IsMoved v w by s a next
moves v w by s (AskExport c) next (x, is, next_is) =
    let k = agendas-of by w.agendas next.agendas _ (ap (λ (z : World). z.agendas) next_is) in
    inr (record {
      t = Replied (export_reply w.export c);
      xs = x ∷ [];
      step = (export_reply w.export c, x, refl, is, refl);
      log_is = ap (λ (z : World). z.log) next_is;
      others = k.1;
      work_is = ap (λ (z : Agenda). z.work) k.0;
      number_is = ap (λ (z : Agenda). z.number) k.0;
      todo_is = ap (λ (z : Agenda). z.todo) k.0;
      lock_is = ap (λ (z : Agenda). z.lock) k.0;
    })
moves v w by s (AskNode n question) next (Through (given, x, is, through, next_is)) =
    let k = agendas-of by w.agendas next.agendas _ (ap (λ (z : World). z.agendas) next_is) in
    inr (record {
      t = Answered true given;
      xs = x ∷ [];
      step = StepThrough given x is.event;
      log_is = ap (λ (z : World). z.log) next_is;
      others = k.1;
      work_is = ap (λ (z : Agenda). z.work) k.0;
      number_is = ap (λ (z : Agenda). z.number) k.0;
      todo_is = ap (λ (z : Agenda). z.todo) k.0;
      lock_is = ap (λ (z : Agenda). z.lock) k.0;
    })
moves v w by s (AskNode n question) next (ReplyLost (given, x, is, lost, next_is)) =
    let k = agendas-of by w.agendas next.agendas _ (ap (λ (z : World). z.agendas) next_is) in
    inr (record {
      t = Missed;
      xs = e.Missed by n true ∷ x ∷ [];
      step = StepReplyLost given x is.event (link s.miss question true lost);
      log_is = ap (λ (z : World). z.log) next_is;
      others = k.1;
      work_is = ap (λ (z : Agenda). z.work) k.0;
      number_is = ap (λ (z : Agenda). z.number) k.0;
      todo_is = ap (λ (z : Agenda). z.todo) k.0;
      lock_is = ap (λ (z : Agenda). z.lock) k.0;
    })
moves v w by s (AskNode n question) next (RequestLost (lost, next_is)) =
    let k = agendas-of by w.agendas next.agendas _ (ap (λ (z : World). z.agendas) next_is) in
    inr (record {
      t = Missed;
      xs = e.Missed by n false ∷ [];
      step = StepRequestLost (link s.miss question false lost);
      log_is = ap (λ (z : World). z.log) next_is;
      others = k.1;
      work_is = ap (λ (z : Agenda). z.work) k.0;
      number_is = ap (λ (z : Agenda). z.number) k.0;
      todo_is = ap (λ (z : Agenda). z.todo) k.0;
      lock_is = ap (λ (z : Agenda). z.lock) k.0;
    })
moves v w by s (AskLock path exclusive from count) next (x, is, granted, free, next_is) =
    let k = agendas-of by w.agendas next.agendas _ (ap (λ (z : World). z.agendas) next_is) in
    inr (record {
      t = Locked granted (export_reply w.export (call.Tree (tree.OpenFile path)));
      xs = x ∷ [];
      step = (granted, export_reply w.export (call.Tree (tree.OpenFile path)), x, refl, is, refl);
      log_is = ap (λ (z : World). z.log) next_is;
      others = k.1;
      work_is = ap (λ (z : Agenda). z.work) k.0;
      number_is = ap (λ (z : Agenda). z.number) k.0;
      todo_is = ap (λ (z : Agenda). z.todo) k.0;
      lock_is = (granted, (refl, free, ap (λ (z : Agenda). z.lock) k.0));
    })
moves v w by s (Say said) next next_is =
    let k = agendas-of by w.agendas next.agendas _ (ap (λ (z : World). z.agendas) next_is) in
    inr (record {
      t = Noted (text_said (facts w.log) said);
      xs = said_event by s.number (text_said (facts w.log) said) said ∷ [];
      step = (text_said (facts w.log) said, refl, refl);
      log_is = ap (λ (z : World). z.log) next_is;
      others = k.1;
      work_is = ap (λ (z : Agenda). z.work) k.0;
      number_is = ap (λ (z : Agenda). z.number) k.0;
      todo_is = ap (λ (z : Agenda). z.todo) k.0;
      lock_is = (refl, ap (λ (z : Agenda). z.lock) k.0);
    })
moves v w by s Rest next next_is = inl next_is
