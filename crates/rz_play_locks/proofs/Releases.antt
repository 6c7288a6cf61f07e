-- A lock that is held is released by a `Done` alone.
use Rattle.std.proofs.Common.{◌≡◌, inl, inr, ℕ, Bool, true, false, List, ◌++◌, Option, Some, None, refl, sym, ◌∙◌, ap, subst}
use Rattle.mj_angles.specs.declared.layout.Layout.{Layout}
use Rattle.rz_events.specs.Volume.{Volume}
use Rattle.rz_events.specs.declared.keys.Actor.{Actor}
use Rattle.rz_events.specs.declared.keys.Key.{Key}
use Rattle.rz_events.specs.declared.ends.ReadMark.{ReadMark}
use Rattle.rz_events.specs.declared.ends.WriteEnd.{WriteEnd}
use Rattle.rz_events.specs.declared.machines.ReaderAsk.{ReaderAsk}
use Rattle.rz_events.specs.declared.machines.ReaderAsk.TheVariants as reads
use Rattle.rz_events.specs.declared.machines.WriterAsk.{WriterAsk}
use Rattle.rz_events.specs.declared.machines.WriterAsk.TheVariants as writes
use Rattle.rz_events.specs.declared.events.Event.{Event}
use Rattle.rz_events.specs.Events.{same_actor}
use Rattle.rz_client_model.specs.declared.writing.WriterState.{WriterState}
use Rattle.rz_client_model.specs.Read.{reader_ask, reader_end}
use Rattle.rz_client_model.specs.Write.{writer_ask, writer_end}
use Rattle.rz_events.specs.declared.operations.Operation.{Operation}
use Rattle.rz_operation_model.specs.Rebuild.{ask_to_copy, Probing, Enrolling, Replacing, Listing, Copying, Refilling, Leaving}
use Rattle.rz_operation_model.specs.Work.{Work, Calling, Dropping, Opening, Locking, Writing, Reading, Rebuilding, Ending, Over}
use Rattle.rz_operation_model.specs.Ask.{Ask, AskExport, AskNode, AskLock, Say, Rest, SayGot, SayGave, SayLeft, SayDone, ask_of, is_part, read_asks, rebuild_asks, write_asks, gave}
use Rattle.rz_operation_model.specs.Turns.{IsStep}
use Rattle.rz_play.specs.World.{World, Agenda, at_work}
use Rattle.rz_locks.specs.declared.conflict.Lock.{Lock}
use Rattle.rz_play.specs.Turns.{IsTurn, counted}
use Rattle.rz_script.specs.Lines.{IsActor}
use Rattle.rz_play_laws.specs.Fine.{IsFine}
use Rattle.rz_play_laws.proofs.Frames.{same_actor-true}
use Rattle.rz_play_locks.specs.Holding.{IsHolding, IsKeeping, IsLockKept}
use Rattle.rz_play_locks.proofs.Moves.{IsLockAfter}
use Rattle.rz_play_locks.proofs.Barring.{lock-at_work}
use Rattle.rz_play_locks.proofs.Kept.{IsGoing, going}

-- An open with a lock is asked by an operation that holds none.
module _ (layout : Layout) (op : Operation) (lock : Option Lock) (path : List ℕ) (exclusive : Bool) (from count : ℕ) where
  abbrev wanted : Ask
  wanted = AskLock path exclusive from count

  read-no : (part : Bool) (k : Key) (end : Option ReadMark) (z : ReaderAsk) → read_asks part k end z ≡ wanted → ⊥
  read-no part k end reads.Look is = cc
  read-no part k end (reads.Fetch p n s) is = cc
  read-no part k end reads.Recheck is = cc
  read-no part k None reads.End is = cc
  read-no part k (Some m) reads.End is = cc

  gave-no : (part : Bool) (k : Key) (end : Option WriteEnd) → gave part k end ≡ wanted → ⊥
  gave-no part k None is = cc
  gave-no part k (Some end) is = cc

  write-no : (part : Bool) (text : List ℕ) (s : WriterState) (z : WriterAsk) → write_asks part text s z ≡ wanted → ⊥
  write-no part text s (writes.Begin size) is = cc
  write-no part text s (writes.Keep p n stamp base) is = cc
  write-no part text s (writes.Publish stamp mask) is = cc
  write-no part text s writes.End is = gave-no part s.key (writer_end s) is

  copy-no : (n : ℕ) (k : Key) (z : ReaderAsk) → rebuild_asks layout n (ask_to_copy k z) ≡ wanted → ⊥
  copy-no n k reads.Look is = cc
  copy-no n k (reads.Fetch p m s) is = cc
  copy-no n k reads.Recheck is = cc
  copy-no n k reads.End is = cc

  holds-none : (work : Work) → IsHolding layout op lock work → ask_of layout work ≡ wanted → lock ≡ None
  holds-none (Locking p plan) holds is = holds.1
  holds-none (Opening p plan) holds is = holds.1
  holds-none (Calling c) holds is = cc
  holds-none (Dropping fid n places) holds is = cc
  holds-none (Writing c text s) holds is = absurd (write-no (is_part c) text s (writer_ask s) is)
  holds-none (Reading c s) holds is = absurd (read-no (is_part c) s.key (reader_end s) (reader_ask s) is)
  holds-none (Rebuilding n Probing) holds is = cc
  holds-none (Rebuilding n (Enrolling loss)) holds is = cc
  holds-none (Rebuilding n (Replacing loss fence)) holds is = cc
  holds-none (Rebuilding n (Listing t)) holds is = cc
  holds-none (Rebuilding n (Copying t l base s)) holds is = absurd (copy-no n l.key (reader_ask s) is)
  holds-none (Rebuilding n (Refilling t l size base)) holds is = cc
  holds-none (Rebuilding n (Leaving t key why)) holds is = cc
  holds-none (Ending a) holds is = cc
  holds-none Over holds is = absurd holds

pub released : (v : Volume) (old : List Event) (ops more : Actor → List Operation) (w next : World) (fine : IsFine v old w) → IsFine v old next → IsKeeping v.layout ops more fine.run w → (by : Actor) → IsActor by → IsTurn v by w next
    → (a : Actor) (lock : Lock) → (w.agendas a).lock ≡ Some lock → IsLockKept w next a lock
released v old ops more w next fine fine_next keeping by ok turn a lock held = elim (going v old ops more by ok w next fine fine_next keeping turn) [
  | inl same ↦ inl (ap (λ (z : World). (z.agendas a).lock) same ∙ held)
  | inr g ↦ agenda g (same_actor a by) refl
]
  where
    at-ask : (g : IsGoing v ops fine.run w by (at_work (w.agendas by)) next) → (at_work (w.agendas by)).lock ≡ Some lock → (z : Ask) → ask_of v.layout (at_work (w.agendas by)).work ≡ z
        → IsStep by (at_work (w.agendas by)).number z g.move.t g.move.xs → IsLockAfter (counted w) by (at_work (w.agendas by)) z g.move.t (next.agendas by).lock → IsLockKept w next by lock
    at-ask g mine (AskExport c) asks step is = inl (is ∙ mine)
    at-ask g mine (AskNode n question) asks step is = inl (is ∙ mine)
    at-ask g mine Rest asks step is = inl (is ∙ mine)
    at-ask g mine (AskLock path exclusive from count) asks step is =
        let none = holds-none v.layout g.hand.op (at_work (w.agendas by)).lock path exclusive from count (at_work (w.agendas by)).work g.hand.holds asks in cc
    at-ask g mine (Say (SayDone answer)) asks step is =
        inr ((at_work (w.agendas by)).number, answer, g.move.log_is ∙ ap (λ (zs : List Event). zs ++ w.log) step.2)
    at-ask g mine (Say (SayGot key part m)) asks step is = inl (is.1 ∙ mine)
    at-ask g mine (Say (SayGave key part end)) asks step is = inl (is.1 ∙ mine)
    at-ask g mine (Say (SayLeft key why)) asks step is = inl (is.1 ∙ mine)

    agenda : IsGoing v ops fine.run w by (at_work (w.agendas by)) next → (b : Bool) → same_actor a by ≡ b → IsLockKept w next a lock
    agenda g true is =
        let same : a ≡ by = same_actor-true a by is in
        subst (λ z. IsLockKept w next z lock) (sym same)
        (at-ask g (lock-at_work (w.agendas by) ∙ subst (λ z. (w.agendas z).lock ≡ Some lock) same held) (ask_of v.layout (at_work (w.agendas by)).work) refl g.move.step g.move.lock_is)
    agenda g false is = inl (ap (λ (z : Agenda). z.lock) (g.move.others a is) ∙ held)
