-- No two locks that are held conflict.
use Rattle.std.proofs.Common.{◌≡◌, ◌⊎◌, inl, inr, Bool, true, false, List, [], ◌∷◌, Option, Some, None, refl, sym, ◌∙◌, ap, subst, ℕ, zero, suc, ◌+◌, ◌<◌, ◌≤◌, ◌++◌, map, arith}
use Rattle.rz_events.specs.Volume.{Volume}
use Rattle.rz_events.specs.declared.keys.Actor.{Actor}
use Rattle.rz_events.specs.Events.{same_actor}
use Rattle.rz_events.specs.declared.export.Call.TheVariants as call
use Rattle.rz_events.specs.declared.tree.TreeCall.TheVariants as tree
use Rattle.rz_export_model.specs.Export.{export_reply}
use Rattle.rz_events.specs.declared.operations.Operation.{Operation}
use Rattle.rz_operation_model.specs.Ask.{Ask, AskExport, AskNode, AskLock, Say, Rest, Saying, SayGot, SayGave, SayLeft, SayDone}
use Rattle.rz_operation_model.specs.Work.{Work, Over}
use Rattle.rz_operation_model.specs.Steps.{Told}
use Rattle.rz_locks.specs.declared.conflict.LockKind.TheVariants.{Exclusive}
use Rattle.rz_script.specs.Lines.{IsActor}
use Rattle.rz_events.specs.declared.keys.Actor.TheVariants.{Client, Rebuilder, Admin}
use Rattle.std.specs.List.{AllByRecursion, range_with_len}
use Rattle.std.proofs.lemmas.Bool.{cases_lt}
use Rattle.rz_play.specs.World.{actors, World, Agenda, Bars, begin_next, at_work}
use Rattle.rz_locks.specs.declared.conflict.Lock.{Lock}
use Rattle.rz_locks.specs.Conflicts.{Conflict}
use Rattle.rz_play.specs.Turns.{IsGranted, lock_after, lock_on}
use Rattle.rz_play_laws.proofs.Frames.{same_actor-refl, same_actor-true}
use Rattle.rz_play_locks.specs.Holding.{AreLocksApart}
use Rattle.rz_play_locks.proofs.Moves.{IsMoved, IsLockAfter}

pub turned : (a b : Lock) → Conflict a b → Conflict b a
turned a b c = ((sym c.0.0, (c.0.1.0, c.0.1.2, c.0.1.1)), other c.1)
  where
    other : ((a.kind ≡ Exclusive) ⊎ (b.kind ≡ Exclusive)) → (b.kind ≡ Exclusive) ⊎ (a.kind ≡ Exclusive)
    other (inl is) = inr is
    other (inr is) = inl is

-- an actor of a script is among the actors

in-range : (P : ℕ → Type 0) (n from count : ℕ) → AllByRecursion P (range_with_len from count) → from ≤ n → n < from + count → P n
in-range P n from zero all low high = absurd (omega (arith, low, high))
in-range P n from (suc count) all low high = go (cases_lt from n) (λ more. in-range P n (from + 1) count all.1 more (omega (arith, high)))
  where
    go : (from < n) ⊎ (n ≤ from) → (from + 1 ≤ n → P n) → P n
    go (inl later) rest = rest (omega (arith, later))
    go (inr here) rest = subst P (let same : from ≡ n = omega (arith, low, here) in same) all.0

in-map : (P : Actor → Type 0) (kind : ℕ → Actor) (ns : List ℕ) → AllByRecursion P (map kind ns) → AllByRecursion (λ n. P (kind n)) ns
in-map P kind [] all = tt
in-map P kind (n ∷ ns) all = (all.0, in-map P kind ns all.1)

pub in-front : (P : Actor → Type 0) (front back : List Actor) → AllByRecursion P (front ++ back) → AllByRecursion P front
in-front P [] back all = tt
in-front P (a ∷ front) back all = (all.0, in-front P front back all.1)

in-back : (P : Actor → Type 0) (front back : List Actor) → AllByRecursion P (front ++ back) → AllByRecursion P back
in-back P [] back all = all
in-back P (a ∷ front) back all = in-back P front back all.1

pub of-actors : (P : Actor → Type 0) (a : Actor) → IsActor a → AllByRecursion P actors → P a
of-actors P (Client n) ok all =
    let low = ok.0 in
    let high = ok.1 in
    in-range (λ k. P (Client k)) n 1 64 (in-map P Client (range_with_len 1 64) (in-front P (map Client (range_with_len 1 64)) (map Rebuilder (range_with_len 1 16)) all)) low (omega (arith, high))
of-actors P (Rebuilder n) ok all =
    let low = ok.0 in
    let high = ok.1 in
    in-range (λ k. P (Rebuilder k)) n 1 16 (in-map P Rebuilder (range_with_len 1 16) (in-back P (map Client (range_with_len 1 64)) (map Rebuilder (range_with_len 1 16)) all)) low (omega (arith, high))
of-actors P Admin ok all = absurd ok

pub others-apart : (a b : Actor) → same_actor a b ≡ false → same_actor b a ≡ false
others-apart a b apart = go (same_actor b a) refl
  where
    go : (t : Bool) → same_actor b a ≡ t → same_actor b a ≡ false
    go true is =
        let same : b ≡ a = same_actor-true b a is in
        let k : same_actor a a ≡ false = subst (λ z. same_actor a z ≡ false) same apart in
        let r = same_actor-refl a in
        cc
    go false is = is

-- the lock of an actor is not touched where it goes to work
pub lock-at_work : (s : Agenda) → (at_work s).lock ≡ s.lock
lock-at_work s = go s.work s.todo
  where
    go : (work : Work) (ops : List Operation) → (begin_next s work ops).lock ≡ s.lock
    go Over (op ∷ ops) = refl
    go Over [] = refl
    go (_) ops = refl

module _ (v : Volume) (w : World) (apart : AreLocksApart w) (by : Actor) (ok : IsActor by) (s : Agenda) (same : s.lock ≡ (w.agendas by).lock) where
  old : (b : Actor) → IsActor b → (x y : Lock) → same_actor by b ≡ false → s.lock ≡ Some x → (w.agendas b).lock ≡ Some y → ¬ Conflict x y
  old b ok_b x y other is at = apart by b x y ok ok_b other (sym same ∙ is) at

  -- a lock that was granted conflicts with none
  fresh : (b : Actor) → IsActor b → (x y : Lock) → same_actor b by ≡ false → (wanted : Option Lock) → wanted ≡ Some x → IsGranted w by wanted true
      → (w.agendas b).lock ≡ Some y → ¬ Conflict x y
  fresh b ok_b x y other None is granted at conflict = cc
  fresh b ok_b x y other (Some l) is granted at conflict =
      let l_is : l ≡ x = (the_same l x is) in
      of-actors (λ z. same_actor z by ≡ false → Bars (w.agendas z).lock l → ⊥) b ok_b (granted.0 refl) other (subst (λ (z : Option Lock). Bars z l) (sym at) (subst (λ z. Conflict y z) (sym l_is) (turned x y conflict)))
    where
      the_same : (p q : Lock) → Some p ≡ Some q → p ≡ q
      the_same p q k = cc

  said : (what : Saying) (b : Actor) → IsActor b → (x y : Lock) → same_actor by b ≡ false → lock_after what s.lock ≡ Some x → (w.agendas b).lock ≡ Some y → ¬ Conflict x y
  said (SayDone answer) b ok_b x y other is at = λ conflict. cc
  said (SayGot key part mark) b ok_b x y other is at = old b ok_b x y other is at
  said (SayGave key part end) b ok_b x y other is at = old b ok_b x y other is at
  said (SayLeft key why) b ok_b x y other is at = old b ok_b x y other is at

  mine : (a : Ask) (t : Told) (lock : Option Lock) → IsLockAfter w by s a t lock → (b : Actor) → IsActor b → (x y : Lock) → same_actor b by ≡ false → lock ≡ Some x → (w.agendas b).lock ≡ Some y → ¬ Conflict x y
  mine (AskLock path exclusive from count) t lock (true, (t_is, granted, lock_is)) b ok_b x y other is at =
      fresh b ok_b x y other (lock_on (export_reply w.export (call.Tree (tree.OpenFile path))) exclusive from count) (sym lock_is ∙ is) granted at
  mine (AskLock path exclusive from count) t lock (false, (t_is, granted, lock_is)) b ok_b x y other is at = old b ok_b x y (others-apart b by other) (sym lock_is ∙ is) at
  mine (Say what) t lock after b ok_b x y other is at = said what b ok_b x y (others-apart b by other) (sym after.1 ∙ is) at
  mine (AskExport c) t lock after b ok_b x y other is at = old b ok_b x y (others-apart b by other) (sym after ∙ is) at
  mine (AskNode n question) t lock after b ok_b x y other is at = old b ok_b x y (others-apart b by other) (sym after ∙ is) at
  mine Rest t lock after b ok_b x y other is at = old b ok_b x y (others-apart b by other) (sym after ∙ is) at

  -- after a turn of the actor
  pub apart-after : (a : Ask) (next : World) → IsMoved v w by s a next → AreLocksApart next
  apart-after a next m p q x y ok_p ok_q other at_p at_q = go (same_actor p by) (same_actor q by) refl refl
    where
      go : (c d : Bool) → same_actor p by ≡ c → same_actor q by ≡ d → ¬ Conflict x y
      go false false is_p is_q = apart p q x y ok_p ok_q other (sym (ap (λ (z : Agenda). z.lock) (m.others p is_p)) ∙ at_p) (sym (ap (λ (z : Agenda). z.lock) (m.others q is_q)) ∙ at_q)
      go true false is_p is_q =
          mine a m.t (next.agendas by).lock m.lock_is q ok_q x y is_q (subst (λ z. (next.agendas z).lock ≡ Some x) (same_actor-true p by is_p) at_p)
          (sym (ap (λ (z : Agenda). z.lock) (m.others q is_q)) ∙ at_q)
      go false true is_p is_q = λ conflict.
          mine a m.t (next.agendas by).lock m.lock_is p ok_p y x is_p (subst (λ z. (next.agendas z).lock ≡ Some y) (same_actor-true q by is_q) at_q)
          (sym (ap (λ (z : Agenda). z.lock) (m.others p is_p)) ∙ at_p) (turned x y conflict)
      go true true is_p is_q =
          let same_p = same_actor-true p by is_p in
          let same_q = same_actor-true q by is_q in
          let k : same_actor by by ≡ false = subst (λ z. same_actor by z ≡ false) same_q (subst (λ z. same_actor z q ≡ false) same_p other) in
          let r = same_actor-refl by in
          cc
