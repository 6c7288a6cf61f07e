-- A driver stands between two turns again.
use Rattle.std.proofs.Common.{◌≡◌, ℕ, ◌<◌, Bool, true, false, cond, List, length, set, Option, Some, None, refl, sym, ◌∙◌, ap, subst}
use Rattle.std.specs.Prelude.{◌==◌, slice_get}
use Rattle.std.specs.List.{AllByRecursion}
use Rattle.std.specs.Cmp.{nat_cmp_total, unsigned_tied}
use Rattle.std.proofs.Math.Seq.{map-set_same}
use Rattle.std.proofs.lemmas.Option.{get_or_from_slice_get}
use Rattle.std.specs.FinMap.{get, insert, remove, get-insert, get-remove}
use Rattle.rz_events.specs.Volume.{Volume}
use Rattle.rz_events.specs.declared.keys.Actor.{Actor}
use Rattle.rz_events.specs.declared.keys.Actor.TheVariants.{Client, Rebuilder, Admin}
use Rattle.rz_events.specs.Events.{same_actor}
use Rattle.mj_angles.specs.declared.layout.Layout.{Layout}
use Rattle.rz_core.specs.NodeRows.{cells_of}
use Rattle.rz_locks.specs.declared.conflict.Lock.{Lock}
use Rattle.rz_locks.specs.Held.{Held}
use Rattle.rz_operation.specs.Machine.{Machine, HasLayout}
use Rattle.rz_operation.specs.Answers.{IsWithinLayout}
use Rattle.rz_play.specs.World.{Agenda as APlayer}
use Rattle.rz_driver_actors.specs.declared.actor_agenda.Agenda.{Agenda}
use Rattle.rz_driver_actors.specs.declared.shared.Shared.{Shared}
use Rattle.rz_nodes.specs.declared.formatting.Server.{Server}
use Rattle.rz_driver_actors.specs.Acts.{IsAct, Rests, Exports, Opens, Sends, Says, IsSameActor, IsFate, Through, ReplyLost, RequestLost, IsLockReleased, locks_after}
use Rattle.rz_driver_asks.specs.Locking.{lock_of, lock_if, Grants}
use Rattle.rz_driver_actors.specs.Agendas.{agenda_of, IsAgenda}
use Rattle.rz_driver_nodes.specs.Servers.{numbers_of, IsServer}
use Rattle.rz_driver.specs.Worlds.{place_of, agenda_in, AreLocks, HaveNoLocks}
use Rattle.rz_driver.proofs.WorldLemmas.{agenda-here, agenda-set, actor-is}
use Rattle.rz_driver_nodes.proofs.Rows.{all-set, all-at}

-- ---- nodes

pub servers-after : {D J : Type 0} (v : Volume) (layout : Layout) (by : Actor) (a b : Agenda) (p q : Shared D J) → IsAct layout by a b p q → AllByRecursion (IsServer v) p.servers.items → AllByRecursion (IsServer v) q.servers.items
servers-after v layout by a b p q (Rests asks same shared) all = subst (λ (x : Shared _ _). AllByRecursion (IsServer v) x.servers.items) (sym shared) all
servers-after v layout by a b p q (Exports old new was is same lock miss part sts lks lost) all = subst (AllByRecursion (IsServer v)) (sym sts) all
servers-after v layout by a b p q (Opens old new was is same miss part sts lost) all = subst (AllByRecursion (IsServer v)) (sym sts) all
servers-after v layout by a b p q (Says old new was is same miss done part released sts export lost) all = subst (AllByRecursion (IsServer v)) (sym sts) all
servers-after v layout by a b p q (Sends old new was is same lock n question asks m) all =
    let shape = all-at (IsServer v) p.servers.items m.place m.server all m.is in
    subst (AllByRecursion (IsServer v)) (sym m.servers) (all-set (IsServer v) p.servers.items m.place m.after all (record {
      layout = ap (λ g. g.layout) m.called.geometry ∙ shape.layout;
      cells = ap (λ g. g.cells) m.called.geometry ∙ shape.cells ∙ ap (cells_of v) (sym m.called.sid);
    }))

module _ {D : Type 0} where
  pub numbers-kept : (xs ys : List (Server D)) (place : ℕ) (s after : Server D) → slice_get xs place ≡ Some s → ys ≡ set xs place after → after.sid ≡ s.sid → numbers_of ys ≡ numbers_of xs
  numbers-kept xs ys place s after is set_is sid = ap numbers_of set_is
      ∙ map-set_same (λ (x : Server D). x.sid) xs place after s (sid ∙ ap (λ (x : Server D). x.sid) (sym (get_or_from_slice_get xs place s s is)))

pub numbers-after : {D J : Type 0} (layout : Layout) (by : Actor) (a b : Agenda) (p q : Shared D J) → IsAct layout by a b p q → numbers_of q.servers.items ≡ numbers_of p.servers.items
numbers-after layout by a b p q (Rests asks same shared) = ap (λ (x : Shared _ _). numbers_of x.servers.items) shared
numbers-after layout by a b p q (Exports old new was is same lock miss part sts lks lost) = ap numbers_of sts
numbers-after layout by a b p q (Opens old new was is same miss part sts lost) = ap numbers_of sts
numbers-after layout by a b p q (Says old new was is same miss done part released sts export lost) = ap numbers_of sts
numbers-after layout by a b p q (Sends old new was is same lock n question asks m) = numbers-kept p.servers.items q.servers.items m.place m.server m.after m.is m.servers m.called.sid

-- ---- the actor

has-layout : (layout : Layout) (old new : Machine) (o o' : Option Machine) → o ≡ Some old → o' ≡ Some new → new.layout ≡ old.layout → HasLayout layout o → HasLayout layout o'
has-layout layout old new o o' was is same has = subst (HasLayout layout) (sym is) (same ∙ subst (HasLayout layout) was has)

same-agenda : (layout : Layout) (old new : Machine) (a b : Agenda) → a.machine ≡ Some old → b.machine ≡ Some new → new.layout ≡ old.layout → IsSameActor a b → IsAgenda layout a → IsAgenda layout b
same-agenda layout old new a b was is kept same agenda = record {
  machine = has-layout layout old new a.machine b.machine was is kept agenda.machine;
  todo = subst (AllByRecursion (IsWithinLayout layout)) (sym same.todo) agenda.todo;
}

fate-layout : {D J : Type 0} {by : Actor} {n : ℕ} {question : _} {s s' : Server D} {old new : Machine} {miss miss' : Option Bool} {p q : Shared D J} → IsFate by n question s s' old new miss miss' p q → new.layout ≡ old.layout
fate-layout (Through part comes miss lost) = part.goes.layout
fate-layout (ReplyLost part lost_so miss lost) = part.goes.layout
fate-layout (RequestLost stays part lost_so miss lost) = part.goes.layout

pub agenda-after : {D J : Type 0} (layout : Layout) (by : Actor) (a b : Agenda) (p q : Shared D J) → IsAct layout by a b p q → IsAgenda layout a → IsAgenda layout b
agenda-after layout by a b p q (Rests asks same shared) agenda = subst (IsAgenda layout) (sym same) agenda
agenda-after layout by a b p q (Exports old new was is same lock miss (c, asks, replied) sts lks lost) agenda = same-agenda layout old new a b was is replied.goes.layout same agenda
agenda-after layout by a b p q (Opens old new was is same miss (path, exclusive, from, count, asks, (owner, o)) sts lost) agenda = same-agenda layout old new a b was is o.goes.layout same agenda
agenda-after layout by a b p q (Sends old new was is same lock n question asks m) agenda = same-agenda layout old new a b was is (fate-layout m.fate) same agenda
agenda-after layout by a b p q (Says old new was is same miss done (said, asks, part) released sts export lost) agenda = same-agenda layout old new a b was is part.goes.layout same agenda

-- ---- locks

module _ (by : Actor) (ss : List Agenda) (place : ℕ) (at : place_of by ≡ Some place) (low : place < length ss) (a0 a b : Agenda) (here : slice_get ss place ≡ Some a0) (kept : a.lock ≡ a0.lock) where
  either-lock : (c : Bool) (s t : APlayer) → (cond c s t).lock ≡ cond c s.lock t.lock
  either-lock true s t = refl
  either-lock false s t = refl

  -- the lock of each actor
  lock-in : (x : Actor) → (agenda_in (set ss place b) x).lock ≡ cond (same_actor x by) (lock_of b.lock) (agenda_in ss x).lock
  lock-in x = ap (λ (s : APlayer). s.lock) (agenda-set ss by place b at low x) ∙ either-lock (same_actor x by) (agenda_of b) (agenda_in ss x)

  own-lock : (agenda_in ss by).lock ≡ lock_of a.lock
  own-lock = ap (λ (s : APlayer). s.lock) (agenda-here ss by place a0 at here) ∙ ap lock_of (sym kept)

  -- an actor that keeps its lock
  keeps : lock_of b.lock ≡ lock_of a.lock → (x : Actor) → (agenda_in (set ss place b) x).lock ≡ (agenda_in ss x).lock
  keeps same x = lock-in x ∙ go (same_actor x by) refl
    where
      go : (c : Bool) → same_actor x by ≡ c → cond c (lock_of b.lock) (agenda_in ss x).lock ≡ (agenda_in ss x).lock
      go true eq = same ∙ sym own-lock ∙ ap (λ (y : Actor). (agenda_in ss y).lock) (sym (actor-is x by eq))
      go false no_ = refl

  -- where the owner's lock is the new one and the others' are as before
  updates : (locks locks' : Held) (owner : ℕ) (lock : Option Lock) → by ≡ Client owner → AreLocks locks ss → ((n : ℕ) → get locks' n ≡ cond (n == owner) lock (get locks n)) → lock_of b.lock ≡ lock → AreLocks locks' (set ss place b)
  updates locks locks' owner lock is tied new own n =
      new n ∙ ap (cond (n == owner) lock) (tied n)
      ∙ sym (lock-in (Client n) ∙ (λ i. cond (same_actor (Client n) (is i)) (own i) (agenda_in ss (Client n)).lock))

  inserted : (locks : Held) (owner : ℕ) (l : Lock) (n : ℕ) → get (insert locks owner l) n ≡ cond (n == owner) (Some l) (get locks n)
  inserted locks owner l n = get-insert nat_cmp_total locks owner l n ∙ ap (λ c. cond c (Some l) (get locks n)) (unsigned_tied n owner)

  removed : (locks : Held) (owner : ℕ) (n : ℕ) → get (remove locks owner) n ≡ cond (n == owner) None (get locks n)
  removed locks owner n = get-remove nat_cmp_total locks owner n ∙ ap (λ c. cond c None (get locks n)) (unsigned_tied n owner)

  module _ (locks locks' : Held) (tied : AreLocks locks ss) (free : HaveNoLocks ss) where
    abbrev holds : Type 0
    holds = AreLocks locks' (set ss place b) × HaveNoLocks (set ss place b)

    stays : lock_of b.lock ≡ lock_of a.lock → locks' ≡ locks → holds
    stays same is = (λ n. ap (λ (h : Held). get h n) is ∙ tied n ∙ sym (keeps same (Client n)), λ n. keeps same (Rebuilder n) ∙ free n)

    -- a client's new lock is no rebuilder's
    clients-own : (owner : ℕ) → by ≡ Client owner → HaveNoLocks (set ss place b)
    clients-own owner is n = lock-in (Rebuilder n) ∙ (λ i. cond (same_actor (Rebuilder n) (is i)) (lock_of b.lock) (agenda_in ss (Rebuilder n)).lock) ∙ free n

    granted-locks : (owner : ℕ) → by ≡ Client owner → (asked : Option Lock) (granted : Bool) → Grants locks owner asked granted locks' → lock_of b.lock ≡ lock_if granted asked (lock_of a.lock) → holds
    granted-locks owner is None true grants own = (let never : true ≡ false = grants.0 in absurd (cc))
    granted-locks owner is None false grants own = stays own grants.1
    granted-locks owner is (Some l) true grants own = (updates locks locks' owner (Some l) is tied (λ n. ap (λ (h : Held). get h n) grants.1 ∙ inserted locks owner l n) own, clients-own owner is)
    granted-locks owner is (Some l) false grants own = stays own grants.1

    none-left : lock_of b.lock ≡ None → (x : Actor) → (agenda_in (set ss place b) x).lock ≡ cond (same_actor x by) None (agenda_in ss x).lock
    none-left none x = lock-in x ∙ ap (λ (o : Option Lock). cond (same_actor x by) o (agenda_in ss x).lock) none

    no-lock : (c : Bool) (o : Option Lock) → o ≡ None → cond c None o ≡ None
    no-lock true o none = refl
    no-lock false o none = none

    released-locks : (done : Bool) → IsLockReleased done by a.lock b.lock locks locks' → holds
    released-locks false r = stays (ap lock_of r.lock_is) r.locks_are
    released-locks true r = (by-kind by refl, λ n. none-left none (Rebuilder n) ∙ no-lock (same_actor (Rebuilder n) by) (agenda_in ss (Rebuilder n)).lock (free n))
      where
        none : lock_of b.lock ≡ None
        none = ap lock_of r.lock_is

        other : locks' ≡ locks → ((n : ℕ) → same_actor (Client n) by ≡ false) → AreLocks locks' (set ss place b)
        other same apart n = ap (λ (h : Held). get h n) same ∙ tied n ∙ sym (none-left none (Client n) ∙ ap (λ c. cond c None (agenda_in ss (Client n)).lock) (apart n))

        by-kind : (x : Actor) → by ≡ x → AreLocks locks' (set ss place b)
        by-kind (Client owner) is = updates locks locks' owner None is tied (λ n. ap (λ (h : Held). get h n) (r.locks_are ∙ ap (λ (x : Actor). locks_after true x locks) is) ∙ removed locks owner n) none
        by-kind (Rebuilder k) is = other (r.locks_are ∙ ap (λ (x : Actor). locks_after true x locks) is) (λ n. ap (same_actor (Client n)) is)
        by-kind Admin is = other (r.locks_are ∙ ap (λ (x : Actor). locks_after true x locks) is) (λ n. ap (same_actor (Client n)) is)

  pub locks-after : {D J : Type 0} (layout : Layout) (p q : Shared D J) → IsAct layout by a b p q → AreLocks p.locks ss → HaveNoLocks ss → AreLocks q.locks (set ss place b) × HaveNoLocks (set ss place b)
  locks-after layout p q (Rests asks same shared) tied free = stays p.locks q.locks tied free (ap (λ (x : Agenda). lock_of x.lock) same) (ap (λ (x : Shared _ _). x.locks) shared)
  locks-after layout p q (Exports old new was is same lock miss part sts lks lost) tied free = stays p.locks q.locks tied free (ap lock_of lock) lks
  locks-after layout p q (Opens old new was is same miss (path, exclusive, from, count, asks, (owner, o)) sts lost) tied free = granted-locks p.locks q.locks tied free owner o.owner_is _ o.granted o.grants o.held_is
  locks-after layout p q (Sends old new was is same lock n question asks m) tied free = stays p.locks q.locks tied free (ap lock_of lock) m.locks
  locks-after layout p q (Says old new was is same miss done part released sts export lost) tied free = released-locks p.locks q.locks tied free done released

-- an actor that keeps its lock
pub locks-stay : (by : Actor) (ss : List Agenda) (place : ℕ) → place_of by ≡ Some place → place < length ss → (s b : Agenda) → slice_get ss place ≡ Some s → b.lock ≡ s.lock → (locks : Held) → AreLocks locks ss → HaveNoLocks ss → AreLocks locks (set ss place b) × HaveNoLocks (set ss place b)
locks-stay by ss place at low s b here lock locks tied free = stays by ss place at low s s b here refl locks locks tied free (ap lock_of lock) refl
