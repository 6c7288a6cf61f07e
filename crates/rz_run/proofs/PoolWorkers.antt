-- What the log of a play says of a pool, said of the actors.
use Rattle.std.proofs.Common.{◌≡◌, ◌+◌, ◌≤◌, [], ◌∷◌, ℕ, List, map, sym, refl, ap, ◌∙◌, subst, arith}
use Rattle.std.specs.List.{AllByRecursion, AllZip, zip}
use Rattle.rz_events.specs.declared.keys.Actor.{Actor}
use Rattle.rz_events.specs.declared.events.Event.{Event}
use Rattle.rz_script.specs.declared.line.Line.{Line}
use Rattle.rz_core.specs.History.{of_actor}
use Rattle.rz_play.specs.World.{Agenda}
use Rattle.rz_play.specs.Faults.{missed}
use Rattle.rz_play_locks.specs.Operations.{given}
use Rattle.rz_chronicle.specs.Dealing.{new_pass}
use Rattle.rz_chronicle.specs.Kinds.{is_honest, volume_in}
use Rattle.rz_chronicle.specs.Rules.{PassView}
use Rattle.rz_show.specs.Shown.{shown_of}
use Rattle.rz_threads_steps.specs.Turned.{AreLost}
use Rattle.rz_threads_worker.specs.Doing.{IsSomeDone}
use Rattle.rz_threads_worker.specs.Workers.{IsAllDone, agenda_of, agenda_with}
use Rattle.rz_threads_workers.specs.declared.pool_worker.PoolWorker.{PoolWorker}
use Rattle.rz_threads_workers.specs.WorkerPool.{actor_of, link_of, CanWork, IsPoolWorker}
use Rattle.rz_threads.specs.PlayResult as member
use Rattle.rz_run.specs.Done.{HasBegun, HasFinished}
use Rattle.rz_run.specs.Handed.{HasLost}

module _ {J L : Type 0} (kind : List ℕ) (lines : List Line) where
  -- whose pass a worker has
  actor-is : (by : Actor) (m : PoolWorker J L) → IsPoolWorker kind lines (new_pass by) m → actor_of m ≡ by
  actor-is by m s = ap (λ (p : PassView). p.actor) s.pass

  pub actors-are : (bys : List Actor) (ms : List (PoolWorker J L)) → AllZip (IsPoolWorker kind lines) (map new_pass bys) ms → map actor_of ms ≡ bys
  actors-are [] [] all = refl
  actors-are [] (m ∷ ms) all = absurd all
  actors-are (a ∷ bys) [] all = absurd all
  actors-are (a ∷ bys) (m ∷ ms) all = ap (λ (b : Actor). b ∷ map actor_of ms) (actor-is a m all.0) ∙ ap (λ (bs : List Actor). a ∷ bs) (actors-are bys ms all.1)

  -- they can go to work
  pub ready-all : (ps : List PassView) (ms : List (PoolWorker J L)) → AllZip (IsPoolWorker kind lines) ps ms → AllByRecursion (CanWork kind) ms
  ready-all [] [] all = tt
  ready-all [] (m ∷ ms) all = absurd all
  ready-all (p ∷ ps) [] all = absurd all
  ready-all (p ∷ ps) (m ∷ ms) all = (all.0.ready, ready-all ps ms all.1)

  module _ (log : List Event) where
    -- what each has done
    begun-one : (by : Actor) (m : PoolWorker J L) → IsPoolWorker kind lines (new_pass by) m → member.HasBegun kind log m → HasBegun (is_honest kind) (volume_in kind) lines log by
    begun-one by m s begun =
        let at_pass : IsSomeDone (is_honest kind) (volume_in kind).layout by (agenda_of m.worker.agenda) [] log =
        subst (λ (p : PassView). IsSomeDone (is_honest kind) (volume_in kind).layout p.actor (agenda_of m.worker.agenda) p.log log) s.pass begun in
        subst (λ (from : Agenda). IsSomeDone (is_honest kind) (volume_in kind).layout by from [] log) s.agenda at_pass

    pub begun-all : (bys : List Actor) (ms : List (PoolWorker J L)) → AllZip (IsPoolWorker kind lines) (map new_pass bys) ms → AllByRecursion (member.HasBegun kind log) ms → AllByRecursion (HasBegun (is_honest kind) (volume_in kind) lines log) bys
    begun-all [] [] all begun = tt
    begun-all [] (m ∷ ms) all begun = absurd all
    begun-all (a ∷ bys) [] all begun = absurd all
    begun-all (a ∷ bys) (m ∷ ms) all begun = (begun-one a m all.0 begun.0, begun-all bys ms all.1 begun.1)

    finished-one : (by : Actor) (m : PoolWorker J L) → IsPoolWorker kind lines (new_pass by) m → member.HasFinished kind log m → HasFinished (is_honest kind) (volume_in kind) lines log by
    finished-one by m s done =
        let at_pass : IsAllDone (is_honest kind) (volume_in kind).layout by (agenda_of m.worker.agenda) [] log =
        subst (λ (p : PassView). IsAllDone (is_honest kind) (volume_in kind).layout p.actor (agenda_of m.worker.agenda) p.log log) s.pass done in
        subst (λ (from : Agenda). IsAllDone (is_honest kind) (volume_in kind).layout by from [] log) s.agenda at_pass

    pub finished-all : (bys : List Actor) (ms : List (PoolWorker J L)) → AllZip (IsPoolWorker kind lines) (map new_pass bys) ms → AllByRecursion (member.HasFinished kind log) ms → AllByRecursion (HasFinished (is_honest kind) (volume_in kind) lines log) bys
    finished-all [] [] all done = tt
    finished-all [] (m ∷ ms) all done = absurd all
    finished-all (a ∷ bys) [] all done = absurd all
    finished-all (a ∷ bys) (m ∷ ms) all done = (finished-one a m all.0 done.0, finished-all bys ms all.1 done.1)

    -- what their links have lost
    lost-one : (count : L → ℕ) (by : Actor) (m : PoolWorker J L) (link : L) → IsPoolWorker kind lines (new_pass by) m → member.HasLost count log m link → HasLost count log (by, link_of m) link
    lost-one count by m link s lost =
        let few : missed (of_actor by log) + count (link_of m) ≤ 0 + count link = subst (λ (p : PassView). AreLost p.actor p.log log (count (link_of m)) (count link)) s.pass lost in
        omega (arith, few)

    pub lost-all : (count : L → ℕ) (bys : List Actor) (ms : List (PoolWorker J L)) (links : List L) → AllZip (IsPoolWorker kind lines) (map new_pass bys) ms → AllZip (member.HasLost count log) ms links
        → AllZip (HasLost count log) (zip bys (map link_of ms)) links
    lost-all count [] [] [] all lost = tt
    lost-all count [] [] (l ∷ links) all lost = absurd lost
    lost-all count [] (m ∷ ms) links all lost = absurd all
    lost-all count (a ∷ bys) [] links all lost = absurd all
    lost-all count (a ∷ bys) (m ∷ ms) [] all lost = absurd lost
    lost-all count (a ∷ bys) (m ∷ ms) (l ∷ links) all lost = (lost-one count a m l all.0 lost.0, lost-all count bys ms links all.1 lost.1)

    -- their events that are shown
    pub shown-all : (bys : List Actor) (ms : List (PoolWorker J L)) → AllZip (IsPoolWorker kind lines) (map new_pass bys) ms → map (member.shown_for log) ms ≡ map (λ by. shown_of (of_actor by log)) bys
    shown-all [] [] all = refl
    shown-all [] (m ∷ ms) all = absurd all
    shown-all (a ∷ bys) [] all = absurd all
    shown-all (a ∷ bys) (m ∷ ms) all =
        ap (λ (e : List Event). e ∷ map (member.shown_for log) ms) (ap (λ (by : Actor). shown_of (of_actor by log)) (actor-is a m all.0))
        ∙ ap (λ (es : List (List Event)). shown_of (of_actor a log) ∷ es) (shown-all bys ms all.1)
