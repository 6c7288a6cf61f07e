-- What the log of a whole play says of the workers, by what each of them has done.
use Rattle.std.proofs.Common.{◌≡◌, ◌&&◌, true, false, ◌+◌, ◌≤◌, [], ◌∷◌, ℕ, Bool, List, map, sym, refl, ap, ◌∙◌, subst}
use Rattle.std.specs.List.{AllByRecursion, AllZip}
use Rattle.std.specs.Global.{Vec}
use Rattle.mj_angles.specs.declared.layout.Layout.{Layout}
use Rattle.rz_events.specs.declared.keys.Actor.{Actor}
use Rattle.rz_events.specs.declared.events.Event.{Event}
use Rattle.rz_core.specs.History.{of_actor}
use Rattle.rz_play.specs.World.{Agenda}
use Rattle.rz_play.specs.Faults.{missed}
use Rattle.rz_chronicle.specs.Kinds.{is_honest, volume_in}
use Rattle.rz_chronicle.specs.Rules.{PassView}
use Rattle.rz_threads_workers.specs.Gathered.{HoldsPass}
use Rattle.rz_show.specs.Shown.{shown_of}
use Rattle.rz_threads_steps.specs.Turned.{AreLost}
use Rattle.rz_threads_worker.specs.Doing.{HasDone, IsSomeDone}
use Rattle.rz_threads_worker.specs.Workers.{IsAllDone, agenda_of}
use Rattle.rz_threads_workers.specs.declared.pool_worker.PoolWorker.{PoolWorker}
use Rattle.rz_threads_workers.specs.WorkerPool.{actor_of, link_of, pass_of, shown_by, HasWorked, WantsNothing}
use Rattle.rz_threads.specs.PlayResult.{HasBegun, HasFinished, HasLost, shown_for}

-- A log with the same events of an actor.

done-there : (honest : Bool) (layout : Layout) (by : Actor) (from to : Agenda) (old seen log : List Event) → of_actor by log ≡ of_actor by seen → HasDone honest layout by from to old seen → HasDone honest layout by from to old log
done-there honest layout by from to old seen log same d = record { run = d.run; own = same ∙ d.own; doing = d.doing }

pub begun-there : (honest : Bool) (layout : Layout) (by : Actor) (from : Agenda) (old seen log : List Event) → of_actor by log ≡ of_actor by seen → IsSomeDone honest layout by from old seen → IsSomeDone honest layout by from old log
begun-there honest layout by from old seen log same b = (b.0, done-there honest layout by from b.0 old seen log same b.1)

pub all-done-there : (honest : Bool) (layout : Layout) (by : Actor) (from : Agenda) (old seen log : List Event) → of_actor by log ≡ of_actor by seen → IsAllDone honest layout by from old seen → IsAllDone honest layout by from old log
all-done-there honest layout by from old seen log same d = record { last = d.last; done = done-there honest layout by from d.last old seen log same d.done; rests = d.rests }

lost-there : (by : Actor) (old seen log : List Event) (before after : ℕ) → of_actor by log ≡ of_actor by seen → AreLost by old seen before after → AreLost by old log before after
lost-there by old seen log before after same few = subst (λ (own : List Event). missed own + before ≤ missed (of_actor by old) + after) (sym same) few

-- The front holds the pass of a worker that has worked.
module _ {J L : Type 0} (count : L → ℕ) (kind : List ℕ) (front : PassView) where
  own-there : (m n : PoolWorker J L) → HasWorked count kind m n → HoldsPass front (pass_of n) → of_actor (actor_of m) front.log ≡ of_actor (actor_of m) n.worker.pass.log
  own-there m n w h = subst (λ (by : Actor). of_actor by front.log ≡ of_actor by n.worker.pass.log) w.actor h.own

  pub begun-all : (ms ns : List (PoolWorker J L)) → AllZip (HasWorked count kind) ms ns → AllByRecursion (HoldsPass front) (map pass_of ns) → AllByRecursion (HasBegun kind front.log) ms
  begun-all [] [] all held = tt
  begun-all [] (n ∷ ns) all held = absurd all
  begun-all (m ∷ ms) [] all held = absurd all
  begun-all (m ∷ ms) (n ∷ ns) all held = (begun-there (is_honest kind) (volume_in kind).layout (actor_of m) (agenda_of m.worker.agenda) m.worker.pass.log n.worker.pass.log front.log (own-there m n all.0 held.0) all.0.begun, begun-all ms ns all.1 held.1)

  pub finished-all : (ms ns : List (PoolWorker J L)) → AllZip (HasWorked count kind) ms ns → AllByRecursion (HoldsPass front) (map pass_of ns) → AllByRecursion WantsNothing ns → AllByRecursion (HasFinished kind front.log) ms
  finished-all [] [] all held none = tt
  finished-all [] (n ∷ ns) all held none = absurd all
  finished-all (m ∷ ms) [] all held none = absurd all
  finished-all (m ∷ ms) (n ∷ ns) all held none = (all-done-there (is_honest kind) (volume_in kind).layout (actor_of m) (agenda_of m.worker.agenda) m.worker.pass.log n.worker.pass.log front.log (own-there m n all.0 held.0) (all.0.done none.0), finished-all ms ns all.1 held.1 none.1)

  pub lost-all : (ms ns : List (PoolWorker J L)) → AllZip (HasWorked count kind) ms ns → AllByRecursion (HoldsPass front) (map pass_of ns) → AllZip (HasLost count front.log) ms (map link_of ns)
  lost-all [] [] all held = tt
  lost-all [] (n ∷ ns) all held = absurd all
  lost-all (m ∷ ms) [] all held = absurd all
  lost-all (m ∷ ms) (n ∷ ns) all held = (lost-there (actor_of m) m.worker.pass.log n.worker.pass.log front.log (count m.worker.link) (count n.worker.link) (own-there m n all.0 held.0) all.0.lost, lost-all ms ns all.1 held.1)

  pub shown-all : (ms ns : List (PoolWorker J L)) → AllZip (HasWorked count kind) ms ns → AllByRecursion (HoldsPass front) (map pass_of ns) → map (λ (s : Vec Event). s.items) (map shown_by ns) ≡ map (shown_for front.log) ms
  shown-all [] [] all held = refl
  shown-all [] (n ∷ ns) all held = absurd all
  shown-all (m ∷ ms) [] all held = absurd all
  shown-all (m ∷ ms) (n ∷ ns) all held =
      let here : n.worker.shown.items ≡ shown_for front.log m = all.0.shown ∙ ap shown_of (sym (own-there m n all.0 held.0)) in
      ap (λ (e : List Event). e ∷ map (λ (s : Vec Event). s.items) (map shown_by ns)) here ∙ ap (λ (r : List (List Event)). shown_for front.log m ∷ r) (shown-all ms ns all.1 held.1)

-- Both are so.
pub and-both : (a b : Bool) → (a && b) ≡ true → (a ≡ true) × (b ≡ true)
and-both true b is = (refl, is)
and-both false b is = absurd cc
