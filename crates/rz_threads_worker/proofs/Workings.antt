-- A worker took a turn, and turns after it.
use Rattle.std.proofs.Common.{◌≡◌, ℕ, ◌≤◌, Bool, ◌&&◌, List, [], Some, sym, ◌∙◌, ap, subst, length, take, drop, ◌++◌, length-take, length-append, length-drop, arith}
use Rattle.std.specs.List.{AllByRecursion}
use Rattle.mj_angles.specs.declared.layout.Layout.{Layout}
use Rattle.mj_angles.specs.Layout.{max_bins_of}
use Rattle.rz_events.specs.Volume.{Volume}
use Rattle.rz_events.specs.declared.keys.Actor.{Actor}
use Rattle.rz_events.specs.declared.events.Event.{Event}
use Rattle.rz_script.specs.Lines.{IsOperation}
use Rattle.rz_operation.specs.Machine.{Machine, work_in}
use Rattle.rz_core.specs.History.{of_actor}
use Rattle.rz_play.specs.World.{Agenda as APlayer}
use Rattle.std.proofs.Math.Bool.{and-true}
use Rattle.rz_chronicle.specs.Kinds.{HasEarlierLog, is_honest, is_none, keeps_legal, volume_in}
use Rattle.rz_chronicle.specs.Rules.{PassView}
use Rattle.rz_show.specs.Shown.{shown_of}
use Rattle.rz_threads_steps.specs.Acted.{HasActed, IsStopped, IsWorkRight}
use Rattle.rz_threads_steps.specs.Adding.{PassLasts}
use Rattle.rz_threads_steps.specs.Turned.{AreLost}
use Rattle.rz_threads_worker.specs.declared.worker_agenda.Agenda.{Agenda}
use Rattle.rz_threads_worker.specs.Doing.{HasDone, IsSomeDone}
use Rattle.rz_threads_worker.specs.Workers.{IsWorkerReady, BeginsNext, agenda_of}
use Rattle.rz_threads_worker.proofs.Doings.{turn-done, cut-begun, done-on, lost-on}
use Rattle.rz_threads_worker.proofs.Agendas.{taken-up}

-- a vector of which a part was written is as long
pub written : (n : ℕ) (xs ys : List ℕ) → length xs ≡ length ys → n ≡ length ys → length (take n (xs ++ drop (length xs) ys)) ≡ length ys
written n xs ys same is =
    let taken = length-take n (xs ++ drop (length xs) ys) in
    let both = length-append xs (drop (length xs) ys) in
    let left = length-drop (length xs) ys in
    omega (arith, taken, both, left, same, is)

-- ---- a log that begins anew

-- a book that keeps its log legal is then honest
legal-honest : (kind : List ℕ) (earlier : List Event) → HasEarlierLog kind earlier → earlier ≡ [] → keeps_legal kind ≡ is_honest kind
legal-honest kind earlier has none =
    let it = subst (HasEarlierLog kind) none has in
    sym (ap (λ (b : Bool). keeps_legal kind && b) (ap is_none it.numbers) ∙ and-true (keeps_legal kind))

module _ (kind : List ℕ) (earlier : List Event) (anew : earlier ≡ []) (p q : PassView) (s : Agenda) (m m' : Machine) (bins bins' : List ℕ) (shown shown' : List Event) (ready : IsWorkerReady kind p s bins shown) (lasts : PassLasts p q) where
  abbrev v : Volume
  v = volume_in kind

  -- it can take its next turn
  pub ready-again : HasActed kind earlier s.number p q m m' → m.layout ≡ v.layout → length bins' ≡ length bins → shown' ≡ shown_of (of_actor p.actor q.log)
      → IsWorkerReady kind q (record s { machine = Some m' }) bins' shown'
  ready-again acted layout many shows = record {
    actor = λ is. ready.actor (sym lasts.actor ∙ is);
    todo = subst (λ (a : Actor). AllByRecursion (IsOperation v a) s.todo.items) (sym lasts.actor) ready.todo;
    machine = acted.turned.layout ∙ layout;
    at_hand = subst (λ (e : List Event). IsWorkRight kind e q s.number m') anew acted.right;
    room = subst (λ (n : ℕ). max_bins_of v.layout ≤ n) (sym many) ready.room;
    shows = subst (λ (a : Actor). shown' ≡ shown_of (of_actor a q.log)) (sym lasts.actor) shows;
  }

-- ---- what a turn makes of the actor's operations

module _ (kind : List ℕ) (p q : PassView) (layout : Layout) (a b : Agenda) (m : Machine) (of_volume : layout ≡ (volume_in kind).layout) (takes : BeginsNext layout a b) (is : b.machine ≡ Some m) (of_layout : m.layout ≡ (volume_in kind).layout) where
  pub turn-taken : (earlier : List Event) → HasEarlierLog kind earlier → earlier ≡ [] → (m' : Machine) → HasActed kind earlier b.number p q m m'
      → HasDone (is_honest kind) (volume_in kind).layout p.actor (agenda_of a) (agenda_of (record b { machine = Some m' })) p.log q.log
  turn-taken earlier has anew m' acted =
      subst (λ (honest : Bool). HasDone honest (volume_in kind).layout p.actor (agenda_of a) (agenda_of (record b { machine = Some m' })) p.log q.log) (legal-honest kind earlier has anew)
      (turn-done (keeps_legal kind) (volume_in kind).layout p.actor (agenda_of a) (agenda_of b) m p.log q.log (taken-up layout a b takes) (ap work_in is) of_layout m' acted.turned)

  pub turn-begun : IsStopped kind b.number p q m → IsSomeDone (is_honest kind) (volume_in kind).layout p.actor (agenda_of a) p.log q.log
  turn-begun stopped = cut-begun (is_honest kind) (volume_in kind).layout p.actor (agenda_of a) (agenda_of b) m p.log q.log (taken-up layout a b takes) (ap work_in is) of_layout stopped.cut

-- ---- turns after turns, of one actor

module _ (p q r : PassView) (lasts : PassLasts p q) where
  pub done-both : (honest : Bool) (layout : Layout) (from mid last : APlayer) → HasDone honest layout p.actor from mid p.log q.log → HasDone honest layout q.actor mid last q.log r.log → HasDone honest layout p.actor from last p.log r.log
  done-both honest layout from mid last first next = done-on honest layout p.actor from mid last p.log q.log r.log first (subst (λ (a : Actor). HasDone honest layout a mid last q.log r.log) lasts.actor next)

  pub lost-both : (a b c : ℕ) → AreLost p.actor p.log q.log a b → AreLost q.actor q.log r.log b c → AreLost p.actor p.log r.log a c
  lost-both a b c first next = lost-on p.actor p.log q.log r.log a b c first (subst (λ (x : Actor). AreLost x q.log r.log b c) lasts.actor next)

  pub shown-at : (shown : List Event) → shown ≡ shown_of (of_actor q.actor r.log) → shown ≡ shown_of (of_actor p.actor r.log)
  shown-at shown is = subst (λ (x : Actor). shown ≡ shown_of (of_actor x r.log)) lasts.actor is
