-- An actor was ordered to do something more.
use Rattle.std.proofs.Common.{◌≡◌, ℕ, ◌<◌, ◌≤◌, cond, List, [], ◌∷◌, ◌++◌, map, length, set, Option, Some, sym, ◌∙◌, ap, subst, arith}
use Rattle.std.specs.Prelude.{slice_get}
use Rattle.std.specs.Global.{Vec}
use Rattle.std.specs.List.{AllByRecursion}
use Rattle.std.specs.Vec.{with_items}
use Rattle.std.proofs.Math.Path.{fun_ext}
use Rattle.std.proofs.lemmas.List.{length-set, with_items_is}
use Rattle.mj_angles.specs.declared.layout.Layout.{Layout}
use Rattle.mj_angles.specs.Layout.{max_bins_of}
use Rattle.rz_disk.specs.declared.disk.Disk.{Ghosts}
use Rattle.rz_disk.specs.UnderFuse.{UnderFuse}
use Rattle.rz_events.specs.Volume.{Volume, nodes_of}
use Rattle.rz_events.specs.declared.files.NodeSpec.{NodeSpec}
use Rattle.rz_events.specs.declared.keys.Actor.{Actor}
use Rattle.rz_events.specs.declared.operations.Operation.{Operation}
use Rattle.rz_events.specs.Events.{same_actor}
use Rattle.rz_metadata.specs.Stands.{IsJournalOpen}
use Rattle.rz_operation.specs.Answers.{IsWithinLayout}
use Rattle.rz_operation.specs.Machine.{HasLayout, Machine}
use Rattle.rz_play.specs.World.{Agenda as APlayer, with_agenda}
use Rattle.rz_driver.specs.declared.driver.Driver.{Driver}
use Rattle.rz_driver_actors.specs.declared.actor_agenda.Agenda.{Agenda}
use Rattle.rz_driver_actors.specs.declared.shared.Shared.{Shared}
use Rattle.rz_driver_actors.specs.Agendas.{agenda_of, IsAgenda}
use Rattle.rz_driver_nodes.specs.Servers.{numbers_of, IsServer}
use Rattle.rz_driver.specs.Orders.{IsActorOrdered}
use Rattle.rz_driver.specs.Worlds.{place_of, agenda_in, world, world_of, AreLocks, HaveNoLocks, IsDriver}
use Rattle.rz_driver.proofs.WorldLemmas.{agenda-here, agenda-set}
use Rattle.rz_driver_nodes.proofs.Rows.{all-at, all-set}
use Rattle.rz_driver.proofs.ActorOrders.{place-low}
use Rattle.rz_driver.proofs.ReadyLemmas.{locks-stay}

-- the world with one actor changed
ordered : {D J : Type 0} (p : Shared D J) (ss : List Agenda) (turns : ℕ) (by : Actor) (place : ℕ) (s b : Agenda) (t : APlayer → APlayer) → place_of by ≡ Some place → place < length ss → slice_get ss place ≡ Some s → agenda_of b ≡ t (agenda_of s)
    → world p (set ss place b) turns ≡ with_agenda (world p ss turns) by (t ((world p ss turns).agendas by))
ordered p ss turns by place s b t at low here is = λ i. record (world p ss turns) { agendas = agendas i }
  where
    agendas : agenda_in (set ss place b) ≡ (λ x. cond (same_actor x by) (t (agenda_in ss by)) (agenda_in ss x))
    agendas = fun_ext (λ x. agenda-set ss by place b at low x ∙ ap (λ (y : APlayer). cond (same_actor x by) y (agenda_in ss x)) (is ∙ ap t (sym (agenda-here ss by place s at here))))

pub all-more : (layout : Layout) (ops : List Operation) (op : Operation) → AllByRecursion (IsWithinLayout layout) ops → IsWithinLayout layout op → AllByRecursion (IsWithinLayout layout) (ops ++ op ∷ [])
all-more layout [] op all fits = (fits, tt)
all-more layout (x ∷ ops) op all fits = (all.0, all-more layout ops op all.1 fits)

-- a driver of which one actor changed, but not its lock
still-ready : {D : Type 0} {G : Ghosts D} (d e : Driver D G) (by : Actor) (place : ℕ) (s b : Agenda) → IsDriver d → e.volume ≡ d.volume → e.shared ≡ d.shared → e.agendas.items ≡ set d.agendas.items place b → place_of by ≡ Some place → place < length d.agendas.items
    → slice_get d.agendas.items place ≡ Some s → IsAgenda d.volume.layout b → b.lock ≡ s.lock → IsDriver e
still-ready {D = D} d e by place s b ready volume shared agendas at low here agenda lock = record {
  servers = subst (λ (v : Volume). AllByRecursion (IsServer v) e.shared.servers.items) (sym volume) (subst (λ (p : Shared (UnderFuse D) D). AllByRecursion (IsServer d.volume) p.servers.items) (sym shared) ready.servers);
  numbers = ap (λ (p : Shared (UnderFuse D) D). numbers_of p.servers.items) shared ∙ ready.numbers ∙ ap (λ (v : Volume). map (λ (n : NodeSpec). n.sid) (nodes_of v.clusters)) (sym volume);
  bins = subst (λ (v : Volume). max_bins_of v.layout ≤ length e.shared.bins.items) (sym volume) (subst (λ (p : Shared (UnderFuse D) D). max_bins_of d.volume.layout ≤ length p.bins.items) (sym shared) ready.bins);
  agendas = subst (λ (v : Volume). AllByRecursion (IsAgenda v.layout) e.agendas.items) (sym volume) (subst (AllByRecursion (IsAgenda d.volume.layout)) (sym agendas) (all-set (IsAgenda d.volume.layout) d.agendas.items place b ready.agendas agenda));
  count = ap length agendas ∙ length-set d.agendas.items place b ∙ ready.count;
  locks = subst (λ (p : Shared (UnderFuse D) D). AreLocks p.locks e.agendas.items) (sym shared) (subst (AreLocks d.shared.locks) (sym agendas) both.0);
  no_locks = subst HaveNoLocks (sym agendas) both.1;
  journal = subst (λ (p : Shared (UnderFuse D) D). IsJournalOpen p.export) (sym shared) ready.journal;
}
  where
    both : AreLocks d.shared.locks (set d.agendas.items place b) × HaveNoLocks (set d.agendas.items place b)
    both = locks-stay by d.agendas.items place at low s b here lock d.shared.locks ready.locks ready.no_locks

-- ---- the vector of agendas, of which a slice was written

module _ {D : Type 0} {G : Ghosts D} (d : Driver D G) (ready : IsDriver d) (xs ys : List Agenda) (same : xs ≡ d.agendas.items) (by : Actor) (more : APlayer → APlayer) (o : IsActorOrdered by more xs ys) where
  written : (with_items d.agendas ys).items ≡ set d.agendas.items o.place o.after
  written = with_items_is d.agendas ys (ap length o.agendas ∙ length-set xs o.place o.after ∙ ap length same ∙ sym d.agendas.ok.0) ∙ o.agendas ∙ ap (λ (zs : List Agenda). set zs o.place o.after) same

  here-now : slice_get d.agendas.items o.place ≡ Some o.agenda
  here-now = subst (λ (zs : List Agenda). slice_get zs o.place ≡ Some o.agenda) same o.is

  low-now : o.place < length d.agendas.items
  low-now =
      let row = place-low by o.place o.at in
      let count : length d.agendas.items ≡ 80 = ready.count in
      omega (arith, row, count)

  pub actor-ready : (e : Driver D G) → e.volume ≡ d.volume → e.shared ≡ d.shared → e.agendas ≡ with_items d.agendas ys → (AllByRecursion (IsWithinLayout d.volume.layout) (agenda_of o.agenda).todo → AllByRecursion (IsWithinLayout d.volume.layout) (more (agenda_of o.agenda)).todo) → IsDriver e
  actor-ready e volume shared agendas fits =
      let shape = all-at (IsAgenda d.volume.layout) d.agendas.items o.place o.agenda ready.agendas here-now in
      still-ready d e by o.place o.agenda o.after ready volume shared (ap (λ (v : Vec Agenda). v.items) agendas ∙ written) o.at low-now here-now
      (record {
        machine = subst (HasLayout d.volume.layout) (sym o.machine) shape.machine;
        todo = subst (λ (s : APlayer). AllByRecursion (IsWithinLayout d.volume.layout) s.todo) (sym o.ordered) (fits shape.todo);
      }) o.lock

  pub actor-played : world d.shared (with_items d.agendas ys).items d.turns ≡ with_agenda (world_of d) by (more ((world_of d).agendas by))
  actor-played = ap (λ (zs : List Agenda). world d.shared zs d.turns) written ∙ ordered d.shared d.agendas.items d.turns by o.place o.agenda o.after more o.at low-now here-now o.ordered

  -- what actors have in hand stays
  pub hands-stay : (P : Option Machine → Type 0) → AllByRecursion (λ (s : Agenda). P s.machine) d.agendas.items → AllByRecursion (λ (s : Agenda). P s.machine) (with_items d.agendas ys).items
  hands-stay P hands = subst (AllByRecursion (λ (s : Agenda). P s.machine)) (sym written)
      (all-set (λ (s : Agenda). P s.machine) d.agendas.items o.place o.after hands (subst P (sym o.machine) (all-at (λ (s : Agenda). P s.machine) d.agendas.items o.place o.agenda hands here-now)))
