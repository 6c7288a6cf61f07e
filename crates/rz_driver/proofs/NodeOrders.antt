-- What the script orders of a node.
use Rattle.std.proofs.Common.{◌≡◌, ℕ, ◌≤◌, Bool, true, false, IsTrue, cond, List, ◌∷◌, ◌++◌, map, length, set, Option, Some, None, refl, sym, ◌∙◌, ap, subst}
use Rattle.std.specs.Prelude.{◌==◌, slice_get}
use Rattle.std.specs.Global.{Vec}
use Rattle.std.specs.List.{AllByRecursion}
use Rattle.std.specs.Vec.{with_items}
use Rattle.std.proofs.Math.Path.{fun_ext}
use Rattle.std.proofs.lemmas.List.{length-set, with_items_is}
use Rattle.mj_angles.specs.Layout.{max_bins_of}
use Rattle.rz_disk.specs.declared.disk.Disk.{Ghosts}
use Rattle.rz_disk.specs.UnderFuse.{UnderFuse}
use Rattle.rz_events.specs.Volume.{Volume, nodes_of}
use Rattle.rz_events.specs.declared.files.NodeSpec.{NodeSpec}
use Rattle.rz_events.specs.declared.keys.Actor.TheVariants.{Admin}
use Rattle.rz_events.specs.declared.nodes.NodeAsk.{NodeAsk}
use Rattle.rz_events.specs.declared.nodes.NodeAsk.TheVariants as ask
use Rattle.rz_events.specs.declared.events.Event.{Event}
use Rattle.rz_events.specs.declared.events.Event.TheVariants as event
use Rattle.rz_core.specs.NodeRows.{cells_of}
use Rattle.rz_locks.specs.Held.{Held}
use Rattle.rz_metadata.specs.Stands.{IsJournalOpen, export_in}
use Rattle.rz_node_model.specs.States.{NodeState}
use Rattle.rz_node_model.specs.Answers.{IsNodeAnswer}
use Rattle.rz_node_model.specs.Afterwards.{after_answer}
use Rattle.rz_node_model.specs.NodeEvents.{node_event}
use Rattle.rz_script.specs.declared.line.Line.TheVariants as line
use Rattle.rz_play.specs.World.{World}
use Rattle.rz_play.specs.Turns.{answered}
use Rattle.rz_player.specs.Behind.{behind}
use Rattle.rz_play.specs.Lines.{IsAdminCall, IsFreeStart, IsStartedAs, PlaysLineOver, noted}
use Rattle.rz_driver.specs.declared.driver.Driver.{Driver}
use Rattle.rz_driver_actors.specs.declared.shared.Shared.{Shared}
use Rattle.rz_nodes.specs.declared.formatting.Server.{Server}
use Rattle.rz_driver_nodes.specs.Administration.{IsOrderNoted, IsStarted, IsCalledAt, IsArming}
use Rattle.rz_driver_actors.specs.Agendas.{IsAgenda}
use Rattle.rz_driver_nodes.specs.Servers.{state_in, numbers_of, IsServer}
use Rattle.rz_driver.specs.Worlds.{agenda_in, world, world_of, AreLocks, HaveNoLocks, IsDriver}
use Rattle.rz_driver_nodes.proofs.Rows.{state-same, all-set, all-at, state-at, state-set}
use Rattle.rz_driver.proofs.ReadyLemmas.{numbers-kept}

-- ---- a row of nodes in which one was called

module _ {D : Type 0} where
  pub called-of : (question : NodeAsk) (n : ℕ) (old new : List (Server D)) (log log' : List Event) → IsOrderNoted question n old new log log' → IsCalledAt n old new
  called-of question n old new log log' o = record { place = o.place; server = o.server; after = o.after; at = o.at; is = o.is; servers = o.servers; called = o.order.called }

  call-keeps : (v : Volume) (s after : Server D) → after.sid ≡ s.sid → after.node.geometry ≡ s.node.geometry → IsServer v s → IsServer v after
  call-keeps v s after sid geometry shape = record {
    layout = ap (λ g. g.layout) geometry ∙ shape.layout;
    cells = ap (λ g. g.cells) geometry ∙ shape.cells ∙ ap (cells_of v) (sym sid);
  }

  pub servers-kept : (v : Volume) (xs ys : List (Server D)) (place : ℕ) (s after : Server D) → slice_get xs place ≡ Some s → ys ≡ set xs place after → after.sid ≡ s.sid → after.node.geometry ≡ s.node.geometry
      → AllByRecursion (IsServer v) xs → AllByRecursion (IsServer v) ys
  servers-kept v xs ys place s after is set_is sid geometry all = subst (AllByRecursion (IsServer v)) (sym set_is)
      (all-set (IsServer v) xs place after all (call-keeps v s after sid geometry (all-at (IsServer v) xs place s all is)))

-- ---- a start, over disks that tell their texts or that do not

pub start-over : (v : Volume) (n : ℕ) (tells : Bool) (w next : World) → (IsTrue tells → IsAdminCall v n ask.Start w next) → IsFreeStart v n w next → PlaysLineOver v (line.Start n) tells w next
start-over v n true w next told free = told refl
start-over v n false w next told free = free

-- ---- the vector of nodes, of which a slice was written

module _ {X : Type 0} where
  pub in-vector : (v : Vec (Server X)) (xs ys : List (Server X)) (place : ℕ) (after : Server X) → xs ≡ v.items → ys ≡ set xs place after → (with_items v ys).items ≡ ys
  in-vector v xs ys place after same is = with_items_is v ys (ap length is ∙ length-set xs place after ∙ ap length same ∙ sym v.ok.0)

  pub ordered-in : (question : NodeAsk) (n : ℕ) (v : Vec (Server X)) (xs ys : List (Server X)) (log log' : List Event) → xs ≡ v.items → IsOrderNoted question n xs ys log log' → IsOrderNoted question n v.items (with_items v ys).items log log'
  ordered-in question n v xs ys log log' same o =
      subst (λ (zs : List (Server X)). IsOrderNoted question n zs (with_items v ys).items log log') same
      (subst (λ (zs : List (Server X)). IsOrderNoted question n xs zs log log') (sym (in-vector v xs ys o.place o.after same o.servers)) o)

  pub started-in : (n : ℕ) (v : Vec (Server X)) (xs ys : List (Server X)) (log log' : List Event) → xs ≡ v.items → IsStarted n xs ys log log' → IsStarted n v.items (with_items v ys).items log log'
  started-in n v xs ys log log' same o =
      subst (λ (zs : List (Server X)). IsStarted n zs (with_items v ys).items log log') same
      (subst (λ (zs : List (Server X)). IsStarted n xs zs log log') (sym (in-vector v xs ys o.place o.after same o.servers)) o)

  pub called-in : (n : ℕ) (v : Vec (Server X)) (xs ys : List (Server X)) → xs ≡ v.items → IsCalledAt n xs ys → IsCalledAt n v.items (with_items v ys).items
  called-in n v xs ys same c =
      subst (λ (zs : List (Server X)). IsCalledAt n zs (with_items v ys).items) same
      (subst (λ (zs : List (Server X)). IsCalledAt n xs zs) (sym (in-vector v xs ys c.place c.after same c.servers)) c)

  pub arming-in : (passes pick n : ℕ) (v : Vec (Server X)) (xs ys : List (Server X)) (log log' : List Event) → xs ≡ v.items → IsArming passes pick n xs ys log log' → IsArming passes pick n v.items (with_items v ys).items log log'
  arming-in passes pick n v xs ys log log' same a =
      subst (λ (zs : List (Server X)). IsArming passes pick n zs (with_items v ys).items log log') same
      (subst (λ (zs : List (Server X)). IsArming passes pick n xs zs log log') (sym (in-vector v xs ys a.place a.after same a.servers)) a)

-- ---- a driver of which a node was called

module _ {D : Type 0} {G : Ghosts D} (d e : Driver D G) (ready : IsDriver d) (volume : e.volume ≡ d.volume) (agendas : e.agendas.items ≡ d.agendas.items) where
  pub ready-with : AllByRecursion (IsServer d.volume) e.shared.servers.items → numbers_of e.shared.servers.items ≡ numbers_of d.shared.servers.items → e.shared.locks ≡ d.shared.locks → e.shared.bins.items ≡ d.shared.bins.items → IsJournalOpen e.shared.export → IsDriver e
  ready-with servers numbers locks bins journal = record {
    servers = subst (λ (v : Volume). AllByRecursion (IsServer v) e.shared.servers.items) (sym volume) servers;
    numbers = numbers ∙ ready.numbers ∙ ap (λ (v : Volume). map (λ (n : NodeSpec). n.sid) (nodes_of v.clusters)) (sym volume);
    bins = subst (λ (v : Volume). max_bins_of v.layout ≤ length e.shared.bins.items) (sym volume) (subst (λ (xs : List ℕ). max_bins_of d.volume.layout ≤ length xs) (sym bins) ready.bins);
    agendas = subst (λ (v : Volume). AllByRecursion (IsAgenda v.layout) e.agendas.items) (sym volume) (subst (AllByRecursion (IsAgenda d.volume.layout)) (sym agendas) ready.agendas);
    count = ap length agendas ∙ ready.count;
    locks = subst (λ (h : Held). AreLocks h e.agendas.items) (sym locks) (subst (AreLocks d.shared.locks) (sym agendas) ready.locks);
    no_locks = subst HaveNoLocks (sym agendas) ready.no_locks;
    journal = journal;
  }

  pub called-ready : (n : ℕ) → IsCalledAt n d.shared.servers.items e.shared.servers.items → e.shared.locks ≡ d.shared.locks → e.shared.bins.items ≡ d.shared.bins.items → e.shared.export ≡ d.shared.export → IsDriver e
  called-ready n c locks bins export = ready-with
      (servers-kept d.volume d.shared.servers.items e.shared.servers.items c.place c.server c.after c.is c.servers c.called.sid c.called.geometry ready.servers)
      (numbers-kept d.shared.servers.items e.shared.servers.items c.place c.server c.after c.is c.servers c.called.sid) locks bins (subst IsJournalOpen (sym export) ready.journal)

  pub armed-ready : (passes pick n : ℕ) → IsArming passes pick n d.shared.servers.items e.shared.servers.items d.shared.log.events e.shared.log.events → e.shared.locks ≡ d.shared.locks → e.shared.bins.items ≡ d.shared.bins.items → e.shared.export ≡ d.shared.export → IsDriver e
  armed-ready passes pick n a locks bins export = ready-with
      (servers-kept d.volume d.shared.servers.items e.shared.servers.items a.place a.server a.after a.is a.servers a.armed.sid a.armed.geometry ready.servers)
      (numbers-kept d.shared.servers.items e.shared.servers.items a.place a.server a.after a.is a.servers a.armed.sid) locks bins (subst IsJournalOpen (sym export) ready.journal)

-- ---- the world after it

module _ {D : Type 0} {G : Ghosts D} (d : Driver D G) (ready : IsDriver d) (q : Shared (UnderFuse D) D) (export : q.export ≡ d.shared.export) (lost : q.lost ≡ d.shared.lost) where
  abbrev xs : List (Server (UnderFuse D))
  xs = d.shared.servers.items

  -- it is a call of the administrator in the world of the play
  pub admin-call : (question : NodeAsk) (n : ℕ) → IsOrderNoted question n d.shared.servers.items q.servers.items d.shared.log.events q.log.events → IsAdminCall d.volume n question (world_of d) (world q d.agendas.items d.turns)
  admin-call question n o =
      let s = o.server in
      let here = state-at xs n o.place s o.at o.is in
      let shape = all-at (IsServer d.volume) xs o.place s ready.servers o.is in
      let cells : s.node.geometry.cells ≡ cells_of d.volume n = shape.cells ∙ ap (cells_of d.volume) here.0 in
      let given = o.order.given in
      let after : o.after.node.state ≡ after_answer question given (state_in xs n) = o.order.after ∙ ap (after_answer question given) (sym here.1) in
      let nodes : state_in q.servers.items ≡ (λ m. cond (m == n) (after_answer question given (state_in xs n)) (state_in xs m)) =
      ap (λ (ys : List (Server (UnderFuse D))). state_in ys) o.servers
      ∙ fun_ext (λ m. state-set xs n o.place o.after o.at (o.order.called.sid ∙ here.0) m ∙ ap (λ (x : NodeState). cond (m == n) x (state_in xs m)) after)
      in
      let log : q.log.events ≡ noted (node_event Admin n question given) d.shared.log.events =
      o.log_is ∙ ap (λ (x : Option Event). noted x d.shared.log.events) (o.order.event_is ∙ ap (λ (k : ℕ). node_event Admin k question given) here.0)
      in
      record {
        given = given;
        given_is = subst (λ (k : ℕ). IsNodeAnswer k (state_in xs n) question given) cells
            (subst (λ (x : NodeState). IsNodeAnswer s.node.geometry.cells x question given) (sym here.1) o.order.given_is);
        told = o.order.told;
        next_is = λ i. record {
          nodes = nodes i;
          export = export_in (export i);
          agendas = agenda_in d.agendas.items;
          turns = d.turns;
          lost = lost i;
          log = log i;
        };
      }

  -- it is a start in the world of a play over disks that need not tell their texts
  pub free-start : (n : ℕ) → IsStarted n d.shared.servers.items q.servers.items d.shared.log.events q.log.events → IsFreeStart d.volume n (world_of d) (world q d.agendas.items d.turns)
  free-start n o =
      let s = o.server in
      let here = state-at xs n o.place s o.at o.is in
      let shape = all-at (IsServer d.volume) xs o.place s ready.servers o.is in
      let cells : s.node.geometry.cells ≡ cells_of d.volume n = shape.cells ∙ ap (cells_of d.volume) here.0 in
      let given = o.order.given in
      let nodes : state_in q.servers.items ≡ (λ m. cond (m == n) o.after.node.state (state_in xs m)) =
      ap (λ (ys : List (Server (UnderFuse D))). state_in ys) o.servers
      ∙ fun_ext (λ m. state-set xs n o.place o.after o.at (o.order.called.sid ∙ here.0) m)
      in
      let log : q.log.events ≡ noted (node_event Admin n ask.Start given) d.shared.log.events =
      o.log_is ∙ ap (λ (x : Option Event). noted x d.shared.log.events) (o.order.event_is ∙ ap (λ (k : ℕ). node_event Admin k ask.Start given) here.0)
      in
      record {
        given = given;
        given_is = subst (λ (k : ℕ). IsNodeAnswer k (state_in xs n) ask.Start given) cells
            (subst (λ (x : NodeState). IsNodeAnswer s.node.geometry.cells x ask.Start given) (sym here.1) o.order.given_is);
        answered = o.order.answered;
        state = o.after.node.state;
        started = subst (λ (x : NodeState). IsStartedAs given x o.after.node.state) (sym here.1) o.order.started;
        next_is = λ i. record {
          nodes = nodes i;
          export = export_in (export i);
          agendas = agenda_in d.agendas.items;
          turns = d.turns;
          lost = lost i;
          log = log i;
        };
      }

  -- the states of all nodes stay where a disk is armed
  pub armed-world : (passes pick n : ℕ) → IsArming passes pick n d.shared.servers.items q.servers.items d.shared.log.events q.log.events
      → world q d.agendas.items d.turns ≡ record (world_of d) { log = event.Armed n passes pick ∷ d.shared.log.events }
  armed-world passes pick n a =
      let here = state-at xs n a.place a.server a.at a.is in
      let nodes : state_in q.servers.items ≡ state_in xs =
      ap (λ (ys : List (Server (UnderFuse D))). state_in ys) a.servers
      ∙ fun_ext (λ m. state-set xs n a.place a.after a.at (a.armed.sid ∙ here.0) m ∙ state-same xs n m a.after.node.state (a.armed.state ∙ sym here.1))
      in
      λ i. record {
        nodes = nodes i;
        export = export_in (export i);
        agendas = agenda_in d.agendas.items;
        turns = d.turns;
        lost = lost i;
        log = a.log_is i;
      }

-- ---- behind an earlier log

noted-behind : (o : Option Event) (h old : List Event) → noted o h ++ old ≡ noted o (h ++ old)
noted-behind None h old = refl
noted-behind (Some x) h old = refl

-- what an administrator's call does, it does there too
pub admin-behind : (old : List Event) (v : Volume) (n : ℕ) (question : NodeAsk) (w next : World) → IsAdminCall v n question w next → IsAdminCall v n question (behind old w) (behind old next)
admin-behind old v n question w next call = record {
  given = call.given;
  given_is = call.given_is;
  told = call.told;
  next_is = ap (behind old) call.next_is ∙ (λ i. record (answered (behind old w) n question call.given) { log = noted-behind (node_event Admin n question call.given) w.log old i });
}
