-- The nodes of a new driver, and its actors.
use Rattle.std.proofs.Common.{◌≡◌, ℕ, zero, suc, Bool, true, false, cond, List, [], ◌∷◌, map, length, Option, Some, None, refl, sym, ◌∙◌, ap, subst, arith, eq-eqb}
use Rattle.std.specs.Prelude.{◌==◌, nat_eq, slice_get}
use Rattle.std.specs.List.{AllByRecursion, AllZip, zip, IsDistinct}
use Rattle.std.specs.FinMap as maps
use Rattle.std.proofs.Math.Path.{fun_ext}
use Rattle.std.proofs.lemmas.List.{length-map}
use Rattle.mj_angles.specs.declared.layout.Layout.{Layout}
use Rattle.mj_angles.specs.Layout.{max_bins_of}
use Rattle.rz_disk.specs.Meter.{Meter}
use Rattle.rz_disk.specs.declared.disk.Disk.{Ghosts}
use Rattle.rz_disk.specs.UnderFuse.{UnderFuse}
use Rattle.rz_events.specs.Volume.{Volume, IsVolume, nodes_of}
use Rattle.rz_events.specs.declared.files.NodeSpec.{NodeSpec}
use Rattle.rz_events.specs.declared.keys.Actor.{Actor}
use Rattle.rz_events.specs.declared.keys.Actor.TheVariants.{Client, Rebuilder}
use Rattle.rz_core.specs.NodeRows.{cells_among, cells_of}
use Rattle.rz_export_model.specs.Export.{new_export}
use Rattle.rz_metadata.specs.Stands.{IsJournalOpen, export_in}
use Rattle.rz_node_model.specs.States.{NodeState, fresh}
use Rattle.rz_play.specs.World.{Agenda as APlayer, empty_agenda, new_world}
use Rattle.rz_driver.specs.declared.driver.Driver.{Driver}
use Rattle.rz_driver_actors.specs.declared.actor_agenda.Agenda.{Agenda}
use Rattle.rz_driver_actors.specs.declared.shared.Shared.{Shared}
use Rattle.rz_nodes.specs.declared.formatting.Server.{Server}
use Rattle.rz_driver_asks.specs.Locking.{lock_of}
use Rattle.rz_nodes.specs.Formatted.{IsNodeFormatted, AreFormatted}
use Rattle.rz_driver_actors.specs.Agendas.{agenda_of, IsAgenda, IsEmptyAgenda}
use Rattle.rz_operation.specs.Machine.{work_in, HasLayout}
use Rattle.rz_driver_nodes.specs.Servers.{state_in, numbers_of, IsServer}
use Rattle.rz_driver.specs.Worlds.{place_of, agenda_there, agenda_at, agenda_in, world, IsDriver}

-- ---- nodes

module _ {D : Type 0} (tells : Bool) (meter : D → Meter) (text : D → List ℕ) (image : D → List ℕ → Type 0) (layout : Layout) where
  -- they have their numbers
  pub new-numbers : (nodes : List NodeSpec) (disks : List D) (servers : List (Server (UnderFuse D))) → length disks ≡ length nodes → AreFormatted tells meter text image layout nodes disks servers
      → numbers_of servers ≡ map (λ (n : NodeSpec). n.sid) nodes
  new-numbers [] [] [] count all = refl
  new-numbers [] [] (s ∷ servers) count all = absurd all
  new-numbers [] (d ∷ disks) servers count all = absurd (omega (arith, count))
  new-numbers (n ∷ nodes) [] servers count all = absurd (omega (arith, count))
  new-numbers (n ∷ nodes) (d ∷ disks) [] count all = absurd all
  new-numbers (n ∷ nodes) (d ∷ disks) (s ∷ servers) count all = λ i. all.0.number i ∷ new-numbers nodes disks servers (omega (arith, count)) all.1 i

  pub as-many : (nodes : List NodeSpec) (disks : List D) (servers : List (Server (UnderFuse D))) → length disks ≡ length nodes → AreFormatted tells meter text image layout nodes disks servers → length servers ≡ length nodes
  as-many nodes disks servers count all =
      sym (length-map servers (λ (s : Server (UnderFuse D)). s.sid)) ∙ ap length (new-numbers nodes disks servers count all) ∙ length-map nodes (λ (n : NodeSpec). n.sid)

  pub new-states : (handed : List (NodeSpec × D)) (servers : List (Server (UnderFuse D))) → AllZip (IsNodeFormatted tells meter text image layout) handed servers → (n : ℕ) → state_in servers n ≡ fresh
  new-states [] [] all n = refl
  new-states [] (s ∷ servers) all n = absurd all
  new-states (h ∷ handed) [] all n = absurd all
  new-states (h ∷ handed) (s ∷ servers) all n = either (n == s.sid) s.node.state (state_in servers n) all.0.state (new-states handed servers all.1 n)
    where
      either : (b : Bool) (x y : NodeState) → x ≡ fresh → y ≡ fresh → cond b x y ≡ fresh
      either true x y one two = one
      either false x y one two = two

  pub are-servers : (v : Volume) → v.layout ≡ layout → (nodes : List NodeSpec) (disks : List D) (servers : List (Server (UnderFuse D))) → length disks ≡ length nodes → AreFormatted tells meter text image layout nodes disks servers
      → AllByRecursion (λ n. cells_of v n.sid ≡ n.cells) nodes → AllByRecursion (IsServer v) servers
  are-servers v is [] [] [] count all cells = tt
  are-servers v is [] [] (s ∷ servers) count all cells = absurd all
  are-servers v is [] (d ∷ disks) servers count all cells = absurd (omega (arith, count))
  are-servers v is (n ∷ nodes) [] servers count all cells = absurd (omega (arith, count))
  are-servers v is (n ∷ nodes) (d ∷ disks) [] count all cells = absurd all
  are-servers v is (n ∷ nodes) (d ∷ disks) (s ∷ servers) count all cells = (
    record {
      layout = ap (λ g. g.layout) all.0.geometry ∙ sym is;
      cells = ap (λ g. g.cells) all.0.geometry ∙ sym cells.0 ∙ ap (cells_of v) (sym all.0.number);
    },
    are-servers v is nodes disks servers (omega (arith, count)) all.1 cells.1,
  )

-- ---- the cells of a node are those of its number

other-cells : (x : NodeSpec) (specs more : List NodeSpec) → AllByRecursion (λ k. nat_eq x.sid k ≡ false) (map (λ (n : NodeSpec). n.sid) more) → AllByRecursion (λ n. cells_among specs n.sid ≡ n.cells) more
    → AllByRecursion (λ n. cells_among (x ∷ specs) n.sid ≡ n.cells) more
other-cells x specs [] apart all = tt
other-cells x specs (n ∷ more) apart all = (ap (λ (b : Bool). cond b x.cells (cells_among specs n.sid)) apart.0 ∙ all.0, other-cells x specs more apart.1 all.1)

pub own-cells : (specs : List NodeSpec) → IsDistinct nat_eq (map (λ (n : NodeSpec). n.sid) specs) → AllByRecursion (λ n. cells_among specs n.sid ≡ n.cells) specs
unfolding IsDistinct
own-cells [] apart = tt
own-cells (x ∷ specs) apart = (
  ap (λ (b : Bool). cond b x.cells (cells_among specs x.sid)) (eq-eqb x.sid x.sid refl),
  other-cells x specs specs apart.0 (own-cells specs apart.1),
)

-- ---- actors

pub empty-is : (s : Agenda) → IsEmptyAgenda s → agenda_of s ≡ empty_agenda
empty-is s e = λ i. record { todo = e.todo i; number = e.number i; work = work_in (e.machine i); lock = lock_of (e.lock i); miss = e.miss i }

empty-at : (ss : List Agenda) → AllByRecursion IsEmptyAgenda ss → (place : ℕ) → agenda_there (slice_get ss place) ≡ empty_agenda
empty-at [] all place = refl
empty-at (s ∷ ss) all zero = empty-is s all.0
empty-at (s ∷ ss) all (suc place) = empty-at ss all.1 place

pub empty-in : (ss : List Agenda) → AllByRecursion IsEmptyAgenda ss → (by : Actor) → agenda_in ss by ≡ empty_agenda
empty-in ss all by = go (place_of by)
  where
    go : (o : Option ℕ) → agenda_at ss o ≡ empty_agenda
    go None = refl
    go (Some place) = empty-at ss all place

pub empty-agendas : (layout : Layout) (ss : List Agenda) → AllByRecursion IsEmptyAgenda ss → AllByRecursion (IsAgenda layout) ss
empty-agendas layout [] all = tt
empty-agendas layout (s ∷ ss) all = (
  record { machine = subst (HasLayout layout) (sym all.0.machine) tt; todo = subst (AllByRecursion _) (sym all.0.todo) tt },
  empty-agendas layout ss all.1,
)

-- ---- the driver

module _ {D : Type 0} {G : Ghosts D} (tells : Bool) (meter : D → Meter) (text : D → List ℕ) (image : D → List ℕ → Type 0) (v : Volume) (rules : IsVolume v) (disks : List D) (count : length disks ≡ length (nodes_of v.clusters)) (d : Driver D G) (volume : d.volume ≡ v)
    (made : AreFormatted tells meter text image v.layout (nodes_of v.clusters) disks d.shared.servers.items) (agendas : AllByRecursion IsEmptyAgenda d.agendas.items) where
  pub new-ready : length d.agendas.items ≡ 80 → length d.shared.bins.items ≡ max_bins_of v.layout → d.shared.locks ≡ maps.empty → IsJournalOpen d.shared.export → IsDriver d
  new-ready eighty bins locks journal = record {
    servers = subst (λ (u : Volume). AllByRecursion (IsServer u) d.shared.servers.items) (sym volume)
        (are-servers tells meter text image v.layout v refl (nodes_of v.clusters) disks d.shared.servers.items count made (own-cells (nodes_of v.clusters) rules.distinct_sids));
    numbers = new-numbers tells meter text image v.layout (nodes_of v.clusters) disks d.shared.servers.items count made ∙ ap (λ (u : Volume). map (λ (n : NodeSpec). n.sid) (nodes_of u.clusters)) (sym volume);
    bins = let same : max_bins_of d.volume.layout ≡ max_bins_of v.layout = ap (λ (u : Volume). max_bins_of u.layout) volume in omega (arith, same, bins);
    agendas = empty-agendas d.volume.layout d.agendas.items agendas;
    count = eighty;
    locks = λ n. ap (λ h. maps.get h n) locks ∙ maps.get-empty _ n ∙ sym (ap (λ (s : APlayer). s.lock) (empty-in d.agendas.items agendas (Client n)));
    no_locks = λ n. ap (λ (s : APlayer). s.lock) (empty-in d.agendas.items agendas (Rebuilder n));
    journal = journal;
  }

-- and its world is that of a play that is new
pub new-is : {D : Type 0} (tells : Bool) (meter : D → Meter) (text : D → List ℕ) (image : D → List ℕ → Type 0) (v : Volume) (disks : List D) (q : Shared (UnderFuse D) D) (ss : List Agenda) → AreFormatted tells meter text image v.layout (nodes_of v.clusters) disks q.servers.items → AllByRecursion IsEmptyAgenda ss
    → export_in q.export ≡ new_export v 0 → q.lost ≡ 0 → q.log.events ≡ [] → world q ss 0 ≡ new_world v
new-is tells meter text image v disks q ss made agendas export lost log = λ i. record {
  nodes = states i;
  export = export i;
  agendas = actors i;
  turns = 0;
  lost = lost i;
  log = log i;
}
  where
    states : state_in q.servers.items ≡ (λ n. fresh)
    states = fun_ext (new-states tells meter text image v.layout (zip (nodes_of v.clusters) disks) q.servers.items made)

    actors : agenda_in ss ≡ (λ by. empty_agenda)
    actors = fun_ext (empty-in ss agendas)
