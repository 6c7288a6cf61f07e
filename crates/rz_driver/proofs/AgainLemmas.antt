-- A driver that was opened on the disks which earlier runs left.
use Rattle.std.proofs.Common.{◌≡◌, inl, inr, ℕ, zero, suc, ◌+◌, ◌-◌, ◌^◌, ◌<◌, ◌≤◌, Bool, true, false, cond, IsTrue, List, [], ◌∷◌, ◌++◌, map, length, Option, Some, None, refl, sym, ◌∙◌, ap, ap₂, subst, arith}
use Rattle.std.specs.Prelude.{◌==◌, nat_eq, slice_get, is_some, option_to_list, IfSome}
use Rattle.std.specs.List.{AllByRecursion, AllZip, zip, IsDistinct}
use Rattle.std.specs.FinMap as maps
use Rattle.std.proofs.Math.Path.{fun_ext}
use Rattle.std.proofs.lemmas.Bool.{eqb-true, eq-eqb}
use Rattle.std.proofs.lemmas.List.{length-map}
use Rattle.mj_angles.specs.Layout.{bsize_of, max_bins_of}
use Rattle.rz_disk.specs.Meter.{Meter, Rises, faults}
use Rattle.rz_disk.specs.UnderFuse.{UnderFuse, fused_meter}
use Rattle.rz_disk.specs.declared.disk.Disk.{Ghosts}
use Rattle.rz_events.specs.Volume.{Volume, IsVolume, nodes_of}
use Rattle.rz_events.specs.declared.files.NodeSpec.{NodeSpec}
use Rattle.rz_events.specs.declared.keys.Actor.TheVariants.{Client, Rebuilder}
use Rattle.rz_events.specs.declared.export.Call.{Call}
use Rattle.rz_events.specs.declared.events.Word.TheVariants.{Node}
use Rattle.rz_events.specs.declared.events.Event.{Event}
use Rattle.rz_cells_slots.specs.declared.geometry.Geometry.{Geometry}
use Rattle.rz_cells_slots.specs.Held.{Records}
use Rattle.rz_cells_slots.specs.Stands.{StandsFor}
use Rattle.rz_node.specs.View.{NodeView}
use Rattle.rz_node.specs.HeldOnDisk.{IsHeldOnDisk}
use Rattle.rz_play.specs.Faults.{unplanned}
use Rattle.rz_node_model.specs.States.{NodeState, fresh, opened}
use Rattle.rz_node_model.specs.Versions.{Stands as IsAmong}
use Rattle.rz_core.specs.History.{Facts, facts, of_word}
use Rattle.rz_core.specs.NodeRows.{cells_of, IsNodeOf}
use Rattle.rz_export_model.specs.Export.{Export, new_export}
use Rattle.rz_journal.specs.JournalText.{after_all}
use Rattle.rz_journal.specs.Opening.{IsJournalRefused}
use Rattle.rz_journal.specs.Stands.{disk_bytes as journal_bytes}
use Rattle.rz_journal.specs.declared.rebuilding.JournalFault.{JournalFault}
use Rattle.rz_journal.specs.declared.rebuilding.JournalFault.TheVariants as fault
use Rattle.rz_metadata.specs.declared.metadata.Metadata.{Metadata}
use Rattle.rz_metadata.specs.declared.metadata.Metadata.TheVariants.{InMemory, Journaled}
use Rattle.rz_metadata.specs.Enrolled.{loss_of}
use Rattle.rz_metadata.specs.Reopened.{AllTextsOf, IsAsItCame, MakesExport}
use Rattle.rz_metadata.specs.Stands.{CountsFaults, IsJournalOpen, disk_of, export_in, is_journaled, Stands}
use Rattle.rz_node_laws.specs.Images.{AreImages, IsImaged, geometry_in}
use Rattle.rz_nodes.specs.declared.formatting.Server.{Server}
use Rattle.rz_nodes.specs.Formatted.{geometry_of}
use Rattle.rz_nodes.proofs.Rowwise.{get-behind}
use Rattle.rz_nodes.specs.declared.refusal.OpenRefusal.{OpenRefusal}
use Rattle.rz_nodes.specs.declared.refusal.OpenRefusal.TheVariants as refusal
use Rattle.rz_nodes.specs.Opened.{IsNodeOpened, IsDiskBack, AreDisksBack, AreOpened, IsCause}
use Rattle.rz_restart_laws.specs.Earlier.{IsEarlier, IsRestarted}
use Rattle.rz_restart_laws.specs.Calls.{calls_told, changing_calls}
use Rattle.rz_restart_laws.specs.Found.{IsNodeFound, IsStoreFound, StandsByLog}
use Rattle.rz_restart_laws.specs.Laws.{IsFoundLaw, MayGoOn, CanGoOn}
use Rattle.rz_locks.specs.Held.{Held}
use Rattle.rz_play.specs.World.{World, Agenda as APlayer, world_after}
use Rattle.rz_play_laws.specs.Fine.{IsFine}
use Rattle.rz_player.specs.Behind.{behind}
use Rattle.rz_driver_nodes.specs.Images.{AreDisksImaged, AreImaged, fused_image}
use Rattle.rz_driver_nodes.specs.Meters.{AreMetered, GoesWith, OfEach, faults_at, faults_in}
use Rattle.rz_driver_nodes.specs.Servers.{state_in, numbers_of, IsServer}
use Rattle.rz_driver.specs.declared.driver.Driver.{Driver}
use Rattle.rz_driver.specs.Continued.{journal_refusal, losses_of, AllOpen, IsCauseAgain, IsJournalCause, IsOpenedAgain, IsOpenedOver, IsRefusedOver, OpensForNode}
use Rattle.rz_driver.specs.Endings.{StandsForLog}
use Rattle.rz_driver.specs.Journals.{KeepsLog, journal_place, StandsForJournal}
use Rattle.rz_driver.specs.Coherence.{IsCoherent, KnowsLengths}
use Rattle.rz_block_laws.specs.Acting.{AreBytes}
use Rattle.rz_driver.specs.Worlds.{HasCounted, is_known, left_behind, world_of, numbers_in, IsDriver, GoesAfter, HoldsBetweenTurns}
use Rattle.rz_driver.proofs.Cuts.{each-server}
use Rattle.rz_driver.proofs.KeptCalls.{told-calls}
use Rattle.rz_driver.proofs.MadeLemmas.{own-cells, empty-in, empty-agendas}
use Rattle.rz_driver.proofs.NewCoherence.{no-hands}

-- ---- nodes that were opened, each as one with the loss that `f` gives it

module _ {D : Type 0} (tells : Bool) (meter : D → Meter) (text : D → List ℕ) (image : D → List ℕ → Type 0) (v : Volume) (f : NodeSpec → ℕ) where
  abbrev Opened : List NodeSpec → List D → List (Server (UnderFuse D)) → Type 0
  Opened nodes disks row = AllZip (IsNodeOpened tells meter text image v.layout) (zip (zip nodes (map f nodes)) disks) row

  pub opened-numbers : (nodes : List NodeSpec) (disks : List D) (row : List (Server (UnderFuse D))) → length disks ≡ length nodes → Opened nodes disks row → numbers_of row ≡ map (λ (n : NodeSpec). n.sid) nodes
  opened-numbers [] [] [] count all = refl
  opened-numbers [] [] (s ∷ row) count all = absurd all
  opened-numbers [] (d ∷ disks) row count all = absurd (omega (arith, count))
  opened-numbers (n ∷ nodes) [] row count all = absurd (omega (arith, count))
  opened-numbers (n ∷ nodes) (d ∷ disks) [] count all = absurd all
  opened-numbers (n ∷ nodes) (d ∷ disks) (s ∷ row) count all = λ i. all.0.number i ∷ opened-numbers nodes disks row (omega (arith, count)) all.1 i

  pub opened-many : (nodes : List NodeSpec) (disks : List D) (row : List (Server (UnderFuse D))) → length disks ≡ length nodes → Opened nodes disks row → length row ≡ length nodes
  opened-many nodes disks row count all =
      sym (length-map row (λ (s : Server (UnderFuse D)). s.sid)) ∙ ap length (opened-numbers nodes disks row count all) ∙ length-map nodes (λ (n : NodeSpec). n.sid)

  pub opened-servers : (nodes : List NodeSpec) (disks : List D) (row : List (Server (UnderFuse D))) → length disks ≡ length nodes → Opened nodes disks row → AllByRecursion (λ n. cells_of v n.sid ≡ n.cells) nodes → AllByRecursion (IsServer v) row
  opened-servers [] [] [] count all cells = tt
  opened-servers [] [] (s ∷ row) count all cells = absurd all
  opened-servers [] (d ∷ disks) row count all cells = absurd (omega (arith, count))
  opened-servers (n ∷ nodes) [] row count all cells = absurd (omega (arith, count))
  opened-servers (n ∷ nodes) (d ∷ disks) [] count all cells = absurd all
  opened-servers (n ∷ nodes) (d ∷ disks) (s ∷ row) count all cells = (
    record {
      layout = ap (λ (g : Geometry). g.layout) all.0.geometry;
      cells = ap (λ (g : Geometry). g.cells) all.0.geometry ∙ sym cells.0 ∙ ap (cells_of v) (sym all.0.number);
    },
    opened-servers nodes disks row (omega (arith, count)) all.1 cells.1,
  )

  -- each disk opens
  pub opened-open : (nodes : List NodeSpec) (disks : List D) (row : List (Server (UnderFuse D))) → length disks ≡ length nodes → Opened nodes disks row → AllZip (OpensForNode tells text v.layout) nodes disks
  opened-open [] [] row count all = tt
  opened-open [] (d ∷ disks) row count all = absurd (omega (arith, count))
  opened-open (n ∷ nodes) [] row count all = absurd (omega (arith, count))
  opened-open (n ∷ nodes) (d ∷ disks) [] count all = absurd all
  opened-open (n ∷ nodes) (d ∷ disks) (s ∷ row) count all = (
    (
      all.0.size,
      λ told. let stands = all.0.stands told in
          (s.node.state.fence, stands.0, subst (λ (t : List ℕ). StandsFor (geometry_of v.layout n) s.node.state.fence t stands.0) all.0.same stands.1),
    ),
    opened-open nodes disks row (omega (arith, count)) all.1,
  )

  -- a disk that is not armed goes with an empty word
  unarmed-goes : (first : ℕ) (n : NodeView (UnderFuse D)) → n.disk.fuse ≡ None → first ≤ faults (meter n.disk.disk) → GoesWith (fused_meter meter) first [] n
  unarmed-goes first n none low = (
    low,
    λ exact. record {
      few = (let nothing : unplanned [] ≡ 0 = refl in omega (arith, low, nothing));
      unarmed = λ is. none;
      least = λ left is. absurd (cc);
      most = λ same left l is at. absurd (cc);
      effect = λ same. refl;
    },
  )

  -- each has an empty word in this run
  opened-each : (first : ℕ → ℕ) (i : ℕ) (nodes : List NodeSpec) (disks : List D) (row : List (Server (UnderFuse D))) → ((k : ℕ) (d : D) → slice_get disks k ≡ Some d → first (i + k) ≡ faults (meter d)) → length disks ≡ length nodes → Opened nodes disks row
      → OfEach (GoesWith (fused_meter meter)) first i row []
  opened-each first i nodes disks [] at count all = tt
  opened-each first i [] [] (s ∷ row) at count all = absurd all
  opened-each first i [] (d ∷ disks) (s ∷ row) at count all = absurd (omega (arith, count))
  opened-each first i (n ∷ nodes) [] (s ∷ row) at count all = absurd (omega (arith, count))
  opened-each first i (n ∷ nodes) (d ∷ disks) (s ∷ row) at count all =
      let here = at 0 d refl in
      let plain : i + 0 ≡ i = omega arith in
      let low = all.0.count in
      let first_is : first i ≡ faults (meter d) = ap first (sym plain) ∙ here in (
        unarmed-goes (first i) s.node all.0.unarmed (omega (arith, first_is, low)),
        opened-each first (i + 1) nodes disks row (λ k e is. let shift : i + 1 + k ≡ i + suc k = omega arith in ap first shift ∙ at (suc k) e is) (omega (arith, count)) all.1,
      )

  -- each lost what it was to have lost
  opened-losses : (e : Export) → ((n : NodeSpec) → f n ≡ loss_of e n.sid) → (nodes : List NodeSpec) (disks : List D) (row : List (Server (UnderFuse D))) → length disks ≡ length nodes → Opened nodes disks row
      → AllByRecursion (λ (s : Server (UnderFuse D)). s.node.state.losses ≡ loss_of e s.sid) row
  opened-losses e is nodes disks [] count all = tt
  opened-losses e is [] [] (s ∷ row) count all = absurd all
  opened-losses e is [] (d ∷ disks) (s ∷ row) count all = absurd (omega (arith, count))
  opened-losses e is (n ∷ nodes) [] (s ∷ row) count all = absurd (omega (arith, count))
  opened-losses e is (n ∷ nodes) (d ∷ disks) (s ∷ row) count all =
      (ap (λ (t : NodeState). t.losses) all.0.state ∙ is n ∙ ap (loss_of e) (sym all.0.number), opened-losses e is nodes disks row (omega (arith, count)) all.1)

  -- ---- beside the earlier log, where disks tell

  module _ (told : IsTrue tells) (imaged : (d : D) → IsTrue tells → image d (text d)) (h : List Event) (earlier : IsEarlier v h) where
    abbrev Found : Server (UnderFuse D) → Type 0
    Found s = IsNodeFound v h s.sid (text s.node.disk.disk) s.node.state

    found-one : (n : NodeSpec) (d : D) (s : Server (UnderFuse D)) → IsNodeOf v n.sid → cells_of v n.sid ≡ n.cells → IsNodeOpened tells meter text image v.layout ((n, f n), d) s
        → AreImages v (facts h) (of_word (Node n.sid) h) n.sid (geometry_in v n.sid) (image d) → Found s
    found-one n d s is cells o images =
        let as_in : geometry_of v.layout n ≡ geometry_in v n.sid = λ i. record { layout = v.layout; bsize = bsize_of v.layout; node = n.sid; cells = sym cells i } in
        let here = text s.node.disk.disk in
        let fence = s.node.state.fence in
        let logged : StandsByLog v h n.sid (text d) = images (earlier.there n.sid is) (text d) (imaged d told) in
        let losses : s.node.state.losses ≡ f n = ap (λ (t : NodeState). t.losses) o.state in
        let one : IsNodeFound v h n.sid here s.node.state = record {
          logged = subst (λ (t : List ℕ). StandsByLog v h n.sid t) (sym o.same) logged;
          state = subst (λ (l : ℕ). s.node.state ≡ opened l fence s.node.state.held) (sym losses) o.state;
          stands = subst (λ (g : Geometry). (records : Records) × StandsFor g fence here records) as_in (o.stands told);
          shows = subst (λ (g : Geometry). (records : Records) → StandsFor g fence here records → IsHeldOnDisk s.node.state.held records) as_in (o.shows told);
        } in
        subst (λ (m : ℕ). IsNodeFound v h m here s.node.state) (sym o.number) one

    pub found-all : (nodes : List NodeSpec) (disks : List D) (row : List (Server (UnderFuse D))) → length disks ≡ length nodes → Opened nodes disks row → AllByRecursion (λ n. IsNodeOf v n.sid) nodes → AllByRecursion (λ n. cells_of v n.sid ≡ n.cells) nodes
        → AreDisksImaged image v (map (λ (n : NodeSpec). n.sid) nodes) disks h → AllByRecursion Found row
    found-all nodes disks [] count all are cells left = tt
    found-all [] [] (s ∷ row) count all are cells left = absurd all
    found-all [] (d ∷ disks) (s ∷ row) count all are cells left = absurd (omega (arith, count))
    found-all (n ∷ nodes) [] (s ∷ row) count all are cells left = absurd (omega (arith, count))
    found-all (n ∷ nodes) (d ∷ disks) (s ∷ row) count all are cells left =
        (found-one n d s are.0 cells.0 all.0 left.0, found-all nodes disks row (omega (arith, count)) all.1 are.1 cells.1 left.1)

    -- the images of the opened disks are those of the nodes' states
    pub images-all : IsFoundLaw image → (nodes : List NodeSpec) (disks : List D) (row : List (Server (UnderFuse D))) → length disks ≡ length nodes → Opened nodes disks row → AllByRecursion (IsServer v) row → AllByRecursion Found row → AreImaged (fused_image image) v (facts h) row
    images-all law nodes disks [] count all servers found = tt
    images-all law [] [] (s ∷ row) count all servers found = absurd all
    images-all law [] (d ∷ disks) (s ∷ row) count all servers found = absurd (omega (arith, count))
    images-all law (n ∷ nodes) [] (s ∷ row) count all servers found = absurd (omega (arith, count))
    images-all law (n ∷ nodes) (d ∷ disks) (s ∷ row) count all servers found =
        let o = all.0 in
        let geometry : s.node.geometry ≡ geometry_in v s.sid =
        o.geometry ∙ (λ i. record { layout = v.layout; bsize = bsize_of v.layout; node = sym o.number i; cells = (sym (ap (λ (g : Geometry). g.cells) o.geometry) ∙ servers.0.cells) i }) in
        let images = law v h s.sid (text s.node.disk.disk) s.node.state s.node.disk.disk found.0 o.settled in (
          record { geometry = geometry; images = subst (λ (g : Geometry). IsImaged v (facts h) s.sid s.node.state g (image s.node.disk.disk)) (sym geometry) images },
          images-all law nodes disks row (omega (arith, count)) all.1 servers.1 found.1,
        )

-- ---- the state of a number

module _ {D : Type 0} (P : ℕ → NodeState → Type 0) where
  state-so : (row : List (Server D)) → AllByRecursion (λ (s : Server D). P s.sid s.node.state) row → (n : ℕ) → IsAmong n (numbers_of row) → P n (state_in row n)
  state-so [] all n is = absurd is
  state-so (s ∷ row) all n is = go (state-so row all.1 n) (n == s.sid) refl
    where
      go : (IsAmong n (numbers_of row) → P n (state_in row n)) → (b : Bool) → (n == s.sid) ≡ b → P n (cond b s.node.state (state_in row n))
      go rest true same = subst (λ (m : ℕ). P m s.node.state) (sym (eqb-true n s.sid same)) all.0
      go rest false apart = elim is [
        | inl here ↦ (let equal : (n == s.sid) ≡ true = eq-eqb n s.sid (sym here) in let never_ : true ≡ false = sym equal ∙ apart in absurd (cc))
        | inr more ↦ rest more
      ]

pub state-none : {D : Type 0} (row : List (Server D)) (n : ℕ) → ¬ IsAmong n (numbers_of row) → state_in row n ≡ fresh
state-none [] n none = refl
state-none (s ∷ row) n none = go (state-none row n (λ more. none (inr more))) (n == s.sid) refl
  where
    go : state_in row n ≡ fresh → (b : Bool) → (n == s.sid) ≡ b → cond b s.node.state (state_in row n) ≡ fresh
    go rest true same = absurd (none (inl (sym (eqb-true n s.sid same))))
    go rest false apart = rest

-- each of these numbers is among them
numbers-among : (all nodes : List NodeSpec) → ((n : ℕ) → IsAmong n (map (λ (x : NodeSpec). x.sid) nodes) → IsAmong n (map (λ (x : NodeSpec). x.sid) all)) → AllByRecursion (λ (x : NodeSpec). IsAmong x.sid (map (λ (y : NodeSpec). y.sid) all)) nodes
numbers-among all [] into = tt
numbers-among all (x ∷ nodes) into = (into x.sid (inl refl), numbers-among all nodes (λ n is. into n (inr is)))

-- ---- calls

-- what a journal stands for, its export has answered
answered-all : {D : Type 0} (tells : Bool) (meter : D → Meter) (image : D → List ℕ → Type 0) (first : ℕ) (m : Metadata D) (v : Volume) (cs : List Call) → is_journaled m ≡ true → (export_in m).volume ≡ v → Stands tells meter image first m cs
    → export_in m ≡ after_all (new_export v 0) cs
answered-all tells meter image first (InMemory s) v cs is volume stands = absurd (cc)
answered-all tells meter image first (Journaled j) v cs is volume stands = stands.after.made ∙ ap (λ (u : Volume). after_all (new_export u 0) cs) volume

-- ---- the driver

module _ {D : Type 0} {G : Ghosts D} (v : Volume) (rules : IsVolume v) (export : Metadata D) (nodes : List D) (count : length nodes ≡ length (nodes_of v.clusters)) (d : Driver D G) (over : IsOpenedOver v export nodes d) where
  abbrev specs : List NodeSpec
  specs = nodes_of v.clusters

  abbrev row : List (Server (UnderFuse D))
  row = d.shared.servers.items

  abbrev f : NodeSpec → ℕ
  f n = loss_of (export_in export) n.sid

  numbers : numbers_of row ≡ map (λ (n : NodeSpec). n.sid) specs
  numbers = opened-numbers G.tells G.meter G.text G.image v f specs nodes row count over.made

  cells : AllByRecursion (λ (n : NodeSpec). cells_of v n.sid ≡ n.cells) specs
  cells = own-cells specs rules.distinct_sids

  servers : AllByRecursion (IsServer v) row
  servers = opened-servers G.tells G.meter G.text G.image v f specs nodes row count over.made cells

  pub over-ready : IsJournalOpen export → IsDriver d
  over-ready is_open = record {
    servers = subst (λ (u : Volume). AllByRecursion (IsServer u) row) (sym over.volume) servers;
    numbers = numbers ∙ ap (λ (u : Volume). map (λ (n : NodeSpec). n.sid) (nodes_of u.clusters)) (sym over.volume);
    bins = let same : max_bins_of d.volume.layout ≡ max_bins_of v.layout = ap (λ (u : Volume). max_bins_of u.layout) over.volume in let bins = over.bins in omega (arith, same, bins);
    agendas = empty-agendas d.volume.layout d.agendas.items over.agendas;
    count = over.count;
    locks = λ n. ap (λ (h : Held). maps.get h n) over.locks ∙ maps.get-empty _ n ∙ sym (ap (λ (s : APlayer). s.lock) (empty-in d.agendas.items over.agendas (Client n)));
    no_locks = λ n. ap (λ (s : APlayer). s.lock) (empty-in d.agendas.items over.agendas (Rebuilder n));
    journal = subst IsJournalOpen (sym over.export_is) is_open;
  }

  pub over-world : world_of d ≡ world_after (state_in row) (export_in d.shared.export) []
  over-world = λ i. record {
    nodes = state_in row;
    export = export_in d.shared.export;
    agendas = fun_ext (empty-in d.agendas.items over.agendas) i;
    turns = over.turns i;
    lost = over.lost i;
    log = over.events i;
  }

  pub over-again : (disks : List D) (journal : D) → disks ≡ nodes ++ journal ∷ [] → (IsTrue G.tells → MakesExport v (G.text journal) (export_in export)) → IsOpenedAgain v disks d
  over-again disks journal are made = record {
    nodes = nodes;
    journal = journal;
    disks_are = are;
    export = λ told. subst (λ (m : Metadata D). MakesExport v (G.text journal) (export_in m)) (sym over.export_is) (made told);
    made = subst (λ (m : Metadata D). AreOpened G.tells G.meter G.text G.image v.layout specs (losses_of (export_in m) v) nodes row) (sym over.export_is) over.made;
    world = over-world;
  }

  pub over-open : (disks : List D) (journal : D) → disks ≡ nodes ++ journal ∷ [] → length (G.text journal) ≡ journal_bytes → (IsTrue G.tells → MakesExport v (G.text journal) (export_in export)) → AllOpen G.tells G.text v disks
  over-open disks journal are sized made = record {
    nodes = nodes;
    journal = journal;
    disks_are = are;
    each = opened-open G.tells G.meter G.text G.image v f specs nodes row count over.made;
    last = (sized, λ told. (export_in export, made told));
  }

  module _ (disks : List D) (journal : D) (are : disks ≡ nodes ++ journal ∷ []) where
    abbrev counts : ℕ → ℕ
    counts = faults_at G.meter disks

    -- the journal's disk is behind those of the nodes
    at-last : faults (G.meter journal) ≡ counts (journal_place d)
    at-last =
        let place : journal_place d ≡ length nodes = ap (λ (u : Volume). length (nodes_of u.clusters)) over.volume ∙ sym count in
        ap (faults_in G.meter) (sym (get-behind nodes journal [])) ∙ ap (λ (ds : List D). faults_in G.meter (slice_get ds (length nodes))) (sym are) ∙ ap counts (sym place)

    pub over-counted : IsDriver d → CountsFaults G.meter (faults (G.meter journal)) export → HasCounted d (counts (length (nodes_of v.clusters)))
    over-counted ready counted = record {
      each = each-server d ready;
      journal = subst (λ (u : Volume). CountsFaults G.meter (counts (length (nodes_of u.clusters))) d.shared.export) over.volume
          (subst (λ (n : ℕ). CountsFaults G.meter n d.shared.export) at-last (subst (CountsFaults G.meter (faults (G.meter journal))) (sym over.export_is) counted));
    }

    metered : AreMetered (fused_meter G.meter) (numbers_in d) row d.shared.log.events counts
    metered =
        let named = numbers ∙ ap (λ (u : Volume). map (λ (n : NodeSpec). n.sid) (nodes_of u.clusters)) (sym over.volume) in
        subst (λ (k : List Event). AreMetered (fused_meter G.meter) (numbers_in d) row k counts) (sym over.events) (record {
          named = named;
          apart = subst (λ (u : Volume). IsDistinct nat_eq (map (λ (n : NodeSpec). n.sid) (nodes_of u.clusters))) (sym over.volume) rules.distinct_sids;
          each = opened-each G.tells G.meter G.text G.image v f counts 0 specs nodes row (λ k e is. at k e is) count over.made;
        })
      where
        at : (k : ℕ) (e : D) → slice_get nodes k ≡ Some e → counts (0 + k) ≡ faults (G.meter e)
        at k e is =
            let plain : 0 + k ≡ k = omega arith in
            ap counts plain ∙ ap (λ (ds : List D). faults_in G.meter (slice_get ds k)) are ∙ ap (faults_in G.meter) (found-front nodes (journal ∷ []) k e is)
          where
            found-front : (front more : List D) (k : ℕ) (x : D) → slice_get front k ≡ Some x → slice_get (front ++ more) k ≡ Some x
            found-front [] more k x is = absurd (cc)
            found-front (y ∷ front) more zero x is = is
            found-front (y ∷ front) more (suc k) x is = found-front front more k x is

    after-it : (old : List Event) → length old < 2 ^ 63 + 512 → GoesAfter (left_behind counts old)
    after-it old short = record { short = short }

    -- over disks that do not tell
    pub over-untold : G.tells ≡ false → (old : List Event) → length old < 2 ^ 63 + 512 → HoldsBetweenTurns d (left_behind counts old)
    over-untold untold old short = (
      metered,
      λ told few. absurd (cc),
      λ known. (let never : false ≡ true = subst (λ (t : Bool). is_known t (left_behind counts old) ≡ true) untold known in absurd (cc)),
      after-it old short,
    )

    -- over disks that do, after the log of the earlier runs
    module _ (told : IsTrue G.tells) (imaged : (e : D) → IsTrue G.tells → G.image e (G.text e)) (h : List Event) (earlier : IsEarlier v h) (bytes : AreBytes (facts h)) (each : AreDisksImaged G.image v (map (λ (n : NodeSpec). n.sid) specs) nodes h)
        (last : StandsForLog (G.image journal) v h) (journaled : is_journaled export ≡ true) (volume : (export_in export).volume ≡ v)
        (stands : (cs : List Call) → AllTextsOf v (G.image journal) cs → Stands G.tells G.meter G.image (faults (G.meter journal)) export cs) where
      kept : Stands G.tells G.meter G.image (faults (G.meter journal)) export (changing_calls h)
      kept = stands (changing_calls h) last

      found : AllByRecursion (λ (s : Server (UnderFuse D)). IsNodeFound v h s.sid (G.text s.node.disk.disk) s.node.state) row
      found = found-all G.tells G.meter G.text G.image v f told imaged h earlier specs nodes row count over.made (numbers-among specs specs (λ n is. is)) cells each

      among : (n : ℕ) → IsNodeOf v n → IsAmong n (numbers_of row)
      among n is = subst (IsAmong n) (sym numbers) is

      are-found : IsStoreFound v h (export_in export) (state_in row)
      are-found = record {
        export_is = answered-all G.tells G.meter G.image (faults (G.meter journal)) export v (changing_calls h) journaled volume kept;
        found = λ n is. state-so (λ m s. (text : List ℕ) × IsNodeFound v h m text s) row (with-text row found) n (among n is);
        losses = λ n is. state-so (λ m s. s.losses ≡ loss_of (export_in export) m) row (opened-losses G.tells G.meter G.text G.image v f (export_in export) (λ x. refl) specs nodes row count over.made) n (among n is);
        others = λ n no. state-none row n (λ is. no (subst (IsAmong n) numbers is));
      }
        where
          with-text : (xs : List (Server (UnderFuse D))) → AllByRecursion (λ (s : Server (UnderFuse D)). IsNodeFound v h s.sid (G.text s.node.disk.disk) s.node.state) xs
              → AllByRecursion (λ (s : Server (UnderFuse D)). (text : List ℕ) × IsNodeFound v h s.sid text s.node.state) xs
          with-text [] all = tt
          with-text (s ∷ xs) all = ((G.text s.node.disk.disk, all.0), with-text xs all.1)

      module _ (images : IsFoundLaw G.image) (old : List Event) (on : CanGoOn v h (export_in export) (state_in row) old) where
        short : length old < 2 ^ 63 + 512
        short = let few = earlier.few in let more = on.restart.few in omega (arith, few, more)

        whole : d.shared.log.events ++ old ≡ old
        whole = ap (λ (k : List Event). k ++ old) over.events

        there : behind old (world_of d) ≡ world_after (state_in row) (export_in export) old
        there = ap (behind old) over-world ∙ ap (λ (m : Metadata D). world_after (state_in row) (export_in m) old) over.export_is

        coherence : IsCoherent (fused_image G.image) d.volume old (world_of d) d.agendas.items row
        coherence = subst (λ (u : Volume). IsCoherent (fused_image G.image) u old (world_of d) d.agendas.items row) (sym over.volume) (record {
          rules = rules;
          bytes = subst AreBytes (sym on.restart.facts_are) bytes;
          fine = subst (IsFine v old) (sym there) on.fine;
          lengths = λ a. subst (λ (w : World). KnowsLengths (facts (d.shared.log.events ++ old)) (w.agendas a).work) (sym over-world) tt;
          hands = no-hands v (facts (d.shared.log.events ++ old)) d.agendas.items over.agendas;
          disks = subst (λ (g : Facts). AreImaged (fused_image G.image) v g row) (sym on.restart.facts_are ∙ ap facts (sym whole))
              (images-all G.tells G.meter G.text G.image v f told imaged h earlier images specs nodes row count over.made servers found);
        })

        has-journal : StandsForJournal d (left_behind counts old)
        has-journal =
            let same : changing_calls h ≡ changing_calls (d.shared.log.events ++ old) = ap₂ calls_told (sym on.restart.facts_are) (sym on.restart.export_word) ∙ ap changing_calls (sym whole) in
            let here : KeepsLog G.tells G.meter G.image (faults (G.meter journal)) export (d.shared.log.events ++ old) = (changing_calls h, told-calls G.tells told (d.shared.log.events ++ old) (changing_calls h) same, kept) in
            record {
              volume = ap (λ (m : Metadata D). (export_in m).volume) over.export_is ∙ volume ∙ sym over.volume;
              bytes = λ tells. subst AreBytes (sym on.restart.facts_are ∙ ap facts (sym whole)) bytes;
              keeps = λ few. subst (λ (n : ℕ). KeepsLog G.tells G.meter G.image n d.shared.export (d.shared.log.events ++ old)) at-last
                  (subst (λ (m : Metadata D). KeepsLog G.tells G.meter G.image (faults (G.meter journal)) m (d.shared.log.events ++ old)) (sym over.export_is) here);
            }

        over-holds : HoldsBetweenTurns d (left_behind counts old)
        over-holds = (metered, λ told few. coherence, λ exact. has-journal, after-it old short)

      pub over-held : IsFoundLaw G.image → MayGoOn v → (old : List Event) × IsRestarted v h old × HoldsBetweenTurns d (left_behind counts old)
      over-held images on =
          let next = on h (export_in export) (state_in row) earlier are-found in
          (next.0, next.1, over-holds images next.0 next.2)

-- ---- why the journal was not opened

module _ {D : Type 0} (tells : Bool) (meter : D → Meter) (text : D → List ℕ) (v : Volume) (disk back : D) (index : ℕ) where
  pub cause-of : (why : JournalFault) → IsJournalRefused tells v (text disk) why → (why ≡ fault.DiskFault → Rises (faults (meter disk)) (faults (meter back))) → IsJournalCause tells meter text v index disk back (journal_refusal why index)
  cause-of fault.NoMemory refused risen = tt
  cause-of (fault.WrongSize have need) refused risen = (refl, record { why = fault.WrongSize have need; not_memory = λ is. absurd (cc); cause_is = refl; refused = refused; risen = risen })
  cause-of fault.DiskFault refused risen = (refl, record { why = fault.DiskFault; not_memory = λ is. absurd (cc); cause_is = refl; refused = refused; risen = risen })
  cause-of fault.Unformatted refused risen = (refl, record { why = fault.Unformatted; not_memory = λ is. absurd (cc); cause_is = refl; refused = refused; risen = risen })
  cause-of fault.BadHeader refused risen = (refl, record { why = fault.BadHeader; not_memory = λ is. absurd (cc); cause_is = refl; refused = refused; risen = risen })
  cause-of (fault.Damaged entry) refused risen = (refl, record { why = fault.Damaged entry; not_memory = λ is. absurd (cc); cause_is = refl; refused = refused; risen = risen })

pub as-it-came : {D : Type 0} (meter : D → Meter) (text : D → List ℕ) (image : D → List ℕ → Type 0) (d : D) → IsAsItCame meter text image d d
as-it-came meter text image d = record { count = omega arith; same = refl; images = λ c is. is }

-- ---- the disks come back

-- all but the last, and the last, are these
pub split-same : {D : Type 0} (xs ys : List D) (x y : D) → xs ++ x ∷ [] ≡ ys ++ y ∷ [] → (xs ≡ ys) × (x ≡ y)
split-same [] [] x y same = (refl, cc)
split-same [] (b ∷ []) x y same = absurd (cc)
split-same [] (b ∷ c ∷ ys) x y same = absurd (cc)
split-same (a ∷ []) [] x y same = absurd (cc)
split-same (a ∷ c ∷ xs) [] x y same = absurd (cc)
split-same (a ∷ xs) (b ∷ ys) x y same =
    let head : a ≡ b = cc in
    let tail : xs ++ x ∷ [] ≡ ys ++ y ∷ [] = cc in
    let rest = split-same xs ys x y tail in
    ((λ i. head i ∷ rest.0 i), rest.1)

pub kept-same : {D : Type 0} (meter : D → Meter) (text : D → List ℕ) (image : D → List ℕ → Type 0) (disks : List D) → AreDisksBack meter text image disks disks
kept-same meter text image [] = tt
kept-same meter text image (d ∷ disks) = (record { count = omega arith; same = refl; images = λ c is. is }, kept-same meter text image disks)

pub kept-last : {D : Type 0} (meter : D → Meter) (text : D → List ℕ) (image : D → List ℕ → Type 0) (disks back : List D) (d e : D) → AreDisksBack meter text image disks back → IsDiskBack meter text image d e → AreDisksBack meter text image (disks ++ d ∷ []) (back ++ e ∷ [])
kept-last meter text image [] [] d e all one = (one, tt)
kept-last meter text image [] (b ∷ back) d e all one = absurd all
kept-last meter text image (x ∷ disks) [] d e all one = absurd all
kept-last meter text image (x ∷ disks) (b ∷ back) d e all one = (all.0, kept-last meter text image disks back d e all.1 one)

pub kept-many : {D : Type 0} (meter : D → Meter) (text : D → List ℕ) (image : D → List ℕ → Type 0) (disks back : List D) → AreDisksBack meter text image disks back → length back ≡ length disks
kept-many meter text image [] [] all = refl
kept-many meter text image [] (b ∷ back) all = absurd all
kept-many meter text image (d ∷ disks) [] all = absurd all
kept-many meter text image (d ∷ disks) (b ∷ back) all = ap suc (kept-many meter text image disks back all.1)

as-kept : {D : Type 0} (meter : D → Meter) (text : D → List ℕ) (image : D → List ℕ → Type 0) (d e : D) → IsAsItCame meter text image d e → IsDiskBack meter text image d e
as-kept meter text image d e came = record { count = came.count; same = came.same; images = came.images }

module _ {D : Type 0} (tells : Bool) (meter : D → Meter) (text : D → List ℕ) (image : D → List ℕ → Type 0) (v : Volume) (disks nodes : List D) (journal : D) (are : disks ≡ nodes ++ journal ∷ []) where
  -- the journal's disk was not opened
  pub journal-back : (e : D) (back : List D) → back ≡ nodes ++ e ∷ [] → IsAsItCame meter text image journal e → AreDisksBack meter text image disks back
  journal-back e back is came =
      subst (λ (xs : List D). AreDisksBack meter text image xs back) (sym are) (subst (AreDisksBack meter text image (nodes ++ journal ∷ [])) (sym is) (kept-last meter text image nodes nodes journal e (kept-same meter text image nodes) (as-kept meter text image journal e came)))

  pub journal-cause : (e : D) (back : List D) → back ≡ nodes ++ e ∷ [] → (place : ℕ) → place ≡ length nodes → (why : OpenRefusal) → IsJournalCause tells meter text v place journal e why → IsCauseAgain tells meter text image v disks back why
  journal-cause e back is place at refusal.NoMemory cause = tt
  journal-cause e back is place at (refusal.Open index number) cause = record {
    nodes = nodes;
    journal = journal;
    disks_are = are;
    nodes_back = nodes;
    journal_back = e;
    back_are = is;
    cause = inl (cause.0 ∙ at, cause.1);
  }

  -- a node's was not
  module _ (export : Metadata D) (journaled : is_journaled export ≡ true) (came : IfSome (disk_of export) (IsAsItCame meter text image journal)) (made : IsTrue tells → MakesExport v (text journal) (export_in export)) (back : List D) (why : OpenRefusal)
      (refused : IsRefusedOver tells meter text image v export nodes back why) where
    its-disk : (o : Option D) → disk_of export ≡ o → is_some o ≡ true → IfSome o (IsAsItCame meter text image journal) → (e : D) × (option_to_list (disk_of export) ≡ e ∷ []) × IsAsItCame meter text image journal e
    its-disk None is some as_it = absurd (cc)
    its-disk (Some e) is some as_it = (e, ap (λ (o : Option D). option_to_list o) is, as_it)

    one : (e : D) × (option_to_list (disk_of export) ≡ e ∷ []) × IsAsItCame meter text image journal e
    one = its-disk (disk_of export) refl journaled came

    back-is : back ≡ refused.nodes_back ++ one.0 ∷ []
    back-is = refused.back_are ∙ ap (λ (xs : List D). refused.nodes_back ++ xs) one.1

    pub over-back : AreDisksBack meter text image disks back
    over-back =
        subst (λ (xs : List D). AreDisksBack meter text image xs back) (sym are) (subst (AreDisksBack meter text image (nodes ++ journal ∷ [])) (sym back-is) (kept-last meter text image nodes refused.nodes_back journal one.0 refused.kept (as-kept meter text image journal one.0 one.2)))

    pub over-cause : IsCauseAgain tells meter text image v disks back why
    over-cause = go why refused.cause
      where
        go : (w : OpenRefusal) → IsCause tells meter text image v.layout (nodes_of v.clusters) (losses_of (export_in export) v) nodes refused.nodes_back w → IsCauseAgain tells meter text image v disks back w
        go refusal.NoMemory cause = tt
        go (refusal.Open index number) cause = record {
          nodes = nodes;
          journal = journal;
          disks_are = are;
          nodes_back = refused.nodes_back;
          journal_back = one.0;
          back_are = back-is;
          cause = inr (record { export = export_in export; made = made; cause = cause });
        }
