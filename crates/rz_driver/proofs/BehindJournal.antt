-- A new driver whose export was put behind a journal, on the last of the disks.
use Rattle.std.proofs.Common.{◌≡◌, inl, ℕ, zero, suc, ◌+◌, ◌-◌, ◌^◌, ◌<◌, ◌≤◌, Bool, List, [], ◌∷◌, ◌++◌, map, length, Some, refl, sym, ◌∙◌, ap, subst, arith}
use Rattle.std.specs.Prelude.{slice_get}
use Rattle.std.specs.Global.{Vec}
use Rattle.std.specs.List.{AllByRecursion, AllZip, zip}
use Rattle.std.proofs.lemmas.List.{append-nil, length-append, length-map}
use Rattle.mj_angles.specs.declared.layout.Layout.{Layout}
use Rattle.rz_disk.specs.Meter.{Meter, Rises, faults}
use Rattle.rz_disk.specs.UnderFuse.{UnderFuse, fused_meter}
use Rattle.rz_disk.specs.declared.disk.Disk.{Ghosts}
use Rattle.rz_events.specs.Volume.{Volume, nodes_of}
use Rattle.rz_events.specs.declared.files.NodeSpec.{NodeSpec}
use Rattle.rz_events.specs.declared.events.Event.{Event}
use Rattle.rz_core.specs.History.{facts, of_word}
use Rattle.rz_events.specs.declared.events.Word.TheVariants.{Node}
use Rattle.rz_export_model.specs.Export.{Export, new_export}
use Rattle.rz_node.specs.View.{NodeView}
use Rattle.rz_metadata.specs.Stands.{CountsFaults, export_in, Stands}
use Rattle.rz_play.specs.World.{World, new_world}
use Rattle.rz_nodes.specs.declared.fault.DriverFault.{DriverFault}
use Rattle.rz_nodes.specs.declared.fault.DriverFault.TheVariants as driver
use Rattle.rz_nodes.specs.declared.formatting.Server.{Server}
use Rattle.rz_cells_slots.specs.declared.formatting.FormatFault.{FormatFault}
use Rattle.rz_cells_slots.specs.declared.formatting.FormatFault.TheVariants as format
use Rattle.rz_nodes.specs.Formatted.{AreBack, AreFormatted, IsBack, IsCause, IsNodeFormatted, disks_of, fault_at}
use Rattle.rz_nodes.proofs.FormatLemmas.{new-back}
use Rattle.rz_nodes.proofs.Rowwise.{get-behind, zip-length, zip-map}
use Rattle.rz_driver_nodes.specs.Meters.{AreMetered, GoesWith, OfEach, faults_at, faults_in}
use Rattle.rz_driver_nodes.specs.Images.{fused_image}
use Rattle.rz_driver_nodes.specs.Servers.{numbers_of, IsServer}
use Rattle.rz_driver.specs.declared.driver.Driver.{Driver}
use Rattle.rz_driver_actors.specs.declared.actor_agenda.Agenda.{Agenda}
use Rattle.rz_driver_actors.specs.declared.shared.Shared.{Shared}
use Rattle.rz_driver.specs.Formatted.{IsBehindJournal, IsJournalBack, AreBackWithJournal, IsFault, IsJournalUnmade}
use Rattle.rz_driver.specs.Journals.{KeepsLog, journal_place, StandsForJournal}
use Rattle.rz_driver.specs.Coherence.{IsCoherent}
use Rattle.rz_block_laws.specs.Acting.{AreBytes}
use Rattle.rz_driver.specs.Worlds.{HasCounted, anew, world, world_of, numbers_in, IsDriver, IsCoherentAfter, HoldsBetweenTurns}
use Rattle.rz_driver.proofs.Cuts.{each-server}
use Rattle.rz_driver.proofs.ExportWords.{bytes-none}
use Rattle.rz_driver.proofs.KeptCalls.{no-calls}
use Rattle.rz_driver.proofs.NodeOrders.{ready-with}

-- ---- lists with one element more

pub zip-front : {N D : Type 0} (nodes : List N) (front more : List D) → length front ≡ length nodes → zip nodes (front ++ more) ≡ zip nodes front
zip-front [] front more count = refl
zip-front (n ∷ nodes) [] more count = absurd (omega (arith, count))
zip-front (n ∷ nodes) (d ∷ front) more count = ap (λ (ps : List _). (n, d) ∷ ps) (zip-front nodes front more (omega (arith, count)))

pub get-front : {D : Type 0} (front more : List D) (k : ℕ) → k < length front → slice_get (front ++ more) k ≡ slice_get front k
get-front [] more k low = absurd (omega (arith, low))
get-front (d ∷ front) more zero low = refl
get-front (d ∷ front) more (suc k) low = get-front front more k (omega (arith, low))

found-front : {D : Type 0} (front more : List D) (k : ℕ) (d : D) → slice_get front k ≡ Some d → slice_get (front ++ more) k ≡ Some d
found-front [] more k d is = absurd (cc)
found-front (x ∷ front) more zero d is = is
found-front (x ∷ front) more (suc k) d is = found-front front more k d is

-- all but the last, and the last
pub has-last : {D : Type 0} (disks : List D) (n : ℕ) → length disks ≡ n + 1 → (front : List D) × (last : D) × (disks ≡ front ++ last ∷ []) × (length front ≡ n)
has-last [] n count = absurd (omega (arith, count))
has-last (d ∷ []) n count = ([], d, refl, omega (arith, count))
has-last (d ∷ x ∷ disks) zero count = absurd (omega (arith, count))
has-last (d ∷ x ∷ disks) (suc n) count =
    let rest = has-last (x ∷ disks) n (omega (arith, count)) in
    (d ∷ rest.0, rest.1, ap (λ (ys : List _). d ∷ ys) rest.2, ap suc rest.3)

pub front-count : {D : Type 0} (disks front : List D) (last : D) (n : ℕ) → disks ≡ front ++ last ∷ [] → length disks ≡ n + 1 → length front ≡ n
front-count disks front last n split count =
    let whole : length disks ≡ length front + length (last ∷ []) = ap length split ∙ length-append front (last ∷ []) in
    omega (arith, whole, count)

zip-short : {N D : Type 0} (nodes : List N) (front : List D) → length front ≡ length nodes → length (zip nodes front) ≡ length nodes
zip-short [] front count = refl
zip-short (n ∷ nodes) [] count = absurd (omega (arith, count))
zip-short (n ∷ nodes) (d ∷ front) count = ap suc (zip-short nodes front (omega (arith, count)))

-- as many disks come back
pub back-count : {D : Type 0} (tells : Bool) (meter : D → Meter) (image : D → List ℕ → Type 0) (layout : Layout) (nodes : List NodeSpec) (front back : List D) → length front ≡ length nodes → AreBack tells meter image layout nodes front back → length back ≡ length front
back-count tells meter image layout nodes front back count all =
    sym (zip-length (IsBack tells meter image layout) (zip nodes front) back all) ∙ zip-short nodes front count ∙ sym count

-- ---- the counts of faults

module _ {D : Type 0} (P : ℕ → List Event → NodeView D → Type 0) (first first' : ℕ → ℕ) (h : List Event) where
  each-again : (i : ℕ) (row : List (Server D)) → ((k : ℕ) → i ≤ k → k < i + length row → first k ≡ first' k) → OfEach P first i row h → OfEach P first' i row h
  each-again i [] same all = tt
  each-again i (s ∷ row) same all = (
    subst (λ (f : ℕ). P f (of_word (Node s.sid) h) s.node) (same i (omega arith) (omega arith)) all.0,
    each-again (i + 1) row (λ k low high. same k (omega (arith, low)) (omega (arith, high))) all.1,
  )

pub metered-again : {D : Type 0} (meter : D → Meter) (numbers : List ℕ) (row : List (Server D)) (h : List Event) (first first' : ℕ → ℕ) → ((k : ℕ) → k < length numbers → first k ≡ first' k)
    → AreMetered meter numbers row h first → AreMetered meter numbers row h first'
metered-again meter numbers row h first first' same met =
    let count : length row ≡ length numbers = sym (length-map row (λ (s : Server _). s.sid)) ∙ ap length met.named in
    record { named = met.named; apart = met.apart; each = each-again (GoesWith meter) first first' h 0 row (λ k low high. same k (omega (arith, high, count))) met.each }

-- ---- the driver

module _ {D : Type 0} {G : Ghosts D} (journal : D) (d e : Driver D G) (behind : IsBehindJournal journal d e) where
  pub behind-ready : IsDriver d → IsDriver e
  behind-ready ready = ready-with d e ready behind.volume (ap (λ (v : Vec Agenda). v.items) behind.agendas)
      (subst (λ (p : Shared (UnderFuse D) D). AllByRecursion (IsServer d.volume) p.servers.items) (sym behind.shared) ready.servers)
      (ap (λ (p : Shared (UnderFuse D) D). numbers_of p.servers.items) behind.shared)
      (ap (λ (p : Shared (UnderFuse D) D). p.locks) behind.shared) (ap (λ (p : Shared (UnderFuse D) D). p.bins.items) behind.shared) behind.is_open

  module _ (v : Volume) (volume : d.volume ≡ v) (new : world_of d ≡ new_world v) where
    pub behind-world : world_of e ≡ new_world v
    behind-world =
        let export : export_in e.shared.export ≡ new_export v 0 = behind.export ∙ ap (λ (u : Volume). new_export u 0) volume in
        (λ i. world (behind.shared i) (behind.agendas i).items (behind.turns i)) ∙ (λ i. record (new i) { export = export i })

    module _ (tells : Bool) (meter : D → Meter) (text : D → List ℕ) (image : D → List ℕ → Type 0) (nodes : List D) (count : length nodes ≡ length (nodes_of v.clusters)) where
      pub behind-made : AreFormatted tells meter text image v.layout (nodes_of v.clusters) nodes d.shared.servers.items
          → AreFormatted tells meter text image v.layout (nodes_of v.clusters) (nodes ++ journal ∷ []) e.shared.servers.items
      behind-made made =
          let more : AreFormatted tells meter text image v.layout (nodes_of v.clusters) (nodes ++ journal ∷ []) d.shared.servers.items =
          subst (λ (ps : List (NodeSpec × D)). AllZip (IsNodeFormatted tells meter text image v.layout) ps d.shared.servers.items) (sym (zip-front (nodes_of v.clusters) nodes (journal ∷ []) count)) made in
          subst (λ (p : Shared (UnderFuse D) D). AreFormatted tells meter text image v.layout (nodes_of v.clusters) (nodes ++ journal ∷ []) p.servers.items) (sym behind.shared) more

    module _ (nodes : List D) (count : length nodes ≡ length (nodes_of v.clusters)) where
      abbrev before : ℕ → ℕ
      before = faults_at G.meter nodes

      abbrev now : ℕ → ℕ
      now = faults_at G.meter (nodes ++ journal ∷ [])

      same-log : e.shared.log.events ≡ d.shared.log.events
      same-log = ap (λ (p : Shared (UnderFuse D) D). p.log.events) behind.shared

      metered : AreMetered (fused_meter G.meter) (numbers_in d) d.shared.servers.items d.shared.log.events before → AreMetered (fused_meter G.meter) (numbers_in e) e.shared.servers.items e.shared.log.events now
      metered met =
          let many : length (numbers_in d) ≡ length nodes = length-map (nodes_of d.volume.clusters) (λ (n : NodeSpec). n.sid) ∙ ap (λ (u : Volume). length (nodes_of u.clusters)) volume ∙ sym count in
          let again = metered-again (fused_meter G.meter) (numbers_in d) d.shared.servers.items d.shared.log.events before now
          (λ k low. ap (faults_in G.meter) (sym (get-front nodes (journal ∷ []) k (omega (arith, low, many))))) met in
          let there = subst (λ (p : Shared (UnderFuse D) D). AreMetered (fused_meter G.meter) (numbers_in d) p.servers.items p.log.events now) (sym behind.shared) again in
          subst (λ (u : Volume). AreMetered (fused_meter G.meter) (map (λ (n : NodeSpec). n.sid) (nodes_of u.clusters)) e.shared.servers.items e.shared.log.events now) (sym behind.volume) there

      coherence : IsCoherentAfter d [] → IsCoherentAfter e []
      coherence has = λ told few.
          let was = has told (subst (λ (h : List Event). length (h ++ []) < 2 ^ 64 - 1) same-log few) in
          let worlds : world_of d ≡ world_of e = new ∙ sym behind-world in
          let one = subst (λ (w : World). IsCoherent (fused_image G.image) d.volume [] w d.agendas.items d.shared.servers.items) worlds was in
          let two = subst (λ (s : Vec Agenda). IsCoherent (fused_image G.image) d.volume [] (world_of e) s.items d.shared.servers.items) (sym behind.agendas) one in
          let three = subst (λ (p : Shared (UnderFuse D) D). IsCoherent (fused_image G.image) d.volume [] (world_of e) e.agendas.items p.servers.items) (sym behind.shared) two in
          subst (λ (u : Volume). IsCoherent (fused_image G.image) u [] (world_of e) e.agendas.items e.shared.servers.items) (sym behind.volume) three

      -- its disk is behind those of the nodes
      at-last : faults (G.meter journal) ≡ now (journal_place e)
      at-last =
          let place : journal_place e ≡ length nodes = ap (λ (u : Volume). length (nodes_of u.clusters)) (behind.volume ∙ volume) ∙ sym count in
          ap (faults_in G.meter) (sym (get-behind nodes journal [])) ∙ ap now (sym place)

      has-journal : StandsForJournal e (anew now)
      has-journal =
          let none : e.shared.log.events ++ [] ≡ [] = append-nil e.shared.log.events ∙ ap (λ (w : World). w.log) behind-world in
          let first = subst (λ (n : ℕ). Stands G.tells G.meter G.image n e.shared.export []) at-last behind.stands in
          record {
            volume = ap (λ (s : Export). s.volume) behind.export ∙ sym behind.volume;
            bytes = λ told. subst (λ (h : List Event). AreBytes (facts h)) (sym none) bytes-none;
            keeps = λ few. subst (λ (h : List Event). KeepsLog G.tells G.meter G.image (now (journal_place e)) e.shared.export h) (sym none) ([], no-calls G.tells, first);
          }

      pub behind-holds : HoldsBetweenTurns d (anew before) → HoldsBetweenTurns e (anew now)
      behind-holds held = (metered held.0, coherence held.1, λ exact. has-journal, record { short = held.3.short })

      pub behind-counted : IsDriver e → HasCounted e (now (length (nodes_of v.clusters)))
      behind-counted ready = record {
        each = each-server e ready;
        journal = subst (λ (u : Volume). CountsFaults G.meter (now (length (nodes_of u.clusters))) e.shared.export) (behind.volume ∙ volume)
            (subst (λ (n : ℕ). CountsFaults G.meter n e.shared.export) at-last behind.counted);
      }

-- ---- the disks that come back

module _ {D : Type 0} (tells : Bool) (meter : D → Meter) (image : D → List ℕ → Type 0) (v : Volume) where
  pub journal-untouched : (disk : D) → IsJournalBack tells meter image v disk disk
  journal-untouched disk = record { count = omega arith; images = λ told c is. inl is }

  -- the journal's was not touched
  pub back-with : (disks nodes back : List D) (journal : D) → disks ≡ nodes ++ journal ∷ [] → AreBack tells meter image v.layout (nodes_of v.clusters) nodes back → (all : List D) → all ≡ back ++ journal ∷ []
      → AreBackWithJournal tells meter image v disks all
  back-with disks nodes back journal split each all is = record {
    nodes = nodes;
    journal = journal;
    disks_are = split;
    nodes_back = back;
    journal_back = journal;
    back_are = is;
    each = each;
    last = journal-untouched journal;
  }

  -- and the index of a node's disk is its own still
  pub cause-with : (nodes back : List D) (journal : D) (fault : DriverFault) → IsCause meter nodes back fault → IsCause meter (nodes ++ journal ∷ []) (back ++ journal ∷ []) fault
  cause-with nodes back journal driver.NoMemory cause = tt
  cause-with nodes back journal (driver.Disk index) (old, new, was, is, rises) =
      (old, new, found-front nodes (journal ∷ []) index old was, found-front back (journal ∷ []) index new is, rises)

-- why a disk was not formatted
pub fault-is : {D : Type 0} (meter : D → Meter) (disk back : D) (why : FormatFault) (fault : DriverFault) (index place : ℕ) → fault ≡ fault_at why index → index ≡ place
    → (why ≡ format.DiskFault → Rises (faults (meter disk)) (faults (meter back))) → IsFault meter place disk back fault
fault-is meter disk back format.NoMemory fault index place is at risen = subst (IsFault meter place disk back) (sym is) tt
fault-is meter disk back format.DiskFault fault index place is at risen = subst (IsFault meter place disk back) (sym is) (at, risen refl)

-- no journal was made
module _ {D : Type 0} (tells : Bool) (meter : D → Meter) (text : D → List ℕ) (image : D → List ℕ → Type 0) (v : Volume) (nodes : List D) (journal : D) (row : List (Server (UnderFuse D))) (back : List D) (fault : DriverFault)
    (refused : IsJournalUnmade tells meter image v (disks_of row) journal back fault) where
  pub refused-back : (disks : List D) → disks ≡ nodes ++ journal ∷ [] → AreFormatted tells meter text image v.layout (nodes_of v.clusters) nodes row → AreBackWithJournal tells meter image v disks back
  refused-back disks split made = record {
    nodes = nodes;
    journal = journal;
    disks_are = split;
    nodes_back = disks_of row;
    journal_back = refused.last;
    back_are = refused.back_are;
    each = zip-map (IsNodeFormatted tells meter text image v.layout) (IsBack tells meter image v.layout) (λ (s : Server (UnderFuse D)). s.node.disk.disk) (zip (nodes_of v.clusters) nodes) row (new-back tells meter text image v.layout) made;
    last = refused.kept;
  }

  refused-at : (f : DriverFault) → IsFault meter (length (disks_of row)) journal refused.last f → length nodes ≡ length (disks_of row) → IsCause meter (nodes ++ journal ∷ []) (disks_of row ++ refused.last ∷ []) f
  refused-at driver.NoMemory cause count = tt
  refused-at (driver.Disk index) (is, rises) count = (
    journal,
    refused.last,
    ap (slice_get (nodes ++ journal ∷ [])) (is ∙ sym count) ∙ get-behind nodes journal [],
    ap (slice_get (disks_of row ++ refused.last ∷ [])) is ∙ get-behind (disks_of row) refused.last [],
    rises,
  )

  pub refused-cause : (disks : List D) → disks ≡ nodes ++ journal ∷ [] → length nodes ≡ length row → IsCause meter disks back fault
  refused-cause disks split count =
      let many : length nodes ≡ length (disks_of row) = count ∙ sym (length-map row (λ (s : Server (UnderFuse D)). s.node.disk.disk)) in
      let here = refused-at fault refused.cause many in
      subst (λ (xs : List D). IsCause meter xs back fault) (sym split) (subst (λ (ys : List D). IsCause meter (nodes ++ journal ∷ []) ys fault) (sym refused.back_are) here)
