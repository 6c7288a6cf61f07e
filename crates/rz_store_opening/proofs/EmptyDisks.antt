-- Disks that were formatted are such as no run has left yet.
use Rattle.std.proofs.Common.{ℕ, Bool, ◌≡◌, ◌≤◌, List, [], ◌∷◌, map, length, Option, Some, None, IsTrue, inl, refl, sym, ap, subst, arith}
use Rattle.std.specs.Prelude.{IfSome}
use Rattle.std.specs.List.{AllByRecursion, AllZip, zip}
use Rattle.mj_angles.specs.Layout.{bsize_of}
use Rattle.mj_angles.specs.declared.layout.Layout.{Layout}
use Rattle.rz_disk.specs.Meter.{Meter, Rises, faults}
use Rattle.rz_disk.specs.UnderFuse.{UnderFuse}
use Rattle.rz_events.specs.Volume.{Volume, IsVolume, nodes_of}
use Rattle.rz_events.specs.declared.files.NodeSpec.{NodeSpec}
use Rattle.rz_cells_slots.specs.declared.formatting.FormatFault.{FormatFault}
use Rattle.rz_cells_slots.specs.declared.formatting.FormatFault.TheVariants as format
use Rattle.rz_cells_slots.specs.declared.geometry.Geometry.{Geometry}
use Rattle.rz_cells_slots.specs.Held.{nothing}
use Rattle.rz_cells_slots.specs.Stands.{StandsFor}
use Rattle.rz_export_model.specs.Export.{Export as ExportState, new_export}
use Rattle.rz_node_laws.specs.Images.{geometry_in}
use Rattle.rz_journal.specs.JournalText.{IsTextOf}
use Rattle.rz_metadata.specs.declared.metadata.Metadata.{Metadata}
use Rattle.rz_metadata.specs.declared.metadata.Metadata.TheVariants.{InMemory, Journaled}
use Rattle.rz_metadata.specs.Reopened.{AllTextsOf}
use Rattle.rz_metadata.specs.Stands.{CountsFaults, Stands, disk_of, export_in}
use Rattle.rz_nodes.specs.declared.formatting.Server.{Server}
use Rattle.rz_nodes.specs.declared.fault.DriverFault.{DriverFault}
use Rattle.rz_nodes.specs.declared.fault.DriverFault.TheVariants as driver
use Rattle.rz_nodes.specs.Formatted as nodes
use Rattle.rz_nodes.specs.Formatted.{AreFormatted, IsBack, IsNodeFormatted, disks_of, geometry_of}
use Rattle.rz_nodes.proofs.FormatLemmas.{new-back}
use Rattle.rz_nodes.proofs.Rowwise.{zip-map}
use Rattle.rz_restart_laws.specs.Earlier.{numbers}
use Rattle.rz_restart_laws.specs.Returns.{NewDisk, replaced}
use Rattle.rz_shared.proofs.Readiness.{IsDescribed, described}
use Rattle.rz_store_opening.specs.NewStores.{IsCause, IsFormattedDisk, IsJournalBack, disk_refusal, journal_refusal}
use Rattle.rz_store_opening.specs.Opening.{AreLeft, MayStand}

module _ {D : Type 0} (tells : Bool) (meter : D → Meter) (text : D → List ℕ) (image : D → List ℕ → Type 0) (layout : Layout) where
  abbrev Made : NodeSpec × D → Server (UnderFuse D) → Type 0
  Made p s = IsNodeFormatted tells meter text image layout p s

  -- each stands in its place
  pub in-places : (pairs : List (NodeSpec × D)) (servers : List (Server (UnderFuse D))) → AllZip Made pairs servers → AllZip (IsFormattedDisk tells meter text image layout) pairs (map (λ (d : D). Some d) (disks_of servers))
  in-places [] [] all = tt
  in-places [] (s ∷ servers) all = absurd all
  in-places (p ∷ pairs) [] all = absurd all
  in-places (p ∷ pairs) (s ∷ servers) all = (record { count = all.0.count; stands = all.0.stands; settled = all.0.settled }, in-places pairs servers all.1)

  -- or it goes back
  pub go-back : (pairs : List (NodeSpec × D)) (servers : List (Server (UnderFuse D))) → AllZip Made pairs servers → AllZip (IsBack tells meter image layout) pairs (disks_of servers)
  go-back pairs servers all = zip-map Made (IsBack tells meter image layout) (λ (s : Server (UnderFuse D)). s.node.disk.disk) pairs servers (new-back tells meter text image layout) all

none-replaced : (new : ℕ → NewDisk) (ns : List ℕ) → replaced new ns [] ≡ []
none-replaced new [] = refl
none-replaced new (n ∷ ns) = none-replaced new ns

module _ {D : Type 0} (tells : Bool) (meter : D → Meter) (text : D → List ℕ) (image : D → List ℕ → Type 0) (told : IsTrue tells) (v : Volume) (new : ℕ → NewDisk) where
  place-left : (spec : NodeSpec) (disk : D) (d : Option D) → IsDescribed v spec → IsFormattedDisk tells meter text image v.layout (spec, disk) d → IfSome d (λ there. (c : List ℕ) → image there c → MayStand v [] spec.sid c)
  place-left spec disk None is made = tt
  place-left spec disk (Some d) is made = λ c left.
      (let same : geometry_of v.layout spec ≡ geometry_in v spec.sid = ap (λ (n : ℕ). record { layout = v.layout; bsize = bsize_of v.layout; node = spec.sid; cells = n }) (sym is.cells) in
      inl (inl (subst (λ (t : List ℕ). StandsFor (geometry_in v spec.sid) 0 t nothing) (sym (made.settled c left)) (subst (λ (g : Geometry). StandsFor g 0 (text d) nothing) same (made.stands told)))))

  places-left : (specs : List NodeSpec) → AllByRecursion (IsDescribed v) specs → (disks : List D) → length disks ≡ length specs → (places : List (Option D)) → AllZip (IsFormattedDisk tells meter text image v.layout) (zip specs disks) places
      → AllZip (λ (spec : NodeSpec) (d : Option D). IfSome d (λ there. (c : List ℕ) → image there c → MayStand v [] spec.sid c)) specs places
  places-left [] all [] count [] made = tt
  places-left [] all [] count (p ∷ places) made = absurd made
  places-left [] all (d ∷ disks) count places made = absurd (omega (arith, count))
  places-left (spec ∷ specs) all [] count places made = absurd (omega (arith, count))
  places-left (spec ∷ specs) all (d ∷ disks) count [] made = absurd made
  places-left (spec ∷ specs) all (d ∷ disks) count (p ∷ places) made = (place-left spec d p all.0 made.0, places-left specs all.1 disks (omega (arith, count)) places made.1)

  pub left-by-none : IsVolume v → (disks : List D) → length disks ≡ length (nodes_of v.clusters) → (places : List (Option D)) → AllZip (IsFormattedDisk tells meter text image v.layout) (zip (nodes_of v.clusters) disks) places
      → (journal : D) → AllTextsOf v (image journal) [] → AreLeft image v [] new places journal
  left-by-none rules disks count places made journal texts = record {
    earlier = record { legal = tt; few = omega arith; enrolled = λ n at lost. absurd (cc) };
    bytes = λ s b is. absurd (cc);
    nodes = rw (none-replaced new (numbers v)) (places-left (nodes_of v.clusters) (described v rules) disks count places made);
    last = texts;
  }

-- the journal's disk stands for no calls
pub no-calls : {D : Type 0} (tells : Bool) (meter : D → Meter) (image : D → List ℕ → Type 0) (first : ℕ) (v : Volume) (m : Metadata D) (d : D) → export_in m ≡ new_export v 0 → Stands tells meter image first m [] → disk_of m ≡ Some d → IsTrue tells → AllTextsOf v (image d) []
no-calls tells meter image first v (InMemory s) d is stands at told = absurd (cc)
no-calls {D = D} tells meter image first v (Journaled j) d is stands at told = λ c left.
    (let same : j.journal.disk ≡ d = cc in
    subst (λ (u : Volume). IsTextOf u c []) (ap (λ (s : ExportState). s.volume) is) (stands.images told c (subst (λ (e : D). image e c) (sym same) left)))

-- and its count of faults did not fall
pub lasts-on : {D : Type 0} (meter : D → Meter) (first : ℕ) (m : Metadata D) (d : D) → CountsFaults meter first m → disk_of m ≡ Some d → first ≤ faults (meter d)
lasts-on meter first (InMemory s) d counted at = absurd (cc)
lasts-on {D = D} meter first (Journaled j) d counted at = let same : j.journal.disk ≡ d = cc in subst (λ (e : D). first ≤ faults (meter e)) same counted.lasts

-- ---- as the functions say it

pub as-made : {D : Type 0} (tells : Bool) (meter : D → Meter) (text : D → List ℕ) (image : D → List ℕ → Type 0) (layout layout' : Layout) (nodes nodes' : List NodeSpec) (disks : List D) (servers : List (Server (UnderFuse D)))
    → layout ≡ layout' → nodes ≡ nodes' → AreFormatted tells meter text image layout nodes disks servers → AreFormatted tells meter text image layout' nodes' disks servers
as-made tells meter text image layout layout' nodes nodes' disks servers same are made =
    subst (λ (l : Layout). AreFormatted tells meter text image l nodes' disks servers) same (subst (λ (ns : List NodeSpec). AreFormatted tells meter text image layout ns disks servers) are made)

pub some-disks : {D : Type 0} (servers : List (Server (UnderFuse D))) → map (λ (s : Server (UnderFuse D)). Some s.node.disk.disk) servers ≡ map (λ (d : D). Some d) (disks_of servers)
some-disks [] = refl
some-disks (s ∷ servers) = ap (λ l. Some s.node.disk.disk ∷ l) (some-disks servers)

pub journal-cause : {D : Type 0} (meter : D → Meter) (disks : List D) (journal : D) (back : List D) (journal_back : D) (why : FormatFault) → (why ≡ format.DiskFault → Rises (faults (meter journal)) (faults (meter journal_back)))
    → IsCause meter disks journal back journal_back (journal_refusal why)
journal-cause meter disks journal back journal_back format.NoMemory risen = tt
journal-cause meter disks journal back journal_back format.DiskFault risen = risen refl

pub disk-cause : {D : Type 0} (meter : D → Meter) (disks : List D) (journal : D) (back : List D) (journal_back : D) (why : DriverFault) → nodes.IsCause meter disks back why → IsCause meter disks journal back journal_back (disk_refusal why)
disk-cause meter disks journal back journal_back driver.NoMemory is = tt
disk-cause meter disks journal back journal_back (driver.Disk index) is = is

-- memory was wanting before
pub journal-same : {D : Type 0} (tells : Bool) (meter : D → Meter) (image : D → List ℕ → Type 0) (v : Volume) (journal : D) → IsJournalBack tells meter image v journal journal
journal-same tells meter image v journal = record { count = omega arith; images = λ told c left. inl left }
