-- Disks that are opened one after another.
use Rattle.std.proofs.Common.{◌≡◌, ℕ, zero, suc, ◌<◌, ◌≤◌, Bool, List, [], ◌∷◌, ◌++◌, length, take, get_or, ◌⊎◌, Option, Some, None, IsTrue, refl, sym, ◌∙◌, ap, subst, arith}
use Rattle.std.proofs.lemmas.List.{length-map}
use Rattle.std.proofs.Math.Seq.{take-append_seam}
use Rattle.std.specs.Prelude.{slice_get}
use Rattle.std.specs.List.{AllZip, zip}
use Rattle.rz_disk.specs.Images.{Only, Within}
use Rattle.rz_disk.specs.Meter.{Meter, Rises, faults}
use Rattle.rz_disk.specs.UnderFuse.{UnderFuse, fused_meter}
use Rattle.mj_angles.specs.declared.layout.Layout.{Layout}
use Rattle.rz_events.specs.declared.files.NodeSpec.{NodeSpec}
use Rattle.rz_events.specs.declared.nodes.OpenFault.{OpenFault}
use Rattle.rz_events.specs.declared.nodes.OpenFault.TheVariants as fault
use Rattle.rz_nodes.specs.declared.formatting.Server.{Server}
use Rattle.rz_nodes.specs.Formatted.{disks_of, geometry_of}
use Rattle.rz_cells_slots.specs.declared.geometry.Geometry.{Geometry}
use Rattle.rz_cells_slots.specs.Held.{Records}
use Rattle.rz_cells_slots.specs.Opening.{NotSize, Refuses}
use Rattle.rz_cells_slots.specs.Shape.{disk_bytes}
use Rattle.rz_cells_slots.specs.Stands.{StandsFor}
use Rattle.rz_node_model.specs.States.{opened}
use Rattle.rz_node.specs.View.{NodeView}
use Rattle.rz_node.specs.HeldOnDisk.{IsHeldOnDisk}
use Rattle.rz_nodes.specs.Opened.{AreDisksBack, IsCause, IsFaultOf, IsFirstUnopened, IsDiskBack, IsNodeOpened, refusal_at}

-- two lists in one

pub zip-count : {A B : Type 0} (xs : List A) (ys : List B) → length ys ≡ length xs → length (zip xs ys) ≡ length xs
zip-count [] [] count = refl
zip-count [] (y ∷ ys) count = refl
zip-count (x ∷ xs) [] count = absurd (omega (arith, count))
zip-count (x ∷ xs) (y ∷ ys) count = ap suc (zip-count xs ys (omega (arith, count)))

pub zip-at : {A B : Type 0} (xs : List A) (ys : List B) (i : ℕ) (x : A) (y : B) → length ys ≡ length xs → i < length xs → get_or (zip xs ys) i (x, y) ≡ (get_or xs i x, get_or ys i y)
zip-at [] ys i x y count low = absurd (omega (arith, low))
zip-at (a ∷ xs) [] i x y count low = absurd (omega (arith, count))
zip-at (a ∷ xs) (b ∷ ys) zero x y count low = refl
zip-at (a ∷ xs) (b ∷ ys) (suc i) x y count low = zip-at xs ys i x y (omega (arith, count)) (omega (arith, low))

pub there-at : {A : Type 0} (xs : List A) (i : ℕ) (x : A) → i < length xs → slice_get xs i ≡ Some (get_or xs i x)
there-at [] i x low = absurd (omega (arith, low))
there-at (a ∷ xs) zero x low = refl
there-at (a ∷ xs) (suc i) x low = there-at xs i x (omega (arith, low))

-- what is so of each element beside a list is so without the list
pub zip-second : {N D : Type 0} (Q : D → D → Type 0) (ns : List N) (ds back : List D) → length ds ≡ length ns → AllZip (λ (p : N × D). Q p.1) (zip ns ds) back → AllZip Q ds back
zip-second Q [] [] [] count all = tt
zip-second Q [] [] (b ∷ back) count all = absurd all
zip-second Q [] (d ∷ ds) back count all = absurd (omega (arith, count))
zip-second Q (n ∷ ns) [] back count all = absurd (omega (arith, count))
zip-second Q (n ∷ ns) (d ∷ ds) [] count all = absurd all
zip-second Q (n ∷ ns) (d ∷ ds) (b ∷ back) count all = (all.0, zip-second Q ns ds back (omega (arith, count)) all.1)

pub take-front : {A : Type 0} (xs ys zs : List A) (i : ℕ) → zs ≡ xs ++ ys → length xs ≡ i → take i zs ≡ xs
take-front xs ys zs i is long = ap (λ (n : ℕ). take n zs) (sym long) ∙ ap (take (length xs)) is ∙ take-append_seam xs ys

-- what rises only by a plan does not rise where no plan is
zero-still : (old new : ℕ) → old ≡ 0 → (old < new → ⊥) → new ≡ 0
zero-still old zero none still = refl
zero-still old (suc n) none still = absurd (still (omega (arith, none)))

none-armed : (fuse : Option ℕ) (P : ℕ → Type 0) → fuse ≡ None → ((n : ℕ) × (fuse ≡ Some n) × P n) → ⊥
none-armed fuse P none armed = let wrong : None ≡ Some armed.0 = sym none ∙ armed.1 in absurd (cc)

-- a fault as a refusal
pub cause-of : {D : Type 0} (tells : Bool) (meter : D → Meter) (text : D → List ℕ) (image : D → List ℕ → Type 0) (layout : Layout) (nodes : List NodeSpec) (losses : List ℕ) (disks back : List D) (index : ℕ) (why : OpenFault)
    → IsFirstUnopened tells meter text image layout nodes losses disks back index why → IsCause tells meter text image layout nodes losses disks back (refusal_at why index)
cause-of tells meter text image layout nodes losses disks back index fault.NoMemory first = tt
cause-of tells meter text image layout nodes losses disks back index (fault.WrongSize have need) first = (fault.WrongSize have need, (λ is. cc), refl, first)
cause-of tells meter text image layout nodes losses disks back index fault.DiskFault first = (fault.DiskFault, (λ is. cc), refl, first)
cause-of tells meter text image layout nodes losses disks back index fault.Unformatted first = (fault.Unformatted, (λ is. cc), refl, first)
cause-of tells meter text image layout nodes losses disks back index (fault.BadHeader field value) first = (fault.BadHeader field value, (λ is. cc), refl, first)
cause-of tells meter text image layout nodes losses disks back index (fault.Damaged cell) first = (fault.Damaged cell, (λ is. cc), refl, first)
cause-of tells meter text image layout nodes losses disks back index (fault.Twice one two) first = (fault.Twice one two, (λ is. cc), refl, first)

module _ {D : Type 0} (tells : Bool) (meter : D → Meter) (text : D → List ℕ) (image : D → List ℕ → Type 0) (layout : Layout) where
  -- a disk that was opened is kept
  pub opened-kept : (h : (NodeSpec × ℕ) × D) (s : Server (UnderFuse D)) → IsNodeOpened tells meter text image layout h s → IsDiskBack meter text image h.1 s.node.disk.disk
  opened-kept h s is = record { count = is.count; same = is.same; images = is.images }

  -- the disks so far and those behind the one that failed are in the row that comes back
  pub first-at : (nodes : List NodeSpec) (losses : List ℕ) (disks back rest : List D) (servers : List (Server (UnderFuse D))) (done later : List ((NodeSpec × ℕ) × D)) (index : ℕ)
      → zip (zip nodes losses) disks ≡ done ++ later → length done ≡ index → AllZip (IsNodeOpened tells meter text image layout) done servers → length servers ≡ index → back ≡ disks_of servers ++ rest
      → (made : List (Server (UnderFuse D))) × AllZip (IsNodeOpened tells meter text image layout) (take index (zip (zip nodes losses) disks)) made × (take index back ≡ disks_of made)
  first-at nodes losses disks back rest servers done later index is long all count back_is = (
    servers,
    subst (λ (ps : List ((NodeSpec × ℕ) × D)). AllZip (IsNodeOpened tells meter text image layout) ps servers) (sym (take-front done later _ index is long)) all,
    take-front (disks_of servers) rest back index back_is (length-map servers (λ (s : Server (UnderFuse D)). s.node.disk.disk) ∙ count),
  )

-- One disk is opened in a new fuse.
module _ {D : Type 0} (tells : Bool) (meter : D → Meter) (text : D → List ℕ) (layout : Layout) (node : NodeSpec) (disk : D) (g : Geometry) (f : UnderFuse D) (same : g ≡ geometry_of layout node) (new_fuse : f ≡ record { disk = disk; fuse = None; planned = 0 }) where
  below : f.disk ≡ disk
  below = ap (λ (u : UnderFuse D). u.disk) new_fuse

  free : f.fuse ≡ None
  free = ap (λ (u : UnderFuse D). u.fuse) new_fuse

  -- no fault is planned
  unplanned : (u : UnderFuse D) (k : ℕ) → (f.planned < u.planned → (n : ℕ) × (f.fuse ≡ Some n) × (n < k)) → u.planned ≡ 0
  unplanned u k only = zero-still f.planned u.planned (ap (λ (x : UnderFuse D). x.planned) new_fuse) (λ rises. none-armed f.fuse (λ n. n < k) free (only rises))

  pub opened-one : (image : D → List ℕ → Type 0) (losses k : ℕ) (n : NodeView (UnderFuse D))
      → n.state ≡ opened losses n.state.fence n.state.held → n.geometry ≡ g
      → (IsTrue tells → (records : Records) × StandsFor g n.state.fence (text n.disk.disk) records)
      → (IsTrue tells → (records : Records) → StandsFor g n.state.fence (text n.disk.disk) records → IsHeldOnDisk n.state.held records)
      → Only (text n.disk.disk) (image n.disk.disk) → text n.disk.disk ≡ text f.disk → length (text f.disk) ≡ disk_bytes g → Within (image f.disk) (image n.disk.disk)
      → (f.fuse ≡ None → n.disk.fuse ≡ None) → (f.planned < n.disk.planned → (m : ℕ) × (f.fuse ≡ Some m) × (m < k)) → faults (meter f.disk) ≤ faults (meter n.disk.disk)
      → IsNodeOpened tells meter text image layout ((node, losses), disk) (record { sid = node.sid; node = n; pick = 0 })
  opened-one image losses k n state geometry stands shows settled told sized within unarmed only counted = record {
    number = refl;
    geometry = geometry ∙ same;
    state = state;
    pick = refl;
    unarmed = unarmed free;
    unplanned = unplanned n.disk k only;
    count = subst (λ (d : D). faults (meter d) ≤ faults (meter n.disk.disk)) below counted;
    same = told ∙ ap text below;
    size = subst (λ (x : Geometry). length (text disk) ≡ disk_bytes x) same (subst (λ (d : D). length (text d) ≡ disk_bytes g) below sized);
    images = subst (λ (d : D). Within (image d) (image n.disk.disk)) below within;
    stands = subst (λ (x : Geometry). IsTrue tells → (records : Records) × StandsFor x n.state.fence (text n.disk.disk) records) same stands;
    shows = subst (λ (x : Geometry). IsTrue tells → (records : Records) → StandsFor x n.state.fence (text n.disk.disk) records → IsHeldOnDisk n.state.held records) same shows;
    settled = settled;
  }

  pub fault-one : (k : ℕ) (u : UnderFuse D) (back : D) (why : OpenFault) → back ≡ u.disk
      → (IsTrue tells → Refuses g (text f.disk) why)
      → ((have need : ℕ) → why ≡ fault.WrongSize have need → Refuses g (text f.disk) (fault.WrongSize have need))
      → (NotSize why → length (text f.disk) ≡ disk_bytes g)
      → (IsTrue tells → (fence : ℕ) (held : Records) → StandsFor g fence (text f.disk) held → (why ≡ fault.NoMemory) ⊎ (why ≡ fault.DiskFault))
      → (f.planned < u.planned → (m : ℕ) × (f.fuse ≡ Some m) × (m < k))
      → (why ≡ fault.DiskFault → Rises (faults (fused_meter meter f)) (faults (fused_meter meter u)))
      → IsFaultOf tells meter text layout node disk back why
  fault-one k u back why is refused size fits exact only risen =
      let still : u.planned ≡ 0 = unplanned u k only in
      let none : f.planned ≡ 0 = ap (λ (x : UnderFuse D). x.planned) new_fuse in
      let before : faults (fused_meter meter f) ≡ faults (meter disk) = (let zero' : faults (fused_meter meter f) ≡ faults (meter f.disk) = omega (arith, none) in zero' ∙ ap (λ (d : D). faults (meter d)) below) in
      let after : faults (fused_meter meter u) ≡ faults (meter back) = (let zero' : faults (fused_meter meter u) ≡ faults (meter u.disk) = omega (arith, still) in zero' ∙ ap (λ (d : D). faults (meter d)) (sym is)) in
      record {
        refused = λ told. subst (λ (x : Geometry). Refuses x (text disk) why) same (subst (λ (d : D). Refuses g (text d) why) below (refused told));
        size = λ have need wrong. subst (λ (x : Geometry). Refuses x (text disk) (fault.WrongSize have need)) same (subst (λ (d : D). Refuses g (text d) (fault.WrongSize have need)) below (size have need wrong));
        fits = λ not. subst (λ (x : Geometry). length (text disk) ≡ disk_bytes x) same (subst (λ (d : D). length (text d) ≡ disk_bytes g) below (fits not));
        exact = λ told fence held stands. exact told fence held (subst (λ (d : D). StandsFor g fence (text d) held) (sym below) (subst (λ (x : Geometry). StandsFor x fence (text disk) held) (sym same) stands));
        risen = λ failed. subst (λ (x : ℕ). Rises x (faults (meter back))) before (subst (λ (x : ℕ). Rises (faults (fused_meter meter f)) x) after (risen failed));
      }

module _ {D : Type 0} (meter : D → Meter) (text : D → List ℕ) (image : D → List ℕ → Type 0) where
  -- and one that was not touched
  pub same-kept : (d : D) → IsDiskBack meter text image d d
  same-kept d = record { count = omega arith; same = refl; images = λ c is. is }

  -- disks that nobody touched
  pub untouched : (disks : List D) → AreDisksBack meter text image disks disks
  untouched [] = tt
  untouched (d ∷ ds) = (same-kept d, untouched ds)
