-- Disks beside a log that grows.
use Rattle.std.proofs.Common.{◌≡◌, ℕ, zero, suc, ◌-◌, ◌^◌, ◌<◌, ◌≤◌, Bool, true, false, cond, nat_eq, List, [], ◌∷◌, ◌++◌, length, Option, Some, None, refl, sym, ◌∙◌, ap, subst, arith}
use Rattle.std.specs.Prelude.{◌==◌, slice_get, slice_set, Result, Ok, Err, OnOk, OnErr}
use Rattle.std.specs.List.{AllByRecursion, IsDistinct}
use Rattle.std.proofs.Math.Path.{fun_ext}
use Rattle.std.proofs.lemmas.Bool.{eqb-true, eq-eqb}
use Rattle.std.proofs.lemmas.List.{append_assoc}
use Rattle.std.proofs.lemmas.Map.Keys.{IsDistinct-head, IsDistinct-tail}
use Rattle.rz_disk.specs.UnderFuse.{UnderFuse}
use Rattle.rz_events.specs.Volume.{Volume}
use Rattle.rz_events.specs.declared.events.Word.TheVariants.{Node}
use Rattle.rz_events.specs.declared.events.Event.{Event}
use Rattle.rz_node_model.specs.States.{NodeState}
use Rattle.rz_cells_slots.specs.declared.geometry.Geometry.{Geometry}
use Rattle.rz_node.specs.View.{NodeView}
use Rattle.rz_core.specs.History.{Facts, facts, of_word}
use Rattle.rz_core.specs.Tied.{IsNode}
use Rattle.rz_play.specs.Lines.{noted}
use Rattle.rz_node_laws.specs.Images.{AreImages, IsImaged}
use Rattle.rz_node_laws.specs.Laws.{IsLongerLaw, IsLogLaw}
use Rattle.rz_nodes.specs.declared.formatting.Server.{Server}
use Rattle.rz_driver_nodes.specs.Images.{HasImages, AreImaged, IsServerRight, AreDisksImaged, fused_image}
use Rattle.rz_driver_nodes.specs.Servers.{state_in, numbers_of}
use Rattle.rz_nodes.specs.Formatted.{disks_of}
use Rattle.rz_driver_nodes.proofs.Rows.{all-set, all-at}

-- ---- what follows from two facts of a result

pub both-ok : {T E P Q R : Type 0} (r : Result T E) → (P → Q → R) → OnOk r P → OnOk r Q → OnOk r R
both-ok (Ok x) f p q = f p q
both-ok (Err e) f p q = tt

pub three-ok : {T E P Q R S : Type 0} (r : Result T E) → (P → Q → R → S) → OnOk r P → OnOk r Q → OnOk r R → OnOk r S
three-ok (Ok x) f p q s = f p q s
three-ok (Err e) f p q s = tt

pub three-err : {T E P Q R S : Type 0} (r : Result T E) → (P → Q → R → S) → OnErr r P → OnErr r Q → OnErr r R → OnErr r S
three-err (Ok x) f p q s = tt
three-err (Err e) f p q s = f p q s

pub on-err : {T E P : Type 0} (r : Result T E) → P → OnErr r P
on-err (Ok x) p = tt
on-err (Err e) p = p

-- ---- logs

-- a log that has some events more
abbrev pub GrowsBy : List Event → List Event → Type 0
GrowsBy h h' = (more : List Event) × (h' ≡ more ++ h)

long-append : (more h : List Event) → length h ≤ length (more ++ h)
long-append [] h = omega arith
long-append (x ∷ more) h = let l = long-append more h in omega (arith, l)

pub grown-short : (h h' : List Event) → GrowsBy h h' → length h' < 2 ^ 64 - 1 → length h < 2 ^ 64 - 1
grown-short h h' (more, is) few =
    let l = long-append more h in
    let same : length h' ≡ length (more ++ h) = ap (λ (k : List Event). length k) is in
    omega (arith, l, same, few)

pub noted-grows : (o : Option Event) (h h' : List Event) → h' ≡ noted o h → GrowsBy h h'
noted-grows None h h' is = ([], is)
noted-grows (Some x) h h' is = (x ∷ [], is)

-- and has them behind the log of earlier runs
pub grows-behind : (old h h' : List Event) → GrowsBy h h' → GrowsBy (h ++ old) (h' ++ old)
grows-behind old h h' (more, is) = (more, ap (λ (k : List Event). k ++ old) is ∙ append_assoc more h old)

-- ---- rows

module _ {A : Type 0} (P Q : A → Type 0) where
  pub all-then : (xs : List A) → ((x : A) → P x → Q x) → AllByRecursion P xs → AllByRecursion Q xs
  all-then [] each all = tt
  all-then (x ∷ xs) each all = (each x all.0, all-then xs each all.1)

-- ---- disks

module _ {D : Type 0} (image : D → List ℕ → Type 0) where
  module _ (longer : IsLongerLaw image) (v : Volume) (h h' : List Event) (grown : GrowsBy h h') where
    pub node-longer : (n : ℕ) (node : NodeView D) → HasImages image v (facts h) n node → HasImages image v (facts h') n node
    node-longer n node has = record {
      geometry = has.geometry;
      images = subst (λ (k : List Event). IsImaged v (facts k) n node.state node.geometry (image node.disk)) (sym grown.1) (longer v h grown.0 n node.geometry node.state node.disk has.images);
    }

    pub row-longer : (row : List (Server D)) → AreImaged image v (facts h) row → AreImaged image v (facts h') row
    row-longer row all =
        all-then (λ (s : Server D). HasImages image v (facts h) s.sid s.node) (λ (s : Server D). HasImages image v (facts h') s.sid s.node) row
        (λ (s : Server D) has. node-longer s.sid s.node has) all

  module _ (v : Volume) (f : Facts) where
    pub row-set : (row : List (Server D)) (place : ℕ) (s : Server D) → AreImaged image v f row → HasImages image v f s.sid s.node → AreImaged image v f (slice_set row place s)
    row-set row place s all has = all-set (λ (t : Server D). HasImages image v f t.sid t.node) row place s all has

    pub row-at : (row : List (Server D)) (place : ℕ) (s : Server D) → slice_get row place ≡ Some s → AreImaged image v f row → HasImages image v f s.sid s.node
    row-at row place s is all = all-at (λ (t : Server D). HasImages image v f t.sid t.node) row place s all is

unlike : (n m : ℕ) → nat_eq m n ≡ false → (n == m) ≡ false
unlike n m apart = go (n == m) refl
  where
    go : (b : Bool) → (n == m) ≡ b → (n == m) ≡ false
    go false is = is
    go true is = let same : nat_eq m n ≡ true = eq-eqb m n (sym (eqb-true n m is)) in absurd (cc)

module _ {D : Type 0} where
  the-one : (x s : Server D) → Some x ≡ Some s → x ≡ s
  the-one x s is = cc

  state-stays : (row : List (Server D)) (place : ℕ) (s s' : Server D) → slice_get row place ≡ Some s → s'.sid ≡ s.sid → s'.node.state ≡ s.node.state → (m : ℕ) → state_in (slice_set row place s') m ≡ state_in row m
  state-stays [] place s s' at sid state m = refl
  state-stays (x ∷ row) zero s s' at sid state m =
      let here = sym (the-one x s at) in
      let named : s'.sid ≡ x.sid = sid ∙ ap (λ (t : Server D). t.sid) here in
      let same : s'.node.state ≡ x.node.state = state ∙ ap (λ (t : Server D). t.node.state) here in
      λ i. cond (m == named i) (same i) (state_in row m)
  state-stays (x ∷ row) (suc place) s s' at sid state m = ap (cond (m == x.sid) x.node.state) (state-stays row place s s' at sid state m)

  -- where a node keeps its state, all do
  pub states-stay : (row : List (Server D)) (place : ℕ) (s s' : Server D) → slice_get row place ≡ Some s → s'.sid ≡ s.sid → s'.node.state ≡ s.node.state → state_in (slice_set row place s') ≡ state_in row
  states-stay row place s s' at sid state = fun_ext (state-stays row place s s' at sid state)

  -- each node of a row without a number twice has the state of its number
  behind : (x : Server D) (more row : List (Server D)) → AllByRecursion (λ m. nat_eq x.sid m ≡ false) (numbers_of row) → AllByRecursion (λ (s : Server D). state_in more s.sid ≡ s.node.state) row
      → AllByRecursion (λ (s : Server D). state_in (x ∷ more) s.sid ≡ s.node.state) row
  behind x more [] apart all = tt
  behind x more (s ∷ row) apart all = (ap (λ b. cond b x.node.state (state_in more s.sid)) (unlike s.sid x.sid apart.0) ∙ all.0, behind x more row apart.1 all.1)

  own-states : (row : List (Server D)) → IsDistinct nat_eq (numbers_of row) → AllByRecursion (λ (s : Server D). state_in row s.sid ≡ s.node.state) row
  own-states [] apart = tt
  own-states (x ∷ more) apart = (
    ap (λ b. cond b x.node.state (state_in more x.sid)) (eq-eqb x.sid x.sid refl),
    behind x more more (IsDistinct-head nat_eq x.sid (numbers_of more) apart) (own-states more (IsDistinct-tail nat_eq x.sid (numbers_of more) apart)),
  )

  rights : (image : D → List ℕ → Type 0) (v : Volume) (h : List Event) (states : ℕ → NodeState) → ((n : ℕ) → IsNode (facts h) (of_word (Node n) h) (states n))
      → (row : List (Server D)) → AllByRecursion (λ (s : Server D). states s.sid ≡ s.node.state) row → AreImaged image v (facts h) row → AllByRecursion (IsServerRight image v h) row
  rights image v h states are [] own all = tt
  rights image v h states are (s ∷ row) own all = (
    record { images = all.0; state = subst (IsNode (facts h) (of_word (Node s.sid) h)) own.0 (are s.sid) },
    rights image v h states are row own.1 all.1,
  )

  -- the states are those of the log
  pub are-right : (image : D → List ℕ → Type 0) (v : Volume) (h : List Event) (states : ℕ → NodeState) → ((n : ℕ) → IsNode (facts h) (of_word (Node n) h) (states n))
      → (row : List (Server D)) → state_in row ≡ states → IsDistinct nat_eq (numbers_of row) → AreImaged image v (facts h) row → AllByRecursion (IsServerRight image v h) row
  are-right image v h states are row same apart all =
      rights image v h (state_in row) (λ n. subst (λ (t : ℕ → NodeState). IsNode (facts h) (of_word (Node n) h) (t n)) (sym same) (are n)) row (own-states row apart) all

-- the disks that are handed back
pub disks-imaged : {D : Type 0} (image : D → List ℕ → Type 0) → IsLogLaw image → (v : Volume) (h : List Event) (row : List (Server (UnderFuse D))) → AllByRecursion (IsServerRight (fused_image image) v h) row
    → AreDisksImaged image v (numbers_of row) (disks_of row) h
disks-imaged image law v h [] all = tt
disks-imaged image law v h (s ∷ row) all =
    let r = all.0 in (
      subst (λ (g : Geometry). AreImages v (facts h) (of_word (Node s.sid) h) s.sid g (image s.node.disk.disk)) r.images.geometry
          (law v (facts h) (of_word (Node s.sid) h) s.sid s.node.geometry s.node.state s.node.disk.disk r.state r.images.images),
      disks-imaged image law v h row all.1,
    )
