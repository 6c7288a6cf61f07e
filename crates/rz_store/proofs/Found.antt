-- The node of a number in a volume.
use Rattle.std.proofs.Common.{zero, suc, ◌≡◌, refl, ℕ, ◌+◌, ◌<◌, ◌==◌, inl, inr, Bool, true, false, cond, Option, Some, None, List, [], ◌∷◌, ◌++◌, length, map, drop, get_or, sym, ◌∙◌, ap, arith}
use Rattle.std.specs.Prelude.{IsTrue, is_some, ◌↔◌}
use Rattle.std.specs.List.{find}
use Rattle.std.proofs.lemmas.Bool.{eqb-true, eq-eqb}
use Rattle.rz_events.specs.Volume.{Volume, Cluster, nodes_of}
use Rattle.rz_events.specs.declared.files.NodeSpec.{NodeSpec}
use Rattle.rz_node_model.specs.Versions.{Stands}
use Rattle.rz_core.specs.NodeRows.{cells_among, IsNodeOf}
use Rattle.rz_store.specs.Nodes.{spec_in}

-- Lists one after another.

-- where one alternative leads to a fact, so does the choice
some-then : {A : Type 0} (b : Bool) (z x : A) (y y' : Option A) → (y ≡ Some x → y' ≡ Some x) → cond b (Some z) y ≡ Some x → cond b (Some z) y' ≡ Some x
some-then true z x y y' f is = is
some-then false z x y y' f is = f is

none-then : {A : Type 0} (b : Bool) (z : A) (y y' w : Option A) → (y ≡ None → y' ≡ w) → cond b (Some z) y ≡ None → cond b (Some z) y' ≡ w
none-then true z y y' w f is = absurd (cc)
none-then false z y y' w f is = f is

pub find-first : {A : Type 0} (test : A → Bool) (xs ys : List A) (x : A) → find test xs ≡ Some x → find test (xs ++ ys) ≡ Some x
find-first test [] ys x is = absurd (cc)
find-first test (z ∷ zs) ys x is = some-then (test z) z x (find test zs) (find test (zs ++ ys)) (find-first test zs ys x) is

pub find-second : {A : Type 0} (test : A → Bool) (xs ys : List A) → find test xs ≡ None → find test (xs ++ ys) ≡ find test ys
find-second test [] ys is = refl
find-second test (z ∷ zs) ys is = none-then (test z) z (find test zs) (find test (zs ++ ys)) (find test ys) (find-second test zs ys) is

drop-item : {A : Type 0} (xs : List A) (k : ℕ) (x : A) → k < length xs → x ≡ get_or xs k x → drop k xs ≡ x ∷ drop (k + 1) xs
drop-item [] k x lt is = absurd (omega arith)
drop-item (y ∷ ys) zero x lt is = ap (λ (z : _). z ∷ ys) (sym is)
drop-item (y ∷ ys) (suc k) x lt is =
    let next : suc (k + 1) ≡ suc k + 1 = omega arith in
    drop-item ys k x (omega arith) is ∙ ap (λ (n : ℕ). x ∷ drop n (y ∷ ys)) next

-- the nodes from a cluster on
pub nodes-from : (items : List Cluster) (k : ℕ) (item : Cluster) → k < length items → item ≡ get_or items k item → nodes_of (drop k items) ≡ item.nodes ++ nodes_of (drop (k + 1) items)
nodes-from items k item lt is = ap nodes_of (drop-item items k item lt is)

-- What was found.

module _ (n : ℕ) where
  abbrev test : NodeSpec → Bool
  test spec = spec.sid == n

  abbrev Numbers : List NodeSpec → List ℕ
  Numbers specs = map (λ (spec : NodeSpec). spec.sid) specs

  -- this one, or one of the others
  there-or : (s spec : NodeSpec) (specs : List NodeSpec) (b : Bool) → (s.sid == n) ≡ b → (find (λ (z : NodeSpec). z.sid == n) specs ≡ Some spec → Stands n (Numbers specs))
      → cond b (Some s) (find (λ (z : NodeSpec). z.sid == n) specs) ≡ Some spec → Stands n (Numbers (s ∷ specs))
  there-or s spec specs true one others is = inl (eqb-true s.sid n one)
  there-or s spec specs false other others is = inr (others is)

  pub found-there : (specs : List NodeSpec) (spec : NodeSpec) → find (λ (s : NodeSpec). s.sid == n) specs ≡ Some spec → Stands n (Numbers specs)
  found-there [] spec is = absurd (cc)
  found-there (s ∷ specs) spec is = there-or s spec specs (s.sid == n) refl (found-there specs spec) is

  cells-or : (s spec : NodeSpec) (o : Option NodeSpec) (others : ℕ) (b : Bool) → (o ≡ Some spec → spec.cells ≡ others) → cond b (Some s) o ≡ Some spec → spec.cells ≡ cond b s.cells others
  cells-or s spec o others true rest is = (let one : s ≡ spec = cc in ap (λ (z : NodeSpec). z.cells) (sym one))
  cells-or s spec o others false rest is = rest is

  pub found-cells : (specs : List NodeSpec) (spec : NodeSpec) → find (λ (s : NodeSpec). s.sid == n) specs ≡ Some spec → spec.cells ≡ cells_among specs n
  found-cells [] spec is = absurd (cc)
  found-cells (s ∷ specs) spec is = cells-or s spec (find (λ (z : NodeSpec). z.sid == n) specs) (cells_among specs n) (s.sid == n) (found-cells specs spec) is

  none-or : (s : NodeSpec) (specs : List NodeSpec) (b : Bool) → (s.sid == n) ≡ b → (find (λ (z : NodeSpec). z.sid == n) specs ≡ None → ¬ Stands n (Numbers specs))
      → cond b (Some s) (find (λ (z : NodeSpec). z.sid == n) specs) ≡ None → ¬ Stands n (Numbers (s ∷ specs))
  none-or s specs true one others is = absurd (cc)
  none-or s specs false other others is = λ there. elim there [ inl same ↦ absurd (let yes = eq-eqb s.sid n same in cc) | inr more ↦ others is more ]

  pub none-there : (specs : List NodeSpec) → find (λ (s : NodeSpec). s.sid == n) specs ≡ None → ¬ Stands n (Numbers specs)
  none-there [] is = λ there. there
  none-there (s ∷ specs) is = none-or s specs (s.sid == n) refl (none-there specs) is

pub node-had : (v : Volume) (n : ℕ) (o : Option NodeSpec) → o ≡ spec_in v n → (b : Bool) → b ≡ is_some o → IsTrue b ↔ IsNodeOf v n
node-had v n (Some spec) is b some = (λ yes. found-there n (nodes_of v.clusters) spec (sym is), λ of. some)
node-had v n None is b some = (λ yes. absurd (cc), λ of. absurd (none-there n (nodes_of v.clusters) (sym is) of))
