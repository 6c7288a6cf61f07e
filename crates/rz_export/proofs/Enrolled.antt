-- Kept nodes that change one by one.
use Rattle.std.proofs.Common.{◌≡◌, ℕ, is_some, Bool, true, false, cond, ◌||◌, List, [], ◌∷◌, map, Option, Some, None, sym, ap, ◌∙◌, refl, eqb-true, eq-eqb}
use Rattle.std.specs.Prelude.{◌==◌}
use Rattle.std.specs.List.{filter_map, list_any, cons_option}
use Rattle.std.specs.Option.{option_map}
use Rattle.std.specs.Ordering.{nat_cmp, eq_by_cmp}
use Rattle.std.specs.Cmp.{nat_cmp_total, unsigned_tied}
use Rattle.std.specs.FinMap as maps
use Rattle.std.specs.FinMap.{same_map, get-insert, get-from_entries, nat_cmp-IsAntisymmetric}
use Rattle.std.specs.FinMap.Entries.{find}
use Rattle.rz_events.specs.declared.files.NodeSpec.{NodeSpec}
use Rattle.rz_export_model.specs.Export.{Enrolled}
use Rattle.rz_export.specs.declared.nodes.Enrolment.{Enrolment}
use Rattle.rz_export.specs.declared.nodes.KeptNode.{KeptNode}
use Rattle.rz_export.specs.Nodes.{new_node, enrolled_of, enrolled_entry, enrolments_of, with_enrolment}

pub map-same : {X Y : Type 0} (g : X → Y) (f : X → X) → ((x : X) → g (f x) ≡ g x) → (xs : List X) → map g (map f xs) ≡ map g xs
map-same g f same [] = refl
map-same g f same (x ∷ xs) = ap (λ y. y ∷ map g (map f xs)) (same x) ∙ ap (λ ys. g x ∷ ys) (map-same g f same xs)

pub map-undone : {X Y : Type 0} (g : Y → X) (f : X → Y) → ((x : X) → g (f x) ≡ x) → (xs : List X) → map g (map f xs) ≡ xs
map-undone g f same [] = refl
map-undone g f same (x ∷ xs) = ap (λ y. y ∷ map g (map f xs)) (same x) ∙ ap (λ ys. x ∷ ys) (map-undone g f same xs)

pub any-map : {X Y : Type 0} (p : Y → Bool) (f : X → Y) (xs : List X) → list_any p (map f xs) ≡ list_any (λ x. p (f x)) xs
any-map p f [] = refl
any-map p f (x ∷ xs) = ap (λ t. p (f x) || t) (any-map p f xs)

entries-same : (f : KeptNode → KeptNode) → ((n : KeptNode) → enrolled_entry (f n) ≡ enrolled_entry n) → (ns : List KeptNode) → filter_map enrolled_entry (map f ns) ≡ filter_map enrolled_entry ns
entries-same f same [] = refl
entries-same f same (n ∷ ns) =
    ap (λ o. cons_option o (filter_map enrolled_entry (map f ns))) (same n) ∙ ap (cons_option (enrolled_entry n)) (entries-same f same ns)

-- a change of the counts leaves the enrolments
pub enrolments-same : (f : KeptNode → KeptNode) → ((n : KeptNode) → enrolled_entry (f n) ≡ enrolled_entry n) → (ns : List KeptNode) → enrolments_of (map f ns) ≡ enrolments_of ns
enrolments-same f same ns = ap maps.from_entries (entries-same f same ns)

new_entries : (specs : List NodeSpec) → filter_map enrolled_entry (map new_node specs) ≡ []
new_entries [] = refl
new_entries (s ∷ specs) = new_entries specs

-- at first no loss is enrolled
pub enrolments-new : (specs : List NodeSpec) → enrolments_of (map new_node specs) ≡ maps.empty
enrolments-new specs = ap maps.from_entries (new_entries specs)

-- ---- the last enrolment of a node

-- what the entries of some nodes have
abbrev pub found : ℕ → List KeptNode → Option Enrolled
found q ns = find nat_cmp q (filter_map enrolled_entry ns)

pub at-node : (q sid : ℕ) (t : Bool) → (sid == q) ≡ t → eq_by_cmp nat_cmp q sid ≡ t
at-node q sid true is = unsigned_tied q sid ∙ eq-eqb q sid (sym (eqb-true sid q is))
at-node q sid false is = unsigned_tied q sid ∙ go (q == sid) refl
  where
    go : (t : Bool) → (q == sid) ≡ t → t ≡ false
    go true on = let same : (sid == q) ≡ true = eq-eqb sid q (sym (eqb-true q sid on)) in cc
    go false off = refl

-- of another node nothing is found at the first one
pub found-other : (q : ℕ) (n : KeptNode) (ns : List KeptNode) → (n.spec.sid == q) ≡ false → found q (n ∷ ns) ≡ found q ns
found-other q n ns other = go n.enrolled
  where
    go : (o : Option Enrolment) → find nat_cmp q (cons_option (option_map (λ e. (n.spec.sid, enrolled_of e)) o) (filter_map enrolled_entry ns)) ≡ found q ns
    go None = refl
    go (Some e) = ap (λ t. cond t (Some (enrolled_of e)) (found q ns)) (at-node q n.spec.sid false other)

-- a node without an enrolment tells nothing
pub found-none : (q : ℕ) (n : KeptNode) (ns : List KeptNode) → n.enrolled ≡ None → found q (n ∷ ns) ≡ found q ns
found-none q n ns none = ap (λ o. find nat_cmp q (cons_option (option_map (λ (e : Enrolment). (n.spec.sid, enrolled_of e)) o) (filter_map enrolled_entry ns))) none

-- the first enrolment of a node is the one found
pub found-here : (q : ℕ) (n : KeptNode) (ns : List KeptNode) (e : Enrolment) → (n.spec.sid == q) ≡ true → n.enrolled ≡ Some e → found q (n ∷ ns) ≡ Some (enrolled_of e)
found-here q n ns e same some =
    ap (λ o. find nat_cmp q (cons_option (option_map (λ (x : Enrolment). (n.spec.sid, enrolled_of x)) o) (filter_map enrolled_entry ns))) some
    ∙ ap (λ t. cond t (Some (enrolled_of e)) (found q ns)) (at-node q n.spec.sid true same)

module _ (node : ℕ) (e : Enrolment) where
  own_head : (n : KeptNode) → (n.spec.sid == node) ≡ true → with_enrolment node e n ≡ record n { enrolled = Some e }
  own_head n is = ap (λ t. cond t (record n { enrolled = Some e }) n) is

  other_head : (n : KeptNode) → (n.spec.sid == node) ≡ false → with_enrolment node e n ≡ n
  other_head n is = ap (λ t. cond t (record n { enrolled = Some e }) n) is

  found_own : (ns : List KeptNode) → list_any (λ n. n.spec.sid == node) ns ≡ true → found node (map (with_enrolment node e) ns) ≡ Some (enrolled_of e)
  found_own [] any = cc
  found_own (n ∷ ns) any = go (λ more. found_own ns more) (n.spec.sid == node) refl any
    where
      go : (list_any (λ (x : KeptNode). x.spec.sid == node) ns ≡ true → found node (map (with_enrolment node e) ns) ≡ Some (enrolled_of e))
          → (t : Bool) → (n.spec.sid == node) ≡ t → (t || list_any (λ (x : KeptNode). x.spec.sid == node) ns) ≡ true → found node (with_enrolment node e n ∷ map (with_enrolment node e) ns) ≡ Some (enrolled_of e)
      go later true is any = ap (λ x. found node (x ∷ map (with_enrolment node e) ns)) (own_head n is) ∙ found-here node (record n { enrolled = Some e }) (map (with_enrolment node e) ns) e is refl
      go later false is any = ap (λ x. found node (x ∷ map (with_enrolment node e) ns)) (other_head n is) ∙ found-other node n (map (with_enrolment node e) ns) is ∙ later any

  found_others : (q : ℕ) → eq_by_cmp nat_cmp q node ≡ false → (ns : List KeptNode) → found q (map (with_enrolment node e) ns) ≡ found q ns
  found_others q other [] = refl
  found_others q other (n ∷ ns) = go (found_others q other ns) (n.spec.sid == node) refl
    where
      apart : (n.spec.sid == node) ≡ true → (t : Bool) → (n.spec.sid == q) ≡ t → t ≡ false
      apart is true on =
          let same : q ≡ node = sym (eqb-true n.spec.sid q on) ∙ eqb-true n.spec.sid node is in
          let tie : eq_by_cmp nat_cmp q node ≡ true = unsigned_tied q node ∙ eq-eqb q node same in cc
      apart is false off = refl

      step : found q (map (with_enrolment node e) ns) ≡ found q ns → (o : Option Enrolment)
          → find nat_cmp q (cons_option (option_map (λ (x : Enrolment). (n.spec.sid, enrolled_of x)) o) (filter_map enrolled_entry (map (with_enrolment node e) ns)))
          ≡ find nat_cmp q (cons_option (option_map (λ (x : Enrolment). (n.spec.sid, enrolled_of x)) o) (filter_map enrolled_entry ns))
      step later None = later
      step later (Some x) = ap (cond (eq_by_cmp nat_cmp q n.spec.sid) (Some (enrolled_of x))) later

      go : found q (map (with_enrolment node e) ns) ≡ found q ns → (t : Bool) → (n.spec.sid == node) ≡ t → found q (with_enrolment node e n ∷ map (with_enrolment node e) ns) ≡ found q (n ∷ ns)
      go later true is =
          ap (λ x. found q (x ∷ map (with_enrolment node e) ns)) (own_head n is) ∙ found-other q (record n { enrolled = Some e }) (map (with_enrolment node e) ns) (apart is (n.spec.sid == q) refl)
          ∙ later ∙ sym (found-other q n ns (apart is (n.spec.sid == q) refl))
      go later false is = ap (λ x. found q (x ∷ map (with_enrolment node e) ns)) (other_head n is) ∙ step later n.enrolled

  -- the new enrolment stands for the node
  pub enrolments-set : (ns : List KeptNode) → list_any (λ n. n.spec.sid == node) ns ≡ true → enrolments_of (map (with_enrolment node e) ns) ≡ maps.insert (enrolments_of ns) node (enrolled_of e)
  enrolments-set ns any = same_map nat_cmp_total nat_cmp-IsAntisymmetric _ _ (λ q.
      get-from_entries nat_cmp_total (filter_map enrolled_entry (map (with_enrolment node e) ns)) q
      ∙ go q (eq_by_cmp nat_cmp q node) refl
      ∙ ap (λ o. cond (eq_by_cmp nat_cmp q node) (Some (enrolled_of e)) o) (sym (get-from_entries nat_cmp_total (filter_map enrolled_entry ns) q))
      ∙ sym (get-insert nat_cmp_total (enrolments_of ns) node (enrolled_of e) q))
    where
      go : (q : ℕ) (t : Bool) → eq_by_cmp nat_cmp q node ≡ t → found q (map (with_enrolment node e) ns) ≡ cond t (Some (enrolled_of e)) (found q ns)
      go q true on = ap (λ k. found k (map (with_enrolment node e) ns)) (eqb-true q node (sym (unsigned_tied q node) ∙ on)) ∙ found_own ns any
      go q false off = found_others q off ns

  spec-same : (n : KeptNode) → (with_enrolment node e n).spec ≡ n.spec
  spec-same n = go (n.spec.sid == node)
    where
      go : (t : Bool) → (cond t (record n { enrolled = Some e }) n).spec ≡ n.spec
      go true = refl
      go false = refl

  used-same : (n : KeptNode) → (with_enrolment node e n).used ≡ n.used
  used-same n = go (n.spec.sid == node)
    where
      go : (t : Bool) → (cond t (record n { enrolled = Some e }) n).used ≡ n.used
      go true = refl
      go false = refl

  pub specs-set : (ns : List KeptNode) → map (λ n. n.spec) (map (with_enrolment node e) ns) ≡ map (λ n. n.spec) ns
  specs-set ns = map-same (λ (n : KeptNode). n.spec) (with_enrolment node e) spec-same ns

  pub use-set : (f : NodeSpec → ℕ) (n : KeptNode) → n.used ≡ f n.spec → (with_enrolment node e n).used ≡ f (with_enrolment node e n).spec
  use-set f n is = used-same n ∙ is ∙ ap f (sym (spec-same n))

-- a node with an enrolment that is asked for stands first
pub found-first : (q : ℕ) (n : KeptNode) (ns : List KeptNode) → n.spec.sid ≡ q → is_some n.enrolled ≡ true → option_map enrolled_of n.enrolled ≡ found q (n ∷ ns)
found-first q n ns same there = go n.enrolled refl there
  where
    go : (o : Option Enrolment) → n.enrolled ≡ o → is_some o ≡ true → option_map enrolled_of o ≡ found q (n ∷ ns)
    go None is there = cc
    go (Some e) is there = sym (found-here q n ns e (eq-eqb n.spec.sid q same) is)

pub found-get : (ns : List KeptNode) (q : ℕ) → maps.get (enrolments_of ns) q ≡ found q ns
found-get ns q = get-from_entries nat_cmp_total (filter_map enrolled_entry ns) q
