-- A tree to which a part is added.
use Rattle.std.proofs.Common.{◌≡◌, ℕ, zero, suc, ◌<◌, ◌≤◌, ◌⊎◌, Bool, true, false, cond, [], Option, Some, None, is_some, sym, ap, ◌∙◌, subst, refl, arith, inl, inr}
use Rattle.std.specs.Option.{option_map, option_map_or}
use Rattle.std.specs.Ordering.{nat_cmp, eq_by_cmp}
use Rattle.std.specs.declared.cmp.Ordering.TheVariants.{Less, Greater}
use Rattle.std.specs.Cmp.{nat_cmp_total, nat_cmp_is}
use Rattle.std.specs.FinMap as maps
use Rattle.std.specs.FinMap.{FinMap, nat_cmp-IsAntisymmetric}
use Rattle.rz_events.specs.declared.files.Kind.{Kind}
use Rattle.rz_events.specs.declared.files.Kind.TheVariants.{File, Dir, Link}
use Rattle.rz_export_model.specs.Paths.{Path, path_cmp}
use Rattle.rz_export_model.specs.Tree.{Tree, Object, is_at, is_dir, paths_to, new_dir, with_object}
use Rattle.rz_tree.specs.declared.inodes.Inode.{Inode}
use Rattle.rz_tree.specs.Inodes.{Table, object_of, objects_of}
use Rattle.rz_tree.specs.Trees.{tree_of, IsTree, IsKept}
use Rattle.rz_tree.specs.Added.{with_given, FitsKind, IsFirstObject, IsNextObject, IsNextName}
use Rattle.rz_tree.proofs.Keys.{same_some, not_none, false-true, one-or-two, apart, get-inserted, get-beside}
use Rattle.rz_tree.proofs.Tables.{get-objects, objects-insert}
use Rattle.rz_tree.proofs.Counts.{no-path}
use Rattle.rz_tree.proofs.Rules.{dir-found, dir-is, from-map}
use Rattle.rz_tree.proofs.Lasts.{behind-less}

-- ---- an object to which no path leads yet

module _ (names : FinMap path_cmp ℕ) (table : Table) (made : ℕ) (kept : IsKept names table made) (fid : ℕ) (i : Inode)
    (fresh : maps.get table fid ≡ None) (given : fid ≤ made) (unnamed : i.links ≡ 0) where
  abbrev after : Table
  after = maps.insert table fid i

  no_object : maps.get (objects_of table) fid ≡ None
  no_object = get-objects table fid ∙ ap (option_map object_of) fresh

  another : (f : ℕ) → is_some (maps.get (objects_of table) f) ≡ true → eq_by_cmp nat_cmp f fid ≡ false
  another f there = apart nat_cmp_total nat_cmp-IsAntisymmetric f fid (λ same. false-true (sym (ap is_some no_object) ∙ ap (λ n. is_some (maps.get (objects_of table) n)) (sym same) ∙ there))

  unled : (q : Path) → maps.get names q ≡ Some fid → ⊥
  unled q at = false-true (sym (ap is_some no_object) ∙ kept.tree.leads q fid at)

  beside : (f : ℕ) → eq_by_cmp nat_cmp f fid ≡ false → maps.get (objects_of after) f ≡ maps.get (objects_of table) f
  beside f other = get-objects after f ∙ ap (option_map object_of) (get-beside nat_cmp_total nat_cmp-IsAntisymmetric table fid i f other) ∙ sym (get-objects table f)

  there_still : (f : ℕ) → is_some (maps.get (objects_of table) f) ≡ true → is_some (maps.get (objects_of after) f) ≡ true
  there_still f there = ap is_some (beside f (another f there)) ∙ there

  dir_stays : (q : Path) → is_at (tree_of names table made) q is_dir ≡ true → is_at (tree_of names after made) q is_dir ≡ true
  dir_stays q h =
      let d = dir-found (tree_of names table made) q h in
      dir-is (tree_of names after made) q (record {
        fid = d.fid;
        object = d.object;
        at = d.at;
        is = beside d.fid (another d.fid (ap is_some d.is)) ∙ d.is;
        dir = d.dir;
      })

  no_names : paths_to names fid ≡ 0
  no_names = no-path names fid unled

  pub given-kept : IsKept names after made
  given-kept = record {
    tree = record {
      root = dir_stays [] kept.tree.root;
      leads = λ q f at. there_still f (kept.tree.leads q f at);
      under = λ q n there. dir_stays q (kept.tree.under q n there);
      single = λ f o at dir. elim (one-or-two nat_cmp_total nat_cmp-IsAntisymmetric f fid) [
        | inl same ↦ let none : paths_to names f ≡ 0 = ap (paths_to names) same ∙ no_names in omega (arith, none)
        | inr other ↦ kept.tree.single f o (sym (beside f other) ∙ at) dir
      ];
      drawn = λ f there. elim (one-or-two nat_cmp_total nat_cmp-IsAntisymmetric f fid) [
        | inl same ↦ subst (λ n. n ≤ made) (sym same) given
        | inr other ↦ kept.tree.drawn f (sym (ap is_some (beside f other)) ∙ there)
      ];
    };
    counted = λ f x at. elim (one-or-two nat_cmp_total nat_cmp-IsAntisymmetric f fid) [
      | inl same ↦
          let is : i ≡ x = same_some i x (sym (get-inserted nat_cmp_total nat_cmp-IsAntisymmetric table fid i) ∙ ap (maps.get after) (sym same) ∙ at) in
          ap (λ (y : Inode). y.links) (sym is) ∙ unnamed ∙ sym (ap (paths_to names) same ∙ no_names)
      | inr other ↦ kept.counted f x (sym (get-beside nat_cmp_total nat_cmp-IsAntisymmetric table fid i f other) ∙ at)
    ];
  }

  pub given-tree : tree_of names after made ≡ with_given (tree_of names table made) fid (object_of i)
  given-tree = ap (λ os. (let t : Tree = record { names = names; objects = os; made = made } in t)) (objects-insert table fid i)

-- ---- the root

-- a new directory with these attributes
as_directory : (o : Object) (k : Kind) → o.kind ≡ k → is_dir k ≡ true → FitsKind k o → (let d : Object = record new_dir { mode = o.mode; mtime = o.mtime } in d) ≡ o
as_directory o File is dir fits = absurd (false-true dir)
as_directory o Dir is dir fits =
    ap (λ k. (let d : Object = record { kind = k; mode = o.mode; mtime = o.mtime; target = []; size = 0; cid = 0; places = [] } in d)) (sym is)
    ∙ ap (λ x. (let d : Object = record { kind = o.kind; mode = o.mode; mtime = o.mtime; target = x; size = 0; cid = 0; places = [] } in d)) (sym fits.no_target)
    ∙ ap (λ n. (let d : Object = record { kind = o.kind; mode = o.mode; mtime = o.mtime; target = o.target; size = n; cid = 0; places = [] } in d)) (sym fits.empty)
    ∙ ap (λ n. (let d : Object = record { kind = o.kind; mode = o.mode; mtime = o.mtime; target = o.target; size = o.size; cid = n; places = [] } in d)) (sym fits.nowhere.no_cluster)
    ∙ ap (λ ps. (let d : Object = record { kind = o.kind; mode = o.mode; mtime = o.mtime; target = o.target; size = o.size; cid = o.cid; places = ps } in d)) (sym fits.nowhere.no_places)
as_directory o Link is dir fits = absurd (false-true dir)

-- to give the root its attributes is to give it its object
pub root-given : (t : Tree) (o : Object) → IsFirstObject t 0 o → with_object t 0 (λ x. record x { mode = o.mode; mtime = o.mtime }) ≡ with_given t 0 o
root-given t o first =
    let there : maps.get t.objects 0 ≡ Some new_dir = ap (λ m. maps.get m 0) first.0 ∙ get-inserted nat_cmp_total nat_cmp-IsAntisymmetric maps.empty 0 new_dir in
    ap (λ os. (let u : Tree = record t { objects = os } in u))
    (ap (λ x. option_map_or (λ d. maps.insert t.objects 0 (record d { mode = o.mode; mtime = o.mtime })) x t.objects) there
    ∙ ap (maps.insert t.objects 0) (as_directory o o.kind refl first.1.kind first.1.fits))

-- ---- which object is next

none_below : (n : ℕ) → nat_cmp n 0 ≡ Less → ⊥
none_below zero h = cc
none_below (suc n) h = let is : Greater ≡ nat_cmp (suc n) 0 = nat_cmp_is (suc n) 0 Greater (omega arith) in let same : Greater ≡ Less = is ∙ h in cc

module _ (t : Tree) (rules : IsTree t) (fid : ℕ) (o : Object) (next : IsFirstObject t fid o ⊎ IsNextObject t fid o) where
  -- under the number of the root it is the root
  pub first-object : fid ≡ 0 → IsFirstObject t 0 o
  first-object root = elim next [
    | inl first ↦ subst (λ n. IsFirstObject t n o) root first
    | inr more ↦
        let d = dir-found t [] rules.root in
        absurd (no_lesser d.fid (behind-less nat_cmp_total t.objects fid more.rising d.fid d.object d.is) root)
  ]
    where
      no_lesser : (f : ℕ) → nat_cmp f fid ≡ Less → fid ≡ 0 → ⊥
      no_lesser f less root = none_below f (ap (nat_cmp f) (sym root) ∙ less)

  -- and under another one it has no object before
  pub next-object : (fid ≡ 0 → ⊥) → IsNextObject t fid o
  next-object other = elim next [ inl first ↦ absurd (other first.1.number) | inr more ↦ more ]

-- ---- names

pub named-free : (t : Tree) (path : Path) (fid : ℕ) (o : Object) → IsNextName t path fid → maps.get t.objects fid ≡ Some o → is_dir o.kind ≡ true → paths_to t.names fid ≡ 0
named-free t path fid o next is dir =
    let own : next.leads.0 ≡ o = same_some next.leads.0 o (sym next.leads.1 ∙ is) in
    let few : paths_to t.names fid < 1 = subst (λ b. paths_to t.names fid < cond b 1 65535) (ap (λ (x : Object). is_dir x.kind) own ∙ dir) next.leads.2 in
    omega (arith, few)

pub named-few : (t : Tree) (path : Path) (fid : ℕ) → IsNextName t path fid → paths_to t.names fid < 65535
named-few t path fid next = go (is_dir next.leads.0.kind) next.leads.2
  where
    go : (b : Bool) → paths_to t.names fid < cond b 1 65535 → paths_to t.names fid < 65535
    go true few = omega (arith, few)
    go false few = few

-- the kept object of the next name
pub next-kept : (names : FinMap path_cmp ℕ) (table : Table) (made : ℕ) (path : Path) (fid : ℕ) → IsNextName (tree_of names table made) path fid
    → (i : Inode) × (maps.get table fid ≡ Some i) × (is_dir i.kind ≡ true → paths_to names fid ≡ 0)
next-kept names table made path fid next =
    let own = from-map object_of (maps.get table fid) next.leads.0 (sym (get-objects table fid) ∙ next.leads.1) in
    (own.0, own.1, named-free (tree_of names table made) path fid (object_of own.0) next (get-objects table fid ∙ ap (option_map object_of) own.1))

-- ---- counters

pub made-kept : (names : FinMap path_cmp ℕ) (table : Table) (made new : ℕ) → IsKept names table made → ((fid : ℕ) → is_some (maps.get (objects_of table) fid) ≡ true → fid ≤ new)
    → IsKept names table new
made-kept names table made new kept all = record {
  tree = record { root = kept.tree.root; leads = kept.tree.leads; under = kept.tree.under; single = kept.tree.single; drawn = all };
  counted = kept.counted;
}

pub no-inode : (table : Table) (fid : ℕ) → maps.get (objects_of table) fid ≡ None → maps.get table fid ≡ None
no-inode table fid none = go (maps.get table fid) (sym (get-objects table fid) ∙ none)
  where
    go : (o : Option Inode) → option_map object_of o ≡ None → o ≡ None
    go None h = refl
    go (Some i) h = absurd (not_none (object_of i) h)
