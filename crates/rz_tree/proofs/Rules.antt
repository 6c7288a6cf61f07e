-- The rules of a tree at first, and after an object was changed.
use Rattle.std.proofs.Common.{◌≡◌, ℕ, ◌+◌, Bool, true, false, cond, [], ◌∷◌, ◌++◌, Option, Some, None, is_some, sym, ap, ◌∙◌, refl, arith, inl, inr}
use Rattle.std.specs.Option.{option_map, option_and_then, option_map_or}
use Rattle.std.specs.Ordering.{nat_cmp, eq_by_cmp}
use Rattle.std.specs.Cmp.{nat_cmp_total}
use Rattle.std.specs.FinMap as maps
use Rattle.std.specs.FinMap.{FinMap, get-empty, nat_cmp-IsAntisymmetric}
use Rattle.rz_export_model.specs.Paths.{Name, Path, path_cmp, paths_total, exact_paths}
use Rattle.rz_export_model.specs.Tree.{Tree, Object, Found, found_at, is_at, is_dir, paths_to, new_dir, empty_tree}
use Rattle.rz_names.specs.Names.{root_alone}
use Rattle.rz_tree.specs.declared.inodes.Inode.{Inode}
use Rattle.rz_tree.specs.Inodes.{Table, object_of, objects_of, changed_at}
use Rattle.rz_tree.specs.Trees.{tree_of, IsKept}
use Rattle.rz_tree.proofs.Keys.{same_some, not_none, false-true, one-or-two, ties-itself, get-inserted, get-beside}
use Rattle.rz_tree.proofs.Tables.{get-objects, objects-insert, objects-empty}
use Rattle.rz_tree.proofs.Counts.{count-insert, no-path, one_if-same}

-- what a map of an option holds comes from what the option holds
pub from-map : {A B : Type 0} (g : A → B) (o : Option A) (y : B) → option_map g o ≡ Some y → (x : A) × (o ≡ Some x) × (g x ≡ y)
from-map g None y h = absurd (not_none y (sym h))
from-map g (Some x) y h = (x, refl, same_some (g x) y h)

pub map-some : {A B : Type 0} (g : A → B) (o : Option A) → is_some (option_map g o) ≡ is_some o
map-some g None = refl
map-some g (Some x) = refl

-- an object that is found at a path: it stands under the number to which the path leads
pub found-there : (t : Tree) (path : Path) (f : Found) → Some f ≡ found_at t path → (maps.get t.names path ≡ Some f.fid) × (maps.get t.objects f.fid ≡ Some f.object)
found-there t path f is = go (maps.get t.names path) is
  where
    go : (n : Option ℕ) → Some f ≡ option_and_then (λ fid. option_map (λ o. (let x : Found = record { fid = fid; object = o } in x)) (maps.get t.objects fid)) n
        → (n ≡ Some f.fid) × (maps.get t.objects f.fid ≡ Some f.object)
    go None h = absurd (not_none f h)
    go (Some fid) h =
        let own = from-map (λ (o : Object). (let x : Found = record { fid = fid; object = o } in x)) (maps.get t.objects fid) f (sym h) in
        (ap (λ (x : Found). Some x.fid) own.2, ap (λ (x : Found). maps.get t.objects x.fid) (sym own.2) ∙ own.1 ∙ ap (λ (x : Found). Some x.object) own.2)

-- a directory that stands at a path
pub record DirAt (t : Tree) (path : Path) : Type 0 where
  pub fid : ℕ
  pub object : Object
  pub at : maps.get t.names path ≡ Some fid
  pub is : maps.get t.objects fid ≡ Some object
  pub dir : is_dir object.kind ≡ true

pub dir-found : (t : Tree) (path : Path) → is_at t path is_dir ≡ true → DirAt t path
dir-found t path h = go (found_at t path) refl h
  where
    go : (o : Option Found) → found_at t path ≡ o → option_map_or is_dir (option_map (λ (x : Found). x.object.kind) o) false ≡ true → DirAt t path
    go None is h = absurd (false-true h)
    go (Some f) is h = let there = found-there t path f (sym is) in record { fid = f.fid; object = f.object; at = there.0; is = there.1; dir = h }

pub dir-is : (t : Tree) (path : Path) → DirAt t path → is_at t path is_dir ≡ true
dir-is t path d =
    ap (λ f. option_map_or is_dir (option_map (λ (x : Found). x.object.kind) (option_and_then (λ fid. option_map (λ o. record { fid = fid; object = o }) (maps.get t.objects fid)) f)) false) d.at
    ∙ ap (λ o. option_map_or is_dir (option_map (λ (x : Found). x.object.kind) (option_map (λ o. record { fid = d.fid; object = o }) o)) false) d.is ∙ d.dir

-- ---- objects that change and keep their kinds and links

module _ (names : FinMap path_cmp ℕ) (table next : Table) (made : ℕ) (change : ℕ → Inode → Inode)
    (is : (fid : ℕ) → maps.get next fid ≡ option_map (change fid) (maps.get table fid))
    (kind : (fid : ℕ) (i : Inode) → (change fid i).kind ≡ i.kind) (links : (fid : ℕ) (i : Inode) → (change fid i).links ≡ i.links)
    (kept : IsKept names table made) where
  some_still : (fid : ℕ) → is_some (maps.get (objects_of next) fid) ≡ is_some (maps.get (objects_of table) fid)
  some_still fid =
      ap is_some (get-objects next fid) ∙ map-some object_of (maps.get next fid) ∙ ap is_some (is fid) ∙ map-some (change fid) (maps.get table fid)
      ∙ sym (ap is_some (get-objects table fid) ∙ map-some object_of (maps.get table fid))

  dir-still : (path : Path) → is_at (tree_of names table made) path is_dir ≡ true → is_at (tree_of names next made) path is_dir ≡ true
  dir-still path h =
      let d = dir-found (tree_of names table made) path h in
      let old = from-map object_of (maps.get table d.fid) d.object (sym (get-objects table d.fid) ∙ d.is) in
      dir-is (tree_of names next made) path (record {
        fid = d.fid;
        object = object_of (change d.fid old.0);
        at = d.at;
        is = get-objects next d.fid ∙ ap (option_map object_of) (is d.fid ∙ ap (option_map (change d.fid)) old.1);
        dir = ap is_dir (kind d.fid old.0) ∙ ap (λ (o : Object). is_dir o.kind) old.2 ∙ d.dir;
      })

  pub still-kept : IsKept names next made
  still-kept = record {
    tree = record {
      root = dir-still [] kept.tree.root;
      leads = λ path fid at. some_still fid ∙ kept.tree.leads path fid at;
      under = λ path name there. dir-still path (kept.tree.under path name there);
      single = λ fid o at dir.
          let new = from-map object_of (maps.get next fid) o (sym (get-objects next fid) ∙ at) in
          let old = from-map (change fid) (maps.get table fid) new.0 (sym (is fid) ∙ new.1) in
          kept.tree.single fid (object_of old.0) (get-objects table fid ∙ ap (option_map object_of) old.1)
          (ap is_dir (sym (kind fid old.0)) ∙ ap (λ (i : Inode). is_dir i.kind) old.2 ∙ ap (λ (x : Object). is_dir x.kind) new.2 ∙ dir);
      drawn = λ fid there. kept.tree.drawn fid (sym (some_still fid) ∙ there);
    };
    counted = λ fid i at.
        let old = from-map (change fid) (maps.get table fid) i (sym (is fid) ∙ at) in
        ap (λ (x : Inode). x.links) (sym old.2) ∙ links fid old.0 ∙ kept.counted fid old.0 old.1;
  }

changed_step : (table : Table) (fid : ℕ) (f : Inode → Inode) (q : ℕ) (o : Option Inode) → maps.get table fid ≡ o
    → maps.get (option_map_or (λ i. maps.insert table fid (f i)) o table) q ≡ option_map (λ i. cond (eq_by_cmp nat_cmp q fid) (f i) i) (maps.get table q)
changed_step table fid f q None none = elim (one-or-two nat_cmp_total nat_cmp-IsAntisymmetric q fid) [
  | inl same ↦ let absent : maps.get table q ≡ None = ap (maps.get table) same ∙ none in absent ∙ sym (ap (option_map (λ i. cond (eq_by_cmp nat_cmp q fid) (f i) i)) absent)
  | inr other ↦ sym (ap (λ b. option_map (λ i. cond b (f i) i) (maps.get table q)) other ∙ map-same (maps.get table q))
]
  where
    map-same : (o : Option Inode) → option_map (λ (i : Inode). i) o ≡ o
    map-same None = refl
    map-same (Some i) = refl
changed_step table fid f q (Some i) some = elim (one-or-two nat_cmp_total nat_cmp-IsAntisymmetric q fid) [
  | inl same ↦
      let there : maps.get table q ≡ Some i = ap (maps.get table) same ∙ some in
      let tied : eq_by_cmp nat_cmp q fid ≡ true = ap (λ x. eq_by_cmp nat_cmp x fid) same ∙ ties-itself nat_cmp_total nat_cmp-IsAntisymmetric fid in
      ap (maps.get (maps.insert table fid (f i))) same ∙ get-inserted nat_cmp_total nat_cmp-IsAntisymmetric table fid (f i)
      ∙ sym (ap (λ b. option_map (λ (x : Inode). cond b (f x) x) (maps.get table q)) tied ∙ ap (option_map f) there)
  | inr other ↦
      get-beside nat_cmp_total nat_cmp-IsAntisymmetric table fid (f i) q other
      ∙ sym (ap (λ b. option_map (λ (x : Inode). cond b (f x) x) (maps.get table q)) other ∙ map-same (maps.get table q))
]
  where
    map-same : (o : Option Inode) → option_map (λ (i : Inode). i) o ≡ o
    map-same None = refl
    map-same (Some i) = refl

-- what a table has after an object was changed
pub get-changed : (table : Table) (fid : ℕ) (f : Inode → Inode) (q : ℕ) → maps.get (changed_at table fid f) q ≡ option_map (λ i. cond (eq_by_cmp nat_cmp q fid) (f i) i) (maps.get table q)
get-changed table fid f q = changed_step table fid f q (maps.get table fid) refl

-- to change attributes keeps the rules
pub changed-rules : (names : FinMap path_cmp ℕ) (table : Table) (made fid : ℕ) (f : Inode → Inode)
    → ((i : Inode) → (f i).kind ≡ i.kind) → ((i : Inode) → (f i).links ≡ i.links) → IsKept names table made → IsKept names (changed_at table fid f) made
changed-rules names table made fid f kind links kept =
    still-kept names table (changed_at table fid f) made (λ q i. cond (eq_by_cmp nat_cmp q fid) (f i) i) (get-changed table fid f)
    (λ q i. kind_either (eq_by_cmp nat_cmp q fid) i) (λ q i. links_either (eq_by_cmp nat_cmp q fid) i) kept
  where
    kind_either : (b : Bool) (i : Inode) → (cond b (f i) i).kind ≡ i.kind
    kind_either true i = kind i
    kind_either false i = refl

    links_either : (b : Bool) (i : Inode) → (cond b (f i) i).links ≡ i.links
    links_either true i = links i
    links_either false i = refl

-- ---- the root alone

more_apart : (path : Path) (name : Name) → eq_by_cmp path_cmp (path ++ name ∷ []) [] ≡ false
more_apart [] name = refl
more_apart (n ∷ path) name = refl

root-name : (path : Path) (fid : ℕ) → maps.get root_alone path ≡ Some fid → fid ≡ 0
root-name path fid at = elim (one-or-two paths_total exact_paths path []) [
  | inl same ↦ sym (same_some 0 fid (sym (ap (maps.get root_alone) same ∙ get-inserted paths_total exact_paths maps.empty [] 0) ∙ at))
  | inr other ↦ absurd (not_none fid (sym at ∙ get-beside paths_total exact_paths maps.empty [] 0 path other ∙ get-empty path_cmp path))
]

abbrev no_table : Table
no_table = maps.empty

-- the table of one object, of number 0
abbrev pub alone : Inode → Table
alone i = maps.insert maps.empty 0 i

module _ (i : Inode) (object : object_of i ≡ new_dir) (links : i.links ≡ 1) where
  at_root : maps.get (alone i) 0 ≡ Some i
  at_root = get-inserted nat_cmp_total nat_cmp-IsAntisymmetric no_table 0 i

  only_root : (fid : ℕ) → is_some (maps.get (objects_of (alone i)) fid) ≡ true → fid ≡ 0
  only_root fid there = elim (one-or-two nat_cmp_total nat_cmp-IsAntisymmetric fid 0) [
    | inl same ↦ same
    | inr other ↦ absurd (false-true (sym (ap is_some (get-objects (alone i) fid
        ∙ ap (option_map object_of) (get-beside nat_cmp_total nat_cmp-IsAntisymmetric no_table 0 i fid other ∙ get-empty nat_cmp fid))) ∙ there))
  ]

  root_dir : is_at (tree_of root_alone (alone i) 0) [] is_dir ≡ true
  root_dir = dir-is (tree_of root_alone (alone i) 0) [] (record {
    fid = 0;
    object = object_of i;
    at = get-inserted paths_total exact_paths maps.empty [] 0;
    is = get-objects (alone i) 0 ∙ ap (option_map object_of) at_root;
    dir = ap (λ (o : Object). is_dir o.kind) object;
  })

  one_root : paths_to root_alone 0 ≡ 1
  one_root = count-insert maps.empty [] 0 0 (get-empty path_cmp [])
      ∙ ap (λ n. n + paths_to maps.empty 0) (one_if-same 0) ∙ ap (λ n. 1 + n) (no-path maps.empty 0 (λ q is. not_none 0 (sym is ∙ get-empty path_cmp q)))

  pub fresh-kept : IsKept root_alone (alone i) 0
  fresh-kept = record {
    tree = record {
      root = root_dir;
      leads = λ path fid at.
          ap (λ n. is_some (maps.get (objects_of (alone i)) n)) (root-name path fid at)
          ∙ ap is_some (get-objects (alone i) 0 ∙ ap (option_map object_of) at_root);
      under = λ path name there. absurd (false-true (sym (ap is_some (
          get-beside paths_total exact_paths maps.empty [] 0 (path ++ name ∷ []) (more_apart path name) ∙ get-empty path_cmp (path ++ name ∷ []))) ∙ there));
      single = λ fid o at dir. let one : paths_to root_alone fid ≡ 1 = ap (paths_to root_alone) (only_root fid (ap is_some at)) ∙ one_root in omega (arith, one);
      drawn = λ fid there. let none : fid ≡ 0 = only_root fid there in omega arith;
    };
    counted = λ fid x at.
        let none : fid ≡ 0 = only_root fid (ap is_some (get-objects (alone i) fid ∙ ap (option_map object_of) at)) in
        let same : i ≡ x = same_some i x (sym at_root ∙ ap (maps.get (alone i)) (sym none) ∙ at) in
        ap (λ (y : Inode). y.links) (sym same) ∙ links ∙ sym (ap (paths_to root_alone) none ∙ one_root);
  }

  pub fresh-tree : tree_of root_alone (alone i) 0 ≡ empty_tree
  fresh-tree = ap (λ os. (let t : Tree = record { names = root_alone; objects = os; made = 0 } in t))
      (objects-insert maps.empty 0 i ∙ ap (λ m. maps.insert m 0 (object_of i)) objects-empty ∙ ap (maps.insert maps.empty 0) object)
