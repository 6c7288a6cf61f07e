-- What is found in kept names and objects is what the tree has.
use Rattle.std.proofs.Common.{◌≡◌, ℕ, ◌≤◌, Bool, true, false, cond, Option, Some, None, sym, ap, ◌∙◌, refl, arith}
use Rattle.std.specs.Option.{option_map, option_and_then}
use Rattle.std.specs.FinMap as maps
use Rattle.std.specs.FinMap.{FinMap}
use Rattle.rz_events.specs.declared.files.Kind.TheVariants.{File}
use Rattle.rz_export_model.specs.Firsts.{given_if}
use Rattle.rz_export_model.specs.Paths.{Path, path_cmp}
use Rattle.rz_export_model.specs.Tree.{Tree, Object, found_at, file_of, file_from, with_object, info_of, is_dir, is_file, links_of, paths_to}
use Rattle.rz_tree.specs.declared.inodes.Inode.{Inode}
use Rattle.rz_tree.specs.Inodes.{Table, object_of, found_of, attr_kept, objects_of, changed_at}
use Rattle.rz_events.specs.declared.files.Attr.{Attr}
use Rattle.rz_export_model.specs.TreeCalls.{attr_of}
use Rattle.rz_tree.specs.Trees.{tree_of, IsKept}
use Rattle.rz_tree.proofs.Tables.{get-objects, objects-changed}
use Rattle.rz_tree.proofs.Files.{other-kind}
use Rattle.rz_tree.proofs.Counts.{some-path}

module _ (names : FinMap path_cmp ℕ) (table : Table) (made : ℕ) where
  map-then : (fid : ℕ) (o : Option Inode) → option_and_then (file_from fid) (option_map object_of o) ≡ option_and_then (λ i. file_from fid (object_of i)) o
  map-then fid None = refl
  map-then fid (Some i) = refl

  pub file-kept : (fid : ℕ) (o : Option Inode) → o ≡ maps.get table fid → option_and_then (λ i. file_from fid (object_of i)) o ≡ file_of (tree_of names table made) fid
  file-kept fid o is = sym (ap (option_and_then (file_from fid)) (get-objects table fid ∙ ap (option_map object_of) (sym is)) ∙ map-then fid o)

  pub no-file-kept : (fid : ℕ) (i : Inode) → Some i ≡ maps.get table fid → (i.kind ≡ File → ⊥) → None ≡ file_of (tree_of names table made) fid
  no-file-kept fid i is other = sym (ap (λ b. given_if b (info_of (found_of fid i))) (other-kind i.kind other)) ∙ file-kept fid (Some i) is

  pub own-file-kept : (fid : ℕ) (i : Inode) → Some i ≡ maps.get table fid → i.kind ≡ File → Some (info_of (found_of fid i)) ≡ file_of (tree_of names table made) fid
  own-file-kept fid i is same = sym (ap (λ k. given_if (is_file k) (info_of (found_of fid i))) same) ∙ file-kept fid (Some i) is

  map-map : (fid : ℕ) (o : Option Inode) → option_map (λ x. record { fid = fid; object = x }) (option_map object_of o) ≡ option_map (found_of fid) o
  map-map fid None = refl
  map-map fid (Some i) = refl

  pub found-kept : (path : Path) (fid : ℕ) (o : Option Inode) → Some fid ≡ maps.get names path → o ≡ maps.get table fid → option_map (found_of fid) o ≡ found_at (tree_of names table made) path
  found-kept path fid o at is = sym (
      ap (option_and_then (λ f. option_map (λ x. record { fid = f; object = x }) (maps.get (objects_of table) f))) (sym at)
      ∙ ap (option_map (λ x. record { fid = fid; object = x })) (get-objects table fid ∙ ap (option_map object_of) (sym is)) ∙ map-map fid o)

  -- to change a kept object is to change the object
  pub changed-kept : (fid : ℕ) (f : Inode → Inode) (g : Object → Object) → ((i : Inode) → object_of (f i) ≡ g (object_of i))
      → tree_of names (changed_at table fid f) made ≡ with_object (tree_of names table made) fid g
  changed-kept fid f g same = ap (λ os. (let t : Tree = record { names = names; objects = os; made = made } in t)) (objects-changed table fid f g same)

  links_step : (path : Path) (fid : ℕ) (i : Inode) (d : Bool) → is_dir i.kind ≡ d → maps.get names path ≡ Some fid → maps.get table fid ≡ Some i → IsKept names table made
      → i.links ≡ cond d 1 (paths_to names fid)
  links_step path fid i true dir to at kept =
      let most : paths_to names fid ≤ 1 = kept.tree.single fid (object_of i) (get-objects table fid ∙ ap (option_map object_of) at) dir in
      let some : 1 ≤ paths_to names fid = some-path names path fid to in
      let count : i.links ≡ paths_to names fid = kept.counted fid i at in
      omega (arith, most, some, count)
  links_step path fid i false dir to at kept = kept.counted fid i at

  -- of an object at a path the kept count is the number of links
  pub links-kept : (path : Path) (fid : ℕ) (i : Inode) → maps.get names path ≡ Some fid → maps.get table fid ≡ Some i → IsKept names table made
      → i.links ≡ links_of (tree_of names table made) (found_of fid i)
  links-kept path fid i to at kept = links_step path fid i (is_dir i.kind) refl to at kept

-- the attributes of a found object
pub attr-found : (t : Tree) (fid : ℕ) (i : Inode) → i.links ≡ links_of t (found_of fid i) → attr_kept fid i ≡ attr_of t (found_of fid i)
attr-found t fid i same = ap (λ n. (let a : Attr = record { fid = fid; kind = i.kind; mode = i.mode; mtime = i.mtime; links = n; size = i.size } in a)) same
