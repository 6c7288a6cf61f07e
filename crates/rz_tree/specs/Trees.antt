-- What a tree is: the rules that its names and objects keep.
use Rattle.std.specs.Prelude.{ℕ, ◌≡◌, ◌≤◌, ◌∷◌, [], ◌++◌, Some, IsTrue, IsSome}
use Rattle.std.specs.FinMap as maps
use Rattle.std.specs.FinMap.{FinMap}
use Rattle.rz_export_model.specs.Paths.{Name, Path, path_cmp}
use Rattle.rz_export_model.specs.Tree.{Tree, Object, is_dir, is_at, paths_to}
use Rattle.rz_tree.specs.declared.inodes.Inode.{Inode}
use Rattle.rz_tree.specs.Inodes.{Table, objects_of}

-- the tree that kept names and objects stand for
abbrev pub tree_of : FinMap path_cmp ℕ → Table → ℕ → Tree
tree_of names table made = record { names = names; objects = objects_of table; made = made }

-- the rules of a tree
pub record IsTree (t : Tree) : Type 0 where
  -- the root is a directory
  pub root : IsTrue (is_at t [] is_dir)
  -- each path leads to an object
  pub leads : (path : Path) (fid : ℕ) → maps.get t.names path ≡ Some fid → IsSome (maps.get t.objects fid)
  -- each path but the root stands right under a directory
  pub under : (path : Path) (name : Name) → IsSome (maps.get t.names (path ++ name ∷ [])) → IsTrue (is_at t path is_dir)
  -- no two paths lead to one directory
  pub single : (fid : ℕ) (o : Object) → maps.get t.objects fid ≡ Some o → IsTrue (is_dir o.kind) → paths_to t.names fid ≤ 1
  -- no object has a number above the one that was made last
  pub drawn : (fid : ℕ) → IsSome (maps.get t.objects fid) → fid ≤ t.made

-- each kept object has the count of the paths that lead to it
abbrev pub IsCounted : FinMap path_cmp ℕ → Table → Type 0
IsCounted names table = (fid : ℕ) (i : Inode) → maps.get table fid ≡ Some i → i.links ≡ paths_to names fid

-- kept names and objects that stand for a tree
pub record IsKept (names : FinMap path_cmp ℕ) (table : Table) (made : ℕ) : Type 0 where
  pub tree : IsTree (tree_of names table made)
  pub counted : IsCounted names table
