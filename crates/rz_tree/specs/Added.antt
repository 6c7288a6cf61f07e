-- The parts of a tree one after another: which part may come next, and the tree with it.
use Rattle.std.specs.Prelude.{ℕ, ◌≡◌, ◌≤◌, ◌<◌, ◌⊎◌, false, cond, [], length, Some, IsTrue, IsSome}
use Rattle.std.specs.List.{list_all}
use Rattle.std.specs.FinMap as maps
use Rattle.rz_events.specs.declared.files.Kind.{Kind}
use Rattle.rz_events.specs.declared.files.Kind.TheVariants.{File, Dir, Link}
use Rattle.rz_export_model.specs.Paths.{Path, is_name, is_root, above}
use Rattle.rz_export_model.specs.Tree.{Tree, Object, empty_tree, is_at, is_dir, paths_to}
use Rattle.rz_export_model.specs.TreeCalls.{with_name}
use Rattle.rz_names.specs.Names.{below_root}
pub use Rattle.rz_names.specs.Names.{is_behind}
use Rattle.rz_tree.specs.declared.parts.Part.{Part}
use Rattle.rz_tree.specs.declared.parts.Part.TheVariants as part

-- ---- the tree with one more part

-- the tree where this is the object of a number
abbrev pub with_given : Tree → ℕ → Object → Tree
with_given t fid o = record t { objects = maps.insert t.objects fid o }

-- counters say which object was made last; blocks and enrolments are no parts of a tree
abbrev pub with_part : Tree → Part → Tree
with_part t (part.Counters last made) = record t { made = made }
with_part t (part.Object fid kind mode mtime size cid places target) =
    with_given t fid (record { kind = kind; mode = mode; mtime = mtime; target = target; size = size; cid = cid; places = places })
with_part t (part.Name path fid) = with_name t path fid
with_part t (part.Block key latest published) = t
with_part t (part.Enrolled node loss fence) = t

-- ---- objects

-- an object that is no file lies on no node
pub record LiesNowhere (o : Object) : Type 0 where
  pub no_cluster : o.cid ≡ 0
  pub no_places : o.places ≡ []

-- a directory has the size 0 and no target
pub record IsDirectory (o : Object) : Type 0 where
  pub empty : o.size ≡ 0
  pub no_target : o.target ≡ []
  pub nowhere : LiesNowhere o

-- a symbolic link has a target of 1 to 1024 bytes, and their number as its size
pub record IsSymlink (o : Object) : Type 0 where
  pub some_target : 1 ≤ length o.target
  pub short_target : length o.target ≤ 1024
  pub as_long : o.size ≡ length o.target
  pub nowhere : LiesNowhere o

-- an object is as one of its kind is; a file has no target
abbrev pub FitsKind : Kind → Object → Type 0
FitsKind File o = o.target ≡ []
FitsKind Dir o = IsDirectory o
FitsKind Link o = IsSymlink o

-- the root is a directory with the number 0
pub record IsRoot (fid : ℕ) (o : Object) : Type 0 where
  pub number : fid ≡ 0
  pub kind : IsTrue (is_dir o.kind)
  pub fits : FitsKind o.kind o

-- the root as a part, which comes before all other objects
abbrev pub IsRootPart : Part → Type 0
IsRootPart (part.Object fid kind mode mtime size cid places target) =
    IsRoot fid (record { kind = kind; mode = mode; mtime = mtime; target = target; size = size; cid = cid; places = places })
IsRootPart _ = ⊥

-- the root may be added where no object was added yet
abbrev pub IsFirstObject : Tree → ℕ → Object → Type 0
IsFirstObject t fid o = (t.objects ≡ empty_tree.objects) × IsRoot fid o

-- the next object: its number was given and is above all those before, at most 65,536 objects follow the
-- root, and no name stands before it
pub record IsNextObject (t : Tree) (fid : ℕ) (o : Object) : Type 0 where
  pub rising : IsTrue (is_behind t.objects fid)
  pub given : fid ≤ t.made
  pub few : maps.len t.objects ≤ 65536
  pub before_names : below_root t.names ≡ []
  pub fits : FitsKind o.kind o

-- ---- names

-- a directory has one name, and any other object at most 65,535
abbrev pub most_names : Kind → ℕ
most_names kind = cond (is_dir kind) 1 65535

-- the object of this number may have one more name
abbrev pub MayBeNamed : Tree → ℕ → Type 0
MayBeNamed t fid = (o : Object) × (maps.get t.objects fid ≡ Some o) × (paths_to t.names fid < most_names o.kind)

-- the next name: its path is not the root's, has proper names, stands behind all those before and right
-- under a directory, and leads to an object other than the root
pub record IsNextName (t : Tree) (path : Path) (fid : ℕ) : Type 0 where
  pub below : is_root path ≡ false
  pub spelled : IsTrue (list_all is_name path)
  pub rising : IsTrue (is_behind t.names path)
  pub under : IsTrue (is_at t (above path) is_dir)
  pub proper : 1 ≤ fid
  pub leads : MayBeNamed t fid

-- ---- the next part

-- the part may be added: of counters, objects and names each as its rules say; others say nothing of a tree
abbrev pub MayAdd : Tree → Part → Type 0
MayAdd t (part.Counters last made) = (fid : ℕ) → IsSome (maps.get t.objects fid) → fid ≤ made
MayAdd t (part.Object fid kind mode mtime size cid places target) =
    let o : Object = record { kind = kind; mode = mode; mtime = mtime; target = target; size = size; cid = cid; places = places } in
    IsFirstObject t fid o ⊎ IsNextObject t fid o
MayAdd t (part.Name path fid) = IsNextName t path fid
MayAdd t (part.Block key latest published) = Unit {0}
MayAdd t (part.Enrolled node loss fence) = Unit {0}

-- an object or a name that may come next; no other part of a tree may
abbrev pub MayBeNext : Tree → Part → Type 0
MayBeNext t (part.Object fid kind mode mtime size cid places target) =
    IsNextObject t fid (record { kind = kind; mode = mode; mtime = mtime; target = target; size = size; cid = cid; places = places })
MayBeNext t (part.Name path fid) = IsNextName t path fid
MayBeNext t _ = ⊥

-- no object lacks a name
abbrev pub AreNamed : Tree → Type 0
AreNamed t = (fid : ℕ) → IsSome (maps.get t.objects fid) → 1 ≤ paths_to t.names fid
