-- When the names and objects of an export are whole: they keep the rules of the parts that make a tree.
use Rattle.std.specs.Prelude.{ℕ, ◌≡◌, ◌≤◌, ◌<◌, ◌^◌, ◌==◌, ◌&&◌, Bool, not, List, [], ◌∷◌, length, Some, IsTrue}
use Rattle.std.specs.List.{list_all, list_any, join_with_byte}
use Rattle.std.specs.FinMap as maps
use Rattle.rz_events.specs.declared.tree.TreeCall.{TreeCall}
use Rattle.rz_events.specs.declared.export.Call.{Call}
use Rattle.rz_export_model.specs.Paths.{Name, Path, is_name, long_path_of}
use Rattle.rz_export_model.specs.Tree.{Tree, Object, empty_tree, paths_to}
use Rattle.rz_export_model.specs.TreeCalls.{tree_after}
use Rattle.rz_export_model.specs.Export.{Export, export_after}
use Rattle.rz_tree.specs.Trees.{IsTree}
use Rattle.rz_tree.specs.declared.parts.Part.{Part}
use Rattle.rz_tree.specs.declared.parts.Part.TheVariants as part
use Rattle.rz_tree.specs.Added.{FitsKind, AreNamed, most_names}

-- a name with no slash, so that a text can spell it
abbrev pub is_plain : Name → Bool
is_plain name = is_name name && not (list_any (λ b. b == 47) name)

-- a tree as calls make it
pub record IsWholeTree (t : Tree) : Type 0 where
  -- its names and objects keep the rules of a tree
  pub rules : IsTree t
  -- the root's path leads to the object 0, and no other path does
  pub root : maps.get t.names [] ≡ Some 0
  pub root_alone : (path : Path) → maps.get t.names path ≡ Some 0 → path ≡ []
  -- at most 65,536 objects besides the root
  pub few : maps.len t.objects ≤ 65537
  -- each object is as one of its kind is
  pub fits : (fid : ℕ) (o : Object) → maps.get t.objects fid ≡ Some o → FitsKind o.kind o
  -- each object has a name, and no more names than one of its kind may have
  pub named : AreNamed t
  pub few_names : (fid : ℕ) (o : Object) → maps.get t.objects fid ≡ Some o → paths_to t.names fid ≤ most_names o.kind
  -- each path is one that a text can spell
  pub spelled : (path : Path) (fid : ℕ) → maps.get t.names path ≡ Some fid → IsTrue (list_all is_plain path)

-- the tree of a new export is whole
abbrev pub EmptyIsWhole : Type 0
EmptyIsWhole = IsWholeTree empty_tree

-- a call on names and objects, refused or not, keeps a tree whole
abbrev pub CallKeepsTree : Type 0
CallKeepsTree = (t : Tree) (cid : ℕ) (places : List ℕ) (c : TreeCall) → IsWholeTree t → IsWholeTree (tree_after t cid places c)

-- each call of an export, a publish with its growth of a file too, keeps the tree whole
abbrev pub TreeStaysWhole : Type 0
TreeStaysWhole = (s : Export) (c : Call) → IsWholeTree s.tree → IsWholeTree (export_after s c).tree

-- a path whose text is read again as the same path, and has a length that fits 32 bits
pub record IsWritable (path : Path) : Type 0 where
  pub reads : long_path_of (47 ∷ join_with_byte 47 path) ≡ Some path
  pub short : length (47 ∷ join_with_byte 47 path) < 2 ^ 32

-- each path of a whole tree can be written
abbrev pub ArePathsWritten : Type 0
ArePathsWritten = (t : Tree) (path : Path) (fid : ℕ) → IsWholeTree t → maps.get t.names path ≡ Some fid → IsWritable path

-- a path that a text spells has names without slashes
abbrev pub AreTextsPlain : Type 0
AreTextsPlain = (text : List ℕ) (path : Path) → long_path_of text ≡ Some path → IsTrue (list_all is_plain path)

-- a part that is a name has a path that a text can spell
abbrev pub IsPlainPart : Part → Type 0
IsPlainPart (part.Counters last made) = Unit {0}
IsPlainPart (part.Object fid kind mode mtime size cid places target) = Unit {0}
IsPlainPart (part.Name path fid) = IsTrue (list_all is_plain path)
IsPlainPart (part.Block key latest published) = Unit {0}
IsPlainPart (part.Enrolled node loss fence) = Unit {0}
