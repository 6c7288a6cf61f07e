-- The parts of a tree.
use Rattle.std.specs.Prelude.{ℕ, List, ◌++◌, map, Option}
use Rattle.std.specs.List.{slice_get}
use Rattle.std.specs.Option.{option_map, option_or}
use Rattle.std.specs.FinMap as maps
use Rattle.rz_export_model.specs.Paths.{Path}
use Rattle.rz_export_model.specs.Tree.{Tree, Object}
use Rattle.rz_names.specs.Names.{below_root, entry_after}
use Rattle.rz_tree.specs.Inodes.{first_past}
use Rattle.rz_tree.specs.declared.parts.Part.{Part}
use Rattle.rz_tree.specs.declared.parts.Part.TheVariants as part

abbrev pub object_part : ℕ × Object → Part
object_part e = part.Object e.0 e.1.kind e.1.mode e.1.mtime e.1.size e.1.cid e.1.places e.1.target

abbrev pub name_part : Path × ℕ → Part
name_part e = part.Name e.0 e.1

-- the objects by their numbers, and then the names by their paths, but for the root's
abbrev pub tree_parts : Tree → List Part
tree_parts t = map object_part (maps.entries t.objects) ++ map name_part (below_root t.names)

-- the object past a number, or else the first name
abbrev pub after_object : Tree → Option ℕ → Option Part
after_object t fid =
    option_or (option_map object_part (first_past fid (maps.entries t.objects))) (option_map name_part (slice_get (below_root t.names) 0))

-- the name behind a path
abbrev pub after_name : Tree → Path → Option Part
after_name t path = option_map name_part (entry_after t.names path)
