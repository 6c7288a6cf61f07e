-- The rules of the next part, as tests.
use Rattle.std.specs.Prelude.{ℕ, Bool, false, ◌==◌, ◌&&◌, not, nat_lt, nat_le, List, length}
use Rattle.std.specs.List.{list_all}
use Rattle.std.specs.Option.{option_map_or}
use Rattle.std.specs.FinMap as maps
use Rattle.rz_events.specs.declared.files.Kind.{Kind}
use Rattle.rz_events.specs.declared.files.Kind.TheVariants.{File, Dir, Link}
use Rattle.rz_export_model.specs.Paths.{Path, is_name, is_root, above}
use Rattle.rz_export_model.specs.Tree.{Tree, is_at, is_dir, paths_to}
use Rattle.rz_names.specs.Names.{below_root, is_behind}
use Rattle.rz_tree.specs.Added.{most_names}

-- whether nothing is said of where an object lies
abbrev pub lies_nowhere : ℕ → List ℕ → Bool
lies_nowhere cid places = (cid == 0) && (length places == 0)

-- whether these are the size, the place and the target of an object of a kind
abbrev pub fits_kind : Kind → ℕ → ℕ → List ℕ → List ℕ → Bool
fits_kind File size cid places target = length target == 0
fits_kind Dir size cid places target = (size == 0) && (length target == 0) && lies_nowhere cid places
fits_kind Link size cid places target =
    nat_le 1 (length target) && nat_le (length target) 1024 && (size == length target) && lies_nowhere cid places

-- whether the number may be the next object's
abbrev pub is_next_number : Tree → ℕ → Bool
is_next_number t fid =
    is_behind t.objects fid && nat_le fid t.made && nat_le (maps.len t.objects) 65536 && (length (below_root t.names) == 0)

-- whether the path has a name and stands right under a directory
abbrev pub stands_under : Tree → Path → Bool
stands_under t path = not (is_root path) && is_at t (above path) is_dir

-- whether the object of this number may have one more name
abbrev pub may_be_named : Tree → ℕ → Bool
may_be_named t fid = option_map_or (λ o. nat_lt (paths_to t.names fid) (most_names o.kind)) (maps.get t.objects fid) false

abbrev pub is_next_name : Tree → Path → ℕ → Bool
is_next_name t path fid =
    list_all is_name path && is_behind t.names path && stands_under t path && nat_le 1 fid && may_be_named t fid
