-- The names of an export: a map from paths to the numbers of objects, and a map from these to objects.
use Rattle.std.specs.Prelude.{ℕ, Bool, true, false, ◌==◌, cond, List, [], length, count_by, map, Option, None}
use Rattle.std.specs.List.{filter_map}
use Rattle.std.specs.Option.{option_and_then, option_map, option_map_or}
use Rattle.std.specs.Ordering.{nat_cmp, is_lt}
use Rattle.std.specs.FinMap as maps
use Rattle.std.specs.FinMap.{FinMap}
use Rattle.rz_events.specs.declared.files.Kind.{Kind}
use Rattle.rz_events.specs.declared.files.Kind.TheVariants.{File, Dir, Link}
use Rattle.rz_events.specs.declared.files.FileInfo.{FileInfo}
use Rattle.rz_export_model.specs.Paths.{Name, Path, path_cmp, right_under, moved_path}
use Rattle.rz_export_model.specs.Firsts.{first_given, given_if}

-- a file, a directory or a symbolic link; `places` and `cid` say where a file's projections lie, and
-- `target` is what a symbolic link points to
pub record Object : Type 0 where
  pub kind : Kind
  pub mode : ℕ
  pub mtime : ℕ
  pub target : List ℕ
  pub size : ℕ
  pub cid : ℕ
  pub places : List ℕ

pub record Tree : Type 0 where
  pub names : FinMap path_cmp ℕ
  pub objects : FinMap nat_cmp Object
  -- the number of the object that was made last
  pub made : ℕ

-- an object with its number
pub record Found : Type 0 where
  pub fid : ℕ
  pub object : Object

abbrev pub is_dir : Kind → Bool
is_dir File = false
is_dir Dir = true
is_dir Link = false

abbrev pub is_file : Kind → Bool
is_file File = true
is_file Dir = false
is_file Link = false

abbrev pub is_link : Kind → Bool
is_link File = false
is_link Dir = false
is_link Link = true

abbrev pub new_dir : Object
new_dir = record { kind = Dir; mode = 493; mtime = 0; target = []; size = 0; cid = 0; places = [] }

abbrev pub new_file : ℕ → List ℕ → Object
new_file cid places = record { kind = File; mode = 420; mtime = 0; target = []; size = 0; cid = cid; places = places }

abbrev pub new_link : List ℕ → Object
new_link target = record { kind = Link; mode = 511; mtime = 0; target = target; size = length target; cid = 0; places = [] }

-- at first there is the root alone, with the number 0
abbrev pub empty_tree : Tree
empty_tree = record { names = maps.insert maps.empty [] 0; objects = maps.insert maps.empty 0 new_dir; made = 0 }

-- the number of the object at a path
abbrev pub fid_at : Tree → Path → Option ℕ
fid_at t path = maps.get t.names path

-- the object at a path
abbrev pub found_at : Tree → Path → Option Found
found_at t path = option_and_then (λ fid. option_map (λ o. record { fid = fid; object = o }) (maps.get t.objects fid)) (fid_at t path)

abbrev pub kind_at : Tree → Path → Option Kind
kind_at t path = option_map (λ f. f.object.kind) (found_at t path)

-- whether there is an object of such a kind at the path
abbrev pub is_at : Tree → Path → (Kind → Bool) → Bool
is_at t path test = option_map_or test (kind_at t path) false

-- the names right under a path, in byte order
abbrev pub names_under : FinMap path_cmp ℕ → Path → List Name
names_under names path = filter_map (right_under path) (maps.keys names)

-- how many paths an object has
abbrev pub paths_to : FinMap path_cmp ℕ → ℕ → ℕ
paths_to names fid = count_by (λ f. f == fid) (maps.values names)

-- the links of an object: a directory has 1, any other object as many as it has paths
abbrev pub links_of : Tree → Found → ℕ
links_of t f = cond (is_dir f.object.kind) 1 (paths_to t.names f.fid)

-- what a client learns of a file
abbrev pub info_of : Found → FileInfo
info_of f = record { fid = f.fid; cid = f.object.cid; places = f.object.places; size = f.object.size }

-- the file of a number and an object, where this is a file
abbrev pub file_from : ℕ → Object → Option FileInfo
file_from fid o = given_if (is_file o.kind) (info_of (record { fid = fid; object = o }))

-- the live file with this number
abbrev pub file_of : Tree → ℕ → Option FileInfo
file_of t fid = option_and_then (file_from fid) (maps.get t.objects fid)

-- the live file with the least greater number
abbrev pub file_after : Tree → ℕ → Option FileInfo
file_after t fid = first_given (λ e. cond (is_lt (nat_cmp fid e.0)) (file_from e.0 e.1) None) (maps.entries t.objects)

-- each path that begins with `from` begins with `to` instead
abbrev pub moved : Path → Path → FinMap path_cmp ℕ → FinMap path_cmp ℕ
moved from to names = maps.from_entries (map (λ e. (moved_path from to e.0, e.1)) (maps.entries names))

-- the object of this number is changed so, where there is one
abbrev pub with_object : Tree → ℕ → (Object → Object) → Tree
with_object t fid change =
    record t { objects = option_map_or (λ o. maps.insert t.objects fid (change o)) (maps.get t.objects fid) t.objects }

-- the file's size is raised to `size`, where this is greater
abbrev pub grown : Tree → ℕ → ℕ → Tree
grown t fid size = with_object t fid (λ o. record o { size = cond (is_lt (nat_cmp o.size size)) size o.size })
