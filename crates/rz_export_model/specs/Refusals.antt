-- Which fault of a call on the tree comes first. Each call has its possible faults in one order.
use Rattle.std.specs.Prelude.{ℕ, ◌-◌, ◌^◌, Bool, false, ◌&&◌, ◌||◌, ◌==◌, not, nat_lt, nat_le, cond, List, [], ◌∷◌, ◌++◌, length, Option, Some, None, is_some, is_none, unwrap_or}
use Rattle.std.specs.Option.{option_map_or, option_or}
use Rattle.std.specs.FinMap as maps
use Rattle.rz_events.specs.declared.tree.TreeCall.{TreeCall}
use Rattle.rz_events.specs.declared.tree.TreeCall.TheVariants as call
use Rattle.rz_events.specs.declared.tree.TreeFault.{TreeFault}
use Rattle.rz_events.specs.declared.tree.TreeFault.TheVariants as fault
use Rattle.rz_export_model.specs.Firsts.{first_of, given_if}
use Rattle.rz_export_model.specs.Paths.{Path, path_of, is_root, is_below}
use Rattle.rz_export_model.specs.Tree.{Tree, fid_at, found_at, is_at, is_dir, is_link, names_under, paths_to}

-- the path of a text, or the root where it spells none
abbrev pub path_in : List ℕ → Path
path_in text = unwrap_or (path_of text) []

-- the text spells no path
abbrev pub unreadable : List ℕ → Option TreeFault
unreadable text = given_if (is_none (path_of text)) fault.BadName

-- the text spells no path, or the root
abbrev pub unreadable_or_root : List ℕ → Option TreeFault
unreadable_or_root text = given_if (is_root (path_in text)) fault.BadName

-- a target has 1 to 1024 bytes
abbrev pub bad_target : List ℕ → Option TreeFault
bad_target target = given_if ((length target == 0) || nat_lt 1024 (length target)) fault.BadName

-- the path is no directory's
abbrev pub no_directory : Tree → Path → Option TreeFault
no_directory t path = option_map_or (λ f. given_if (not (is_dir f.object.kind)) fault.NotDir) (found_at t path) (Some fault.NoEntry)

-- along the names before the last, the first that is absent or no directory; `base` is the way so far
abbrev pub walk_from : Tree → Path → Path → Option TreeFault
walk_from t base [] = None
walk_from t base (name ∷ []) = None
walk_from t base (name ∷ next ∷ rest) =
    option_or (no_directory t (base ++ name ∷ [])) (walk_from t (base ++ name ∷ []) (next ∷ rest))

abbrev pub walk : Tree → Path → Option TreeFault
walk t path = walk_from t [] path

abbrev pub absent : Tree → Path → Option TreeFault
absent t path = given_if (is_none (found_at t path)) fault.NoEntry

abbrev pub present : Tree → Path → Option TreeFault
present t path = given_if (is_some (found_at t path)) fault.Exists

abbrev pub not_dir : Tree → Path → Option TreeFault
not_dir t path = given_if (not (is_at t path is_dir)) fault.NotDir

abbrev pub dir : Tree → Path → Option TreeFault
dir t path = given_if (is_at t path is_dir) fault.IsDir

abbrev pub link : Tree → Path → Option TreeFault
link t path = given_if (is_at t path is_link) fault.IsLink

abbrev pub not_link : Tree → Path → Option TreeFault
not_link t path = given_if (not (is_at t path is_link)) fault.NotLink

-- there are names right under the path
abbrev pub not_empty : Tree → Path → Option TreeFault
not_empty t path = given_if (nat_lt 0 (length (names_under t.names path))) fault.NotEmpty

-- 65,536 objects besides the root are live, or no number is left for another
abbrev pub too_many_files : Tree → Option TreeFault
too_many_files t = given_if (nat_lt 65536 (maps.len t.objects) || nat_le (2 ^ 128 - 1) t.made) fault.TooManyFiles

-- the object at the path has 65,535 names
abbrev pub too_many_links : Tree → Path → Option TreeFault
too_many_links t path = option_map_or (λ fid. given_if (nat_le 65535 (paths_to t.names fid)) fault.TooManyLinks) (fid_at t path) None

-- a directory is to be moved below itself
abbrev pub into_itself : Tree → Path → Path → Option TreeFault
into_itself t path to = given_if (is_at t path is_dir && is_below path to) fault.IntoItself

-- the two paths name one object
abbrev pub is_same_object : Tree → Path → Path → Bool
is_same_object t path to = option_map_or (λ f. option_map_or (λ g. f == g) (fid_at t to) false) (fid_at t path) false

-- what stands at `to` can't be replaced by what stands at `path`
abbrev pub not_replaceable : Tree → Path → Path → Option TreeFault
not_replaceable t path to =
    cond (is_none (found_at t to) || is_same_object t path to) None
    (cond (is_at t path is_dir)
    (first_of (not_dir t to ∷ not_empty t to ∷ []))
    (dir t to))

-- the faults of an object to be made at the path
abbrev pub can_not_make : Tree → Path → List (Option TreeFault)
can_not_make t path = given_if (is_root path) fault.Exists ∷ walk t path ∷ present t path ∷ too_many_files t ∷ []

-- the possible faults of a call, in their order
abbrev pub faults_of : Tree → TreeCall → List (Option TreeFault)
faults_of t (call.Lookup path) = let p = path_in path in unreadable path ∷ walk t p ∷ absent t p ∷ []
faults_of t (call.Getattr path) = let p = path_in path in unreadable path ∷ walk t p ∷ absent t p ∷ []
faults_of t (call.Setattr path mode mtime) = let p = path_in path in unreadable path ∷ walk t p ∷ absent t p ∷ []
faults_of t (call.Mkdir path) = unreadable path ∷ can_not_make t (path_in path)
faults_of t (call.Create path) = unreadable path ∷ can_not_make t (path_in path)
faults_of t (call.Symlink target path) = unreadable path ∷ bad_target target ∷ can_not_make t (path_in path)
faults_of t (call.Rmdir path) =
    let p = path_in path in unreadable_or_root path ∷ walk t p ∷ absent t p ∷ not_dir t p ∷ not_empty t p ∷ []
faults_of t (call.Unlink path) =
    let p = path_in path in unreadable_or_root path ∷ walk t p ∷ absent t p ∷ dir t p ∷ []
faults_of t (call.Link path to) =
    let p = path_in path in
    let q = path_in to in
    unreadable_or_root path ∷ unreadable_or_root to ∷ walk t p ∷ absent t p ∷ dir t p ∷ walk t q ∷ present t q ∷ too_many_links t p ∷ []
faults_of t (call.Rename path to) =
    let p = path_in path in
    let q = path_in to in
    unreadable_or_root path ∷ unreadable_or_root to ∷ walk t p ∷ absent t p ∷ into_itself t p q ∷ walk t q ∷ not_replaceable t p q ∷ []
faults_of t (call.Readlink path) = let p = path_in path in unreadable path ∷ walk t p ∷ absent t p ∷ not_link t p ∷ []
faults_of t (call.Readdir path) = let p = path_in path in unreadable path ∷ walk t p ∷ absent t p ∷ not_dir t p ∷ []
faults_of t (call.OpenFile path) = let p = path_in path in unreadable path ∷ walk t p ∷ absent t p ∷ dir t p ∷ link t p ∷ []

-- the fault for which a call is refused, if it is
abbrev pub refusal : Tree → TreeCall → Option TreeFault
refusal t c = first_of (faults_of t c)
