-- Paths as lists of names, their order, and the text of a path.
use Rattle.std.specs.Prelude.{ℕ, Bool, true, false, ◌&&◌, ◌||◌, ◌==◌, not, nat_lt, nat_le, cond, List, [], ◌∷◌, ◌++◌, length, drop, Option, Some, None}
use Rattle.std.specs.List.{list_all, list_any, slice_split}
use Rattle.std.specs.Option.{option_and_then}
use Rattle.std.specs.Ordering.{nat_cmp, is_eq}
use Rattle.std.specs.declared.cmp.Ordering.{Ordering}
use Rattle.std.specs.Cmp.{IsTotalOrder}
use Rattle.std.specs.Cmp.Lexicographic.{slice_cmp, nat_list_cmp_total, lists_total}
use Rattle.std.specs.FinMap.{IsAntisymmetric, nat_cmp-IsAntisymmetric, slice_cmp-IsAntisymmetric}
use Rattle.std.specs.Coded.{Coded, coded_ℕ, coded_list}

-- a name is its bytes
abbrev pub Name : Type 0
Name = List ℕ

-- the names from the root on; the root's path has none
abbrev pub Path : Type 0
Path = List Name

-- names in byte order
abbrev pub name_cmp : Name → Name → Ordering
name_cmp = slice_cmp nat_cmp

-- paths name by name, a prefix first
abbrev pub path_cmp : Path → Path → Ordering
path_cmp = slice_cmp name_cmp

pub names_total : IsTotalOrder name_cmp
names_total = nat_list_cmp_total

pub paths_total : IsTotalOrder path_cmp
paths_total = lists_total names_total

pub exact_names : IsAntisymmetric name_cmp
exact_names = slice_cmp-IsAntisymmetric nat_cmp-IsAntisymmetric

pub exact_paths : IsAntisymmetric path_cmp
exact_paths = slice_cmp-IsAntisymmetric exact_names

abbrev pub coded_path : Coded Path
coded_path = coded_list (coded_list coded_ℕ)

abbrev pub same_name : Name → Name → Bool
same_name a b = is_eq (name_cmp a b)

abbrev pub is_root : Path → Bool
is_root [] = true
is_root (name ∷ rest) = false

-- the path above, which of the root is the root
abbrev pub above : Path → Path
above [] = []
above (name ∷ []) = []
above (name ∷ next ∷ rest) = name ∷ above (next ∷ rest)

-- whether `path` begins with the names of `front`
abbrev pub begins_with : Path → Path → Bool
begins_with [] path = true
begins_with (name ∷ front) [] = false
begins_with (name ∷ front) (next ∷ path) = same_name name next && begins_with front path

-- whether `path` begins with the names of `front` and has more
abbrev pub is_below : Path → Path → Bool
is_below front path = begins_with front path && nat_lt (length front) (length path)

-- the last name of a path that stands right under `front`
abbrev pub right_under : Path → Path → Option Name
right_under [] [] = None
right_under [] (name ∷ []) = Some name
right_under [] (name ∷ next ∷ rest) = None
right_under (name ∷ front) [] = None
right_under (name ∷ front) (next ∷ path) = cond (same_name name next) (right_under front path) None

-- the path with the front `from` changed to `to`, where it begins with `from`
abbrev pub moved_path : Path → Path → Path → Path
moved_path from to path = cond (begins_with from path) (to ++ drop (length from) path) path

-- the names `.` and `..`
abbrev pub is_dots : Name → Bool
is_dots name = same_name name (46 ∷ []) || same_name name (46 ∷ 46 ∷ [])

-- a name has 1 to 255 bytes, no zero byte, and is not one of the dots
abbrev pub is_name : Name → Bool
is_name name = nat_lt 0 (length name) && nat_le (length name) 255 && not (list_any (λ b. b == 0) name) && not (is_dots name)

-- the parts between slashes
abbrev pub parts_of : List ℕ → List Name
parts_of text = slice_split (λ b. b == 47) text

-- these parts, where each is a name
abbrev pub all_names : List Name → Option Path
all_names parts = cond (list_all is_name parts) (Some parts) None

-- what follows the first slash: nothing, or names with a slash between each two
abbrev pub after_slash : List ℕ → Option Path
after_slash [] = Some []
after_slash (b ∷ rest) = all_names (parts_of (b ∷ rest))

-- the path that a text spells, of any number of names
abbrev pub long_path_of : List ℕ → Option Path
long_path_of [] = None
long_path_of (b ∷ rest) = cond (b == 47) (after_slash rest) None

-- the path that the text of a call spells, which has at most 64 names
abbrev pub path_of : List ℕ → Option Path
path_of text = option_and_then (λ names. cond (nat_le (length names) 64) (Some names) None) (long_path_of text)
