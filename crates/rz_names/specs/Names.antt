-- What a map of names is, and what is found in it.
use Rattle.std.specs.Prelude.{ℕ, Bool, true, false, not, ◌||◌, List, [], ◌∷◌, take, drop, Option, Some, None, IsTrue, is_some}
use Rattle.std.specs.List as lists
use Rattle.std.specs.List.{list_all}
use Rattle.std.specs.Ordering.{is_lt}
use Rattle.std.specs.declared.cmp.Ordering.{Ordering}
use Rattle.std.specs.declared.cmp.Ordering.TheVariants.{Less, Equal, Greater}
use Rattle.std.specs.FinMap as maps
use Rattle.std.specs.FinMap.{FinMap, is_sorted, find}
use Rattle.rz_export_model.specs.Paths.{Name, Path, name_cmp, path_cmp, begins_with}
use Rattle.rz_export_model.specs.Tree.{names_under}

-- the entries of a map of names are the root's, which is not kept, and those that are kept
abbrev pub with_root : List (Path × ℕ) → List (Path × ℕ)
with_root entries = ([], 0) ∷ entries

-- with a path each front of it is there
abbrev pub IsClosed : List (Path × ℕ) → Type 0
IsClosed entries = (path : Path) (n : ℕ) → IsTrue (is_some (find path_cmp path entries)) → IsTrue (is_some (find path_cmp (take n path) entries))

-- the entries rise strictly by their paths
pub record IsNameMap (entries : List (Path × ℕ)) : Type 0 where
  pub sorted : IsTrue (is_sorted path_cmp (with_root entries))
  pub closed : IsClosed (with_root entries)

-- at first there is the root alone, with the number 0
abbrev pub root_alone : FinMap path_cmp ℕ
root_alone = maps.insert maps.empty [] 0

-- whether a name stands after another, where this is given
abbrev pub is_after : Option Name → Name → Bool
is_after None name = true
is_after (Some after) name = is_lt (name_cmp after name)

-- the least name right under a path, above `after` where this is given
abbrev pub next_name : FinMap path_cmp ℕ → Path → Option Name → Option Name
next_name names path after = lists.find (is_after after) (names_under names path)

-- the least path above the given one, with its number
abbrev pub entry_after : FinMap path_cmp ℕ → Path → Option (Path × ℕ)
entry_after names path = lists.find (λ e. is_lt (path_cmp path e.0)) (maps.entries names)

-- all paths but the root's, with their numbers, in order
abbrev pub below_root : FinMap path_cmp ℕ → List (Path × ℕ)
below_root names = drop 1 (maps.entries names)

-- whether a key stands behind all keys of a map
abbrev pub is_behind : {K X : Type 0} {R : K → K → Ordering} → FinMap R X → K → Bool
is_behind {R = R} m k = list_all (λ e. is_lt (R e.0 k)) (maps.entries m)

-- whether a path is at most `front`, or begins with it
abbrev pub is_within : Path → Path → Bool
is_within front path = not (is_lt (path_cmp front path)) || begins_with front path

-- the first, the second or the third, by the order
abbrev pub by_order : Ordering → Bool → Bool → Bool → Bool
by_order Less less equal greater = less
by_order Equal less equal greater = equal
by_order Greater less equal greater = greater

-- whether a path is at most `path`, or below it by a name that is not after `after`
abbrev pub is_up_to : Path → Option Name → Path → Bool
is_up_to [] after [] = true
is_up_to [] after (name ∷ rest) = not (is_after after name)
is_up_to (name ∷ path) after [] = true
is_up_to (name ∷ path) after (next ∷ rest) = by_order (name_cmp next name) true (is_up_to path after rest) false
