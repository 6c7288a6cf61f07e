-- The objects that kept ones stand for.
use Rattle.std.proofs.Common.{◌≡◌, ℕ, suc, Bool, true, false, cond, ◌&&◌, T, List, [], ◌∷◌, length, Option, Some, None, sym, ap, ◌∙◌, subst, refl}
use Rattle.std.specs.Option.{option_map, option_map_or, option_or}
use Rattle.std.specs.Ordering.{is_lt, nat_cmp, eq_by_cmp}
use Rattle.std.specs.Cmp.{nat_cmp_total}
use Rattle.std.specs.FinMap as maps
use Rattle.std.specs.FinMap.{same_map, get-from_entries, get-insert, get-remove, get-empty, get-entries, len-entries, entries_sorted, nat_cmp-IsAntisymmetric}
use Rattle.std.specs.FinMap.Entries.{find, is_sorted, below_all, same_entries}
use Rattle.rz_events.specs.declared.files.FileInfo.{FileInfo}
use Rattle.rz_export_model.specs.Firsts.{first_given}
use Rattle.rz_export_model.specs.Tree.{Object, file_from}
use Rattle.rz_tree.specs.declared.inodes.Inode.{Inode}
use Rattle.rz_tree.specs.Inodes.{Table, object_of, seen_entries, objects_of, changed_at, file_past}

abbrev Row : Type 0
Row = List (ℕ × Inode)

find-seen : (es : Row) (q : ℕ) → find nat_cmp q (seen_entries es) ≡ option_map object_of (find nat_cmp q es)
find-seen [] q = refl
find-seen (e ∷ es) q = elim (eq_by_cmp nat_cmp q e.0) as (λ b. cond b (Some (object_of e.1)) (find nat_cmp q (seen_entries es)) ≡ option_map object_of (cond b (Some e.1) (find nat_cmp q es))) [
  | true ↦ refl
  | false ↦ find-seen es q
]

-- the object of a number
pub get-objects : (m : Table) (q : ℕ) → maps.get (objects_of m) q ≡ option_map object_of (maps.get m q)
get-objects m q = get-from_entries nat_cmp_total (seen_entries (maps.entries m)) q ∙ find-seen (maps.entries m) q ∙ ap (option_map object_of) (sym (get-entries m q))

below-seen : (x : ℕ) (es : Row) → below_all nat_cmp x (seen_entries es) ≡ below_all nat_cmp x es
below-seen x [] = refl
below-seen x (e ∷ es) = ap (λ b. is_lt (nat_cmp x e.0) && b) (below-seen x es)

sorted-seen : (es : Row) → is_sorted nat_cmp (seen_entries es) ≡ is_sorted nat_cmp es
sorted-seen [] = refl
sorted-seen (e ∷ es) = ap (λ b. b && is_sorted nat_cmp (seen_entries es)) (below-seen e.0 es) ∙ ap (λ b. below_all nat_cmp e.0 es && b) (sorted-seen es)

-- the entries are those that are kept
pub entries-objects : (m : Table) → maps.entries (objects_of m) ≡ seen_entries (maps.entries m)
entries-objects m = same_entries nat_cmp nat_cmp_total nat_cmp-IsAntisymmetric (maps.entries (objects_of m)) (seen_entries (maps.entries m)) (entries_sorted (objects_of m))
    (subst T (sym (sorted-seen (maps.entries m))) (entries_sorted m))
    (λ q. sym (get-entries (objects_of m) q) ∙ get-from_entries nat_cmp_total (seen_entries (maps.entries m)) q)

length-seen : (es : Row) → length (seen_entries es) ≡ length es
length-seen [] = refl
length-seen (e ∷ es) = ap suc (length-seen es)

pub len-objects : (m : Table) → maps.len (objects_of m) ≡ maps.len m
len-objects m = len-entries (objects_of m) ∙ ap length (entries-objects m) ∙ length-seen (maps.entries m) ∙ sym (len-entries m)

seen-cond : (b : Bool) (o p : Option Inode) → option_map object_of (cond b o p) ≡ cond b (option_map object_of o) (option_map object_of p)
seen-cond true o p = refl
seen-cond false o p = refl

pub objects-empty : objects_of maps.empty ≡ maps.empty
objects-empty = same_map nat_cmp_total nat_cmp-IsAntisymmetric _ _ (λ q. get-objects maps.empty q ∙ ap (option_map object_of) (get-empty nat_cmp q) ∙ sym (get-empty nat_cmp q))

pub objects-insert : (m : Table) (k : ℕ) (v : Inode) → objects_of (maps.insert m k v) ≡ maps.insert (objects_of m) k (object_of v)
objects-insert m k v = same_map nat_cmp_total nat_cmp-IsAntisymmetric _ _ (λ q.
    get-objects (maps.insert m k v) q ∙ ap (option_map object_of) (get-insert nat_cmp_total m k v q) ∙ seen-cond (eq_by_cmp nat_cmp q k) (Some v) (maps.get m q)
    ∙ sym (get-insert nat_cmp_total (objects_of m) k (object_of v) q ∙ ap (cond (eq_by_cmp nat_cmp q k) (Some (object_of v))) (get-objects m q)))

pub objects-remove : (m : Table) (k : ℕ) → objects_of (maps.remove m k) ≡ maps.remove (objects_of m) k
objects-remove m k = same_map nat_cmp_total nat_cmp-IsAntisymmetric _ _ (λ q.
    get-objects (maps.remove m k) q ∙ ap (option_map object_of) (get-remove nat_cmp_total m k q) ∙ seen-cond (eq_by_cmp nat_cmp q k) None (maps.get m q)
    ∙ sym (get-remove nat_cmp_total (objects_of m) k q ∙ ap (cond (eq_by_cmp nat_cmp q k) None) (get-objects m q)))

changed-step : (m : Table) (k : ℕ) (f : Inode → Inode) (g : Object → Object) (o : Option Inode) → ((i : Inode) → object_of (f i) ≡ g (object_of i))
    → objects_of (option_map_or (λ i. maps.insert m k (f i)) o m) ≡ option_map_or (λ x. maps.insert (objects_of m) k (g x)) (option_map object_of o) (objects_of m)
changed-step m k f g None same = refl
changed-step m k f g (Some i) same = objects-insert m k (f i) ∙ ap (maps.insert (objects_of m) k) (same i)

-- to change a kept object is to change the object
pub objects-changed : (m : Table) (k : ℕ) (f : Inode → Inode) (g : Object → Object) → ((i : Inode) → object_of (f i) ≡ g (object_of i))
    → objects_of (changed_at m k f) ≡ option_map_or (λ x. maps.insert (objects_of m) k (g x)) (maps.get (objects_of m) k) (objects_of m)
objects-changed m k f g same = changed-step m k f g (maps.get m k) same ∙ ap (λ o. option_map_or (λ x. maps.insert (objects_of m) k (g x)) o (objects_of m)) (sym (get-objects m k))

first-seen : (give : ℕ × Object → Option FileInfo) (es : Row) → first_given (λ e. give (e.0, object_of e.1)) es ≡ first_given give (seen_entries es)
first-seen give [] = refl
first-seen give (e ∷ es) = ap (option_or (give (e.0, object_of e.1))) (first-seen give es)

-- the file with the least greater number
pub file-past : (m : Table) (fid : ℕ) → file_past m fid ≡ first_given (λ e. cond (is_lt (nat_cmp fid e.0)) (file_from e.0 e.1) None) (maps.entries (objects_of m))
file-past m fid = first-seen (λ e. cond (is_lt (nat_cmp fid e.0)) (file_from e.0 e.1) None) (maps.entries m)
    ∙ ap (first_given (λ e. cond (is_lt (nat_cmp fid e.0)) (file_from e.0 e.1) None)) (sym (entries-objects m))
