-- The map that the entries of an ordered map stand for.
use Rattle.std.proofs.Common.{◌≡◌, ℕ, Bool, true, false, cond, ◌&&◌, T, List, [], ◌∷◌, Option, Some, None, sym, ap, ◌∙◌, subst, refl, length}
use Rattle.std.specs.declared.cmp.Ordering.TheVariants.{Less}
use Rattle.std.specs.Option.{option_map_or}
use Rattle.std.specs.Ordering.{is_lt, nat_cmp, eq_by_cmp}
use Rattle.std.specs.Cmp.{eq_by_cmp_equiv, nat_cmp_total}
use Rattle.std.specs.BTreeMap.{is_at}
use Rattle.std.specs.Map.{lookup, keys_of}
use Rattle.std.specs.List.{AllByRecursion}
use Rattle.std.specs.List.Sorted.{IsStrictlySortedBy}
use Rattle.std.proofs.lemmas.Map.Keys.{sorted_head, sorted_tail}
use Rattle.std.specs.FinMap as maps
use Rattle.std.specs.FinMap.{same_map, get-from_entries, get-insert, get-remove, get-entries, len-entries, entries_sorted, nat_cmp-IsAntisymmetric}
use Rattle.std.specs.FinMap.Entries.{find, is_sorted, below_all, same_entries}
use Rattle.rz_export_model.proofs.Tests.{both}
use Rattle.rz_tree.specs.declared.inodes.Inode.{Inode}
use Rattle.rz_tree.specs.Inodes.{Table, changed_at}

abbrev pub Row : Type 0
Row = List (ℕ × Inode)

abbrev pub table_of : Row → Table
table_of es = maps.from_entries es

abbrev pub kept_at : Row → ℕ → Option Inode
kept_at es q = lookup (is_at (nat_cmp q)) es

find-row : (es : Row) (q : ℕ) → find nat_cmp q es ≡ kept_at es q
find-row [] q = refl
find-row (e ∷ es) q = ap (cond (is_at (nat_cmp q) e.0) (Some e.1)) (find-row es q)

pub get-row : (es : Row) (q : ℕ) → maps.get (table_of es) q ≡ kept_at es q
get-row es q = get-from_entries nat_cmp_total es q ∙ find-row es q

-- entries that differ at one number make tables that differ there
pub one-set : (es fs : Row) (k : ℕ) (v : Inode) → ((q : ℕ) → kept_at fs q ≡ cond (is_at (nat_cmp k) q) (Some v) (kept_at es q)) → table_of fs ≡ maps.insert (table_of es) k v
one-set es fs k v h = same_map nat_cmp_total nat_cmp-IsAntisymmetric _ _ (λ q.
    get-row fs q ∙ h q ∙ ap (λ b. cond b (Some v) (kept_at es q)) ((eq_by_cmp_equiv nat_cmp_total).symm k q)
    ∙ sym (get-insert nat_cmp_total (table_of es) k v q ∙ ap (cond (eq_by_cmp nat_cmp q k) (Some v)) (get-row es q)))

pub one-gone : (es fs : Row) (k : ℕ) → ((q : ℕ) → kept_at fs q ≡ cond (is_at (nat_cmp k) q) None (kept_at es q)) → table_of fs ≡ maps.remove (table_of es) k
one-gone es fs k h = same_map nat_cmp_total nat_cmp-IsAntisymmetric _ _ (λ q.
    get-row fs q ∙ h q ∙ ap (λ b. cond b None (kept_at es q)) ((eq_by_cmp_equiv nat_cmp_total).symm k q)
    ∙ sym (get-remove nat_cmp_total (table_of es) k q ∙ ap (cond (eq_by_cmp nat_cmp q k) None) (get-row es q)))

below-row : (k : ℕ) (es : Row) → AllByRecursion (λ y. nat_cmp k y ≡ Less) (keys_of es) → T (below_all nat_cmp k es)
below-row k [] h = tt
below-row k (e ∷ es) h = both _ _ (subst (λ r. T (is_lt r)) (sym h.0) tt) (below-row k es h.1)

sorted-row : (es : Row) → IsStrictlySortedBy nat_cmp (keys_of es) → T (is_sorted nat_cmp es)
sorted-row [] h = tt
sorted-row (e ∷ es) h = both _ _ (below-row e.0 es (sorted_head nat_cmp e.0 (keys_of es) h)) (sorted-row es (sorted_tail nat_cmp e.0 (keys_of es) h))

-- the entries in order are the table's
pub entries-row : (es : Row) → IsStrictlySortedBy nat_cmp (keys_of es) → maps.entries (table_of es) ≡ es
entries-row es h = same_entries nat_cmp nat_cmp_total nat_cmp-IsAntisymmetric (maps.entries (table_of es)) es (entries_sorted (table_of es)) (sorted-row es h)
    (λ q. sym (get-entries (table_of es) q) ∙ get-from_entries nat_cmp_total es q)

pub len-row : (es : Row) → IsStrictlySortedBy nat_cmp (keys_of es) → maps.len (table_of es) ≡ length es
len-row es h = len-entries (table_of es) ∙ ap length (entries-row es h)

-- an entry that is written through
pub one-changed : (es fs : Row) (k : ℕ) (f : Inode → Inode) (i : Inode) → kept_at es k ≡ Some i
    → ((q : ℕ) → kept_at fs q ≡ cond (is_at (nat_cmp k) q) (Some (f i)) (kept_at es q)) → table_of fs ≡ changed_at (table_of es) k f
one-changed es fs k f i at h =
    one-set es fs k (f i) h ∙ sym (ap (λ o. option_map_or (λ x. maps.insert (table_of es) k (f x)) o (table_of es)) (get-row es k ∙ at))

pub none-changed : (es fs : Row) (k : ℕ) (f : Inode → Inode) → kept_at es k ≡ None → fs ≡ es → table_of fs ≡ changed_at (table_of es) k f
none-changed es fs k f none same =
    ap table_of same ∙ sym (ap (λ o. option_map_or (λ x. maps.insert (table_of es) k (f x)) o (table_of es)) (get-row es k ∙ none))
