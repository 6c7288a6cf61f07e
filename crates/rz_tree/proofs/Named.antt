-- Whether each object has a name, by the counts of the kept ones.
use Rattle.std.proofs.Common.{◌≡◌, ℕ, ◌<◌, ◌≤◌, Bool, true, false, cond, ◌&&◌, ◌↔◌, T, [], ◌∷◌, Some, None, is_some, Ordering, sym, ap, ◌∙◌, refl, arith}
use Rattle.std.specs.Prelude.{nat_lt}
use Rattle.std.specs.declared.cmp.Ordering.TheVariants.{Less, Equal, Greater}
use Rattle.std.specs.declared.ops.Bound.TheVariants.{Included, Unbounded}
use Rattle.std.specs.BTreeMap.Range.{entries_between}
use Rattle.std.specs.List.Sorted.{IsStrictlySortedBy}
use Rattle.std.specs.Map.{keys_of}
use Rattle.std.specs.Option.{option_map}
use Rattle.std.specs.Ordering.{nat_cmp, is_eq, is_le, eq_by_cmp}
use Rattle.std.specs.Cmp.{nat_cmp_total, ranked, tied_itself}
use Rattle.std.specs.FinMap as maps
use Rattle.std.specs.FinMap.{FinMap, get-entries, entries_sorted}
use Rattle.std.specs.FinMap.Entries.{find, is_sorted, below_all}
use Rattle.rz_export_model.proofs.Tests.{left, right, is_less, eq_true}
use Rattle.rz_export_model.specs.Paths.{path_cmp}
use Rattle.rz_export_model.specs.Tree.{paths_to}
use Rattle.rz_tree.specs.declared.inodes.Inode.{Inode}
use Rattle.rz_tree.specs.Inodes.{Table, object_of, objects_of, are_linked}
use Rattle.rz_tree.specs.Trees.{tree_of, IsCounted}
use Rattle.rz_tree.specs.Added.{AreNamed}
use Rattle.rz_tree.proofs.Keys.{not_none, held, same_some}
use Rattle.rz_tree.proofs.Lasts.{and-left, and-right}
use Rattle.rz_tree.proofs.Rules.{from-map}
use Rattle.rz_tree.proofs.Tables.{get-objects}
use Rattle.rz_tree.proofs.Walks.{lt-test, test-lt}
use Rattle.rz_tree.proofs.Allowed.{and-both}
use Rattle.rz_tree.proofs.Rows.{Row, table_of, entries-row}

-- nothing is found above a number under the number itself
none-above : (q x : ℕ) (es : Row) → nat_cmp q x ≡ Equal → T (below_all nat_cmp x es) → find nat_cmp q es ≡ None
none-above q x [] same h = refl
none-above q x (e ∷ es) same h =
    ap (λ r. cond (is_eq r) (Some e.1) (find nat_cmp q es)) (nat_cmp_total.congr q x e.0 same ∙ is_less _ (left _ _ h)) ∙ none-above q x es same (right _ _ h)

abbrev linked : Inode → Bool
linked i = nat_lt 0 i.links

-- what is found passes a test that all pass
found-linked : (es : Row) (q : ℕ) (i : Inode) → are_linked es ≡ true → find nat_cmp q es ≡ Some i → linked i ≡ true
found-linked [] q i all at = absurd (not_none i (sym at))
found-linked (e ∷ es) q i all at = go (eq_by_cmp nat_cmp q e.0) at (found-linked es q i (and-right (linked e.1) (are_linked es) all))
  where
    go : (b : Bool) → cond b (Some e.1) (find nat_cmp q es) ≡ Some i → (find nat_cmp q es ≡ Some i → linked i ≡ true) → linked i ≡ true
    go true is later = ap linked (sym (same_some e.1 i is)) ∙ and-left (linked e.1) (are_linked es) all
    go false is later = later is

-- all pass a test that all pass that are found
all-linked : (es : Row) → T (is_sorted nat_cmp es) → ((q : ℕ) (i : Inode) → find nat_cmp q es ≡ Some i → linked i ≡ true) → are_linked es ≡ true
all-linked [] h found = refl
all-linked (e ∷ es) h found =
    and-both (linked e.1) (are_linked es)
    (found e.0 e.1 (ap (λ r. cond (is_eq r) (Some e.1) (find nat_cmp e.0 es)) (tied_itself nat_cmp_total e.0)))
    (all-linked es (right _ _ h) (λ q i at. found q i (other q i (eq_by_cmp nat_cmp q e.0) refl at)))
  where
    other : (q : ℕ) (i : Inode) (b : Bool) → eq_by_cmp nat_cmp q e.0 ≡ b → find nat_cmp q es ≡ Some i → cond b (Some e.1) (find nat_cmp q es) ≡ Some i
    other q i true tied at = absurd (not_none i (sym at ∙ none-above q e.0 es (eq_true (nat_cmp q e.0) tied) (left _ _ h)))
    other q i false apart at = at

module _ (names : FinMap path_cmp ℕ) (table : Table) (made : ℕ) (counted : IsCounted names table) where
  named-rule : are_linked (maps.entries table) ≡ true → AreNamed (tree_of names table made)
  named-rule all fid there =
      let own = held (maps.get (objects_of table) fid) there in
      let kept = from-map object_of (maps.get table fid) own.0 (sym (get-objects table fid) ∙ own.1) in
      let some : 0 < kept.0.links = test-lt 0 kept.0.links (found-linked (maps.entries table) fid kept.0 all (sym (get-entries table fid) ∙ kept.1)) in
      let count : kept.0.links ≡ paths_to names fid = counted fid kept.0 kept.1 in
      omega (arith, some, count)

  named-test : AreNamed (tree_of names table made) → are_linked (maps.entries table) ≡ true
  named-test named = all-linked (maps.entries table) (entries_sorted table) (λ q i at.
      let is : maps.get table q ≡ Some i = get-entries table q ∙ at in
      let some : 1 ≤ paths_to names q = named q (ap is_some (get-objects table q ∙ ap (option_map object_of) is)) in
      let count : i.links ≡ paths_to names q = counted q i is in
      lt-test 0 i.links (omega (arith, some, count)))

  pub named-rules : (are_linked (maps.entries table) ≡ true) ↔ AreNamed (tree_of names table made)
  named-rules = (named-rule, named-test)

-- ---- the loop

at-least : (q : ℕ) → is_le (nat_cmp 0 q) ≡ true
at-least q = go (nat_cmp 0 q) refl
  where
    go : (r : Ordering) → nat_cmp 0 q ≡ r → is_le r ≡ true
    go Less is = refl
    go Equal is = refl
    go Greater is = (let never : q < 0 = ranked 0 q Greater (sym is) in absurd (omega (arith, never)))

pub all-between : (es : Row) → entries_between nat_cmp (Included 0) Unbounded es ≡ es
all-between [] = refl
all-between (e ∷ es) =
    ap (λ b. cond (b && true) (e ∷ entries_between nat_cmp (Included 0) Unbounded es) (entries_between nat_cmp (Included 0) Unbounded es)) (at-least e.0)
    ∙ ap (λ l. e ∷ l) (all-between es)

-- the entries of a range of all are the table's
pub linked-row : (es range : Row) (m : Table) → IsStrictlySortedBy nat_cmp (keys_of es) → table_of es ≡ m → range ≡ entries_between nat_cmp (Included 0) Unbounded es
    → are_linked range ≡ are_linked (maps.entries m)
linked-row es range m ordered view between =
    ap are_linked (between ∙ all-between es ∙ sym (entries-row es ordered)) ∙ ap (λ t. are_linked (maps.entries t)) view

pub linked-more : (s t : Row) (e : ℕ × Inode) → s ≡ e ∷ t → (e.1.links ≡ 0 → ⊥) → are_linked t ≡ are_linked s
linked-more s t e is some =
    let own : nat_lt 0 e.1.links ≡ true = lt-test 0 e.1.links (omega (arith, some)) in
    sym (ap are_linked is ∙ ap (λ b. b && are_linked t) own)

pub linked-not : (s t : Row) (e : ℕ × Inode) → s ≡ e ∷ t → e.1.links ≡ 0 → false ≡ are_linked s
linked-not s t e is none = sym (ap are_linked is ∙ ap (λ n. nat_lt 0 n && are_linked t) none)

pub linked-end : (s : Row) → s ≡ [] → true ≡ are_linked s
linked-end s is = sym (ap are_linked is)
