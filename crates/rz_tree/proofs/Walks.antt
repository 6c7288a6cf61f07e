-- The first entry past a key, and the entry at the next place.
use Rattle.std.proofs.Common.{◌≡◌, ℕ, zero, suc, ◌≤◌, ◌<◌, Bool, true, false, cond, ◌&&◌, T, List, [], ◌∷◌, Option, Some, Ordering, sym, ap, ◌∙◌, subst, refl, arith, slice_get}
use Rattle.std.proofs.lemmas.Bool.Decides.{nat_tests}
use Rattle.std.specs.Prelude.{nat_lt, nat_le}
use Rattle.std.specs.declared.cmp.Ordering.TheVariants.{Less, Equal, Greater}
use Rattle.std.specs.declared.ops.Bound.{Bound}
use Rattle.std.specs.declared.ops.Bound.TheVariants.{Unbounded}
use Rattle.std.specs.BTreeMap.Range.{range_contains, entries_between}
use Rattle.std.specs.List as lists
use Rattle.std.specs.List.Sorted.{IsStrictlySortedBy}
use Rattle.std.specs.Map.{keys_of}
use Rattle.std.specs.Option.{option_map}
use Rattle.std.specs.Ordering.{nat_cmp, is_lt, ordering_reverse}
use Rattle.std.specs.Cmp.{IsTotalOrder, ranked, tied_itself}
use Rattle.std.specs.FinMap as maps
use Rattle.std.specs.FinMap.Entries.{is_sorted, below_all}
use Rattle.rz_export_model.proofs.Tests.{left, right, is_less}
use Rattle.rz_tree.specs.declared.inodes.Inode.{Inode}
use Rattle.rz_tree.specs.Inodes.{Table, object_of, seen_entries, objects_of, is_past, first_past, IsStartPast}
use Rattle.rz_tree.proofs.Keys.{same_some, not_none}
use Rattle.rz_tree.proofs.Rows.{Row, table_of, entries-row}
use Rattle.rz_tree.proofs.Tables.{entries-objects}

-- ---- tests of numbers

pub le-test : (a b : ℕ) → a ≤ b → nat_le a b ≡ true
le-test a b h = grind (arith, nat_tests)

pub test-lt : (a b : ℕ) → nat_lt a b ≡ true → a < b
test-lt a b h = grind (arith, nat_tests)

pub lt-test : (a b : ℕ) → a < b → nat_lt a b ≡ true
lt-test a b h = grind (arith, nat_tests)

pub not-lt : (a b : ℕ) → b ≤ a → nat_lt a b ≡ false
not-lt a b h = grind (arith, nat_tests)

-- ---- past a number

-- the test of numbers is that of their order
pub lt-same : (a b : ℕ) → nat_lt a b ≡ is_lt (nat_cmp a b)
lt-same a b = go (nat_cmp a b) refl
  where
    go : (r : Ordering) → nat_cmp a b ≡ r → nat_lt a b ≡ is_lt r
    go Less is = lt-test a b (ranked a b Less (sym is))
    go Equal is = let same : a ≡ b = ranked a b Equal (sym is) in not-lt a b (omega (arith, same))
    go Greater is = let more : b < a = ranked a b Greater (sym is) in not-lt a b (omega (arith, more))

abbrev pub first : Row → Option (ℕ × Inode)
first es = lists.find (λ x. true) es

module _ (lo : Bound ℕ) (after : Option ℕ) (start : IsStartPast lo after) where
  abbrev inside : Row → Row
  inside es = entries_between nat_cmp lo Unbounded es

  step : (e : ℕ × Inode) (rest : Row) (b : Bool) → is_past after e.0 ≡ b → first_past after rest ≡ first (inside rest)
      → cond b (Some e) (first_past after rest) ≡ first (cond (range_contains nat_cmp lo Unbounded e.0) (e ∷ inside rest) (inside rest))
  step e rest true is more = sym (ap (λ b. first (cond (b && true) (e ∷ inside rest) (inside rest))) (start e.0 ∙ is))
  step e rest false is more = more ∙ sym (ap (λ b. first (cond (b && true) (e ∷ inside rest) (inside rest))) (start e.0 ∙ is))

  -- the first entry of the range is the first past the number
  pub first-inside : (es : Row) → first_past after es ≡ first (inside es)
  first-inside [] = refl
  first-inside (e ∷ es) = step e es (is_past after e.0) refl (first-inside es)

  pub first-entry : (es : Row) → IsStrictlySortedBy nat_cmp (keys_of es) → (range : Row) → range ≡ inside es → first range ≡ first_past after (maps.entries (table_of es))
  first-entry es ordered range is = ap first is ∙ sym (first-inside es) ∙ sym (ap (first_past after) (entries-row es ordered))

past-seen : (after : Option ℕ) (es : Row) → first_past after (seen_entries es) ≡ option_map (λ e. (e.0, object_of e.1)) (first_past after es)
past-seen after [] = refl
past-seen after (e ∷ es) = elim (is_past after e.0) as (λ b. cond b (Some (e.0, object_of e.1)) (first_past after (seen_entries es)) ≡ option_map (λ (x : ℕ × Inode). (x.0, object_of x.1)) (cond b (Some e) (first_past after es))) [
  | true ↦ refl
  | false ↦ past-seen after es
]

-- the object past a number is the kept one there
pub object-past : (after : Option ℕ) (m : Table) → first_past after (maps.entries (objects_of m)) ≡ option_map (λ e. (e.0, object_of e.1)) (first_past after (maps.entries m))
object-past after m = ap (first_past after) (entries-objects m) ∙ past-seen after (maps.entries m)

-- ---- the next place

module _ {K X : Type 0} {R : K → K → Ordering} (o : IsTotalOrder R) (past : K → Bool) (z : K × X) (is : (q : K) → past q ≡ is_lt (R z.0 q)) where
  abbrev rest : List (K × X) → Option (K × X)
  rest es = lists.find (λ e. past e.0) es

  all-past : (es : List (K × X)) → T (below_all R z.0 es) → rest es ≡ slice_get es 0
  all-past [] h = refl
  all-past (e ∷ es) h = ap (λ t. cond t (Some e) (rest es)) (is e.0 ∙ ap is_lt (is_less _ (left _ _ h)))

  not-itself : past z.0 ≡ false
  not-itself = is z.0 ∙ ap is_lt (tied_itself o z.0)

  not-before : (k : K) → R k z.0 ≡ Less → past k ≡ false
  not-before k less = is k ∙ ap is_lt (o.antisymm z.0 k ∙ ap ordering_reverse less)

  above-first : (k : K) (es : List (K × X)) (i : ℕ) → T (below_all R k es) → slice_get es i ≡ Some z → R k z.0 ≡ Less
  above-first k [] i h at = absurd (not_none z (sym at))
  above-first k (e ∷ es) zero h at = ap (λ (x : K × X). R k x.0) (sym (same_some e z at)) ∙ is_less _ (left _ _ h)
  above-first k (e ∷ es) (suc i) h at = above-first k es i (right _ _ h) at

  -- behind an entry that stands in order, the first past it is at the next place
  pub next-past : (es : List (K × X)) (i : ℕ) → T (is_sorted R es) → slice_get es i ≡ Some z → rest es ≡ slice_get es (suc i)
  next-past [] i h at = absurd (not_none z (sym at))
  next-past (e ∷ es) zero h at =
      let same : e ≡ z = same_some e z at in
      ap (λ t. cond t (Some e) (rest es)) (ap (λ (x : K × X). past x.0) same ∙ not-itself)
      ∙ all-past es (subst (λ (x : K × X). T (below_all R x.0 es)) same (left _ _ h))
  next-past (e ∷ es) (suc i) h at =
      ap (λ t. cond t (Some e) (rest es)) (not-before e.0 (above-first e.0 es i (left _ _ h) at)) ∙ next-past es i (right _ _ h) at
