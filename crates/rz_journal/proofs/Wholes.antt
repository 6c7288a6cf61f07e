-- The parts of a whole export may stand in entries, and make it again.
use Rattle.std.proofs.Common.{◌≡◌, ℕ, zero, suc, T, List, [], ◌∷◌, ◌++◌, length, drop, map, Some, Ordering, refl, sym, ap, ◌∙◌, subst, arith, append_assoc}
use Rattle.std.specs.Cmp.{IsTotalOrder, nat_cmp_total}
use Rattle.std.specs.List.{slice_get, AllByRecursion}
use Rattle.std.specs.FinMap as maps
use Rattle.std.specs.FinMap.{FinMap, get-entries, entries_sorted}
use Rattle.std.specs.FinMap.Entries.{find, is_sorted}
use Rattle.rz_events.specs.declared.files.Kind.{Kind}
use Rattle.rz_events.specs.declared.files.Kind.TheVariants.{File, Dir, Link}
use Rattle.rz_export_model.specs.Paths.{Path, paths_total}
use Rattle.rz_export_model.specs.Tree.{Tree, Object}
use Rattle.rz_export_model.specs.Export.{Export}
use Rattle.rz_tree.specs.declared.parts.Part.{Part}
use Rattle.rz_tree.specs.Added.{FitsKind}
use Rattle.rz_tree.specs.Parts.{object_part, name_part, tree_parts}
use Rattle.rz_export.specs.Parts.{block_part, enrolled_part, flat_parts, export_parts}
use Rattle.rz_export_laws.specs.WholeTree.{IsWholeTree, ArePathsWritten}
use Rattle.rz_export_laws.specs.Whole.{IsWhole}
use Rattle.rz_export_laws.proofs.InOrder.{find-mid}
use Rattle.rz_journal_text.specs.Spelling.{IsShort, PartMayStand}

-- ---- an entry of a map is found in it

module _ {K X : Type 0} {R : K → K → Ordering} (o : IsTotalOrder R) where
  each_from : (m : FinMap R X) (xs es : List (K × X)) → xs ++ es ≡ maps.entries m → AllByRecursion (λ e. maps.get m e.0 ≡ Some e.1) es
  each_from m xs [] is = tt
  each_from m xs (e ∷ es) is = (
    get-entries m e.0 ∙ ap (find R e.0) (sym is) ∙ find-mid o xs e es (subst (λ (l : List (K × X)). T (is_sorted R l)) (sym is) (entries_sorted m)),
    each_from m (xs ++ e ∷ []) es (append_assoc xs (e ∷ []) es ∙ is),
  )

  each_found : (m : FinMap R X) → AllByRecursion (λ e. maps.get m e.0 ≡ Some e.1) (maps.entries m)
  each_found m = each_from m [] (maps.entries m) refl

-- ---- what holds of each of a list

all_mapped : {A B : Type 0} (Q : A → Type 0) (P : B → Type 0) (f : A → B) → ((x : A) → Q x → P (f x)) → (xs : List A) → AllByRecursion Q xs → AllByRecursion P (map f xs)
all_mapped Q P f may [] all = tt
all_mapped Q P f may (x ∷ xs) all = (may x all.0, all_mapped Q P f may xs all.1)

any_mapped : {A B : Type 0} (P : B → Type 0) (f : A → B) → ((x : A) → P (f x)) → (xs : List A) → AllByRecursion P (map f xs)
any_mapped P f may [] = tt
any_mapped P f may (x ∷ xs) = (may x, any_mapped P f may xs)

all_both : {A : Type 0} (P : A → Type 0) (xs ys : List A) → AllByRecursion P xs → AllByRecursion P ys → AllByRecursion P (xs ++ ys)
all_both P [] ys a b = b
all_both P (x ∷ xs) ys a b = (a.0, all_both P xs ys a.1 b)

all_behind : {A : Type 0} (P : A → Type 0) (xs : List A) → AllByRecursion P xs → AllByRecursion P (drop 1 xs)
all_behind P [] all = tt
all_behind P (x ∷ xs) all = all.1

one_of : {A : Type 0} (P : A → Type 0) (xs : List A) (i : ℕ) (x : A) → AllByRecursion P xs → slice_get xs i ≡ Some x → P x
one_of P [] i x all is = absurd (cc)
one_of {A = A} P (y ∷ ys) zero x all is = subst P (the_one y x is) all.0
  where
    the_one : (y x : A) → Some y ≡ Some x → y ≡ x
    the_one y x is = cc
one_of P (y ∷ ys) (suc i) x all is = one_of P ys i x all.1 is

-- ---- the parts of a whole export

short_target : (kind : Kind) (o : Object) → FitsKind kind o → IsShort o.target
short_target File o fits = let long : length o.target ≡ 0 = ap length fits in omega (arith, long)
short_target Dir o fits = let long : length o.target ≡ 0 = ap length fits.no_target in omega (arith, long)
short_target Link o fits = let long = fits.short_target in omega (arith, long)

tree_stands : ArePathsWritten → (t : Tree) → IsWholeTree t → AllByRecursion PartMayStand (tree_parts t)
tree_stands written t w = all_both PartMayStand _ _
    (all_mapped (λ (e : ℕ × Object). maps.get t.objects e.0 ≡ Some e.1) PartMayStand object_part (λ e at. short_target e.1.kind e.1 (w.fits e.0 e.1 at)) (maps.entries t.objects) (each_found nat_cmp_total t.objects))
    (all_mapped
    (λ (e : Path × ℕ). maps.get t.names e.0 ≡ Some e.1)
    PartMayStand
    name_part
    (λ e at. (let is = written t e.0 e.1 w at in (is.reads, is.short)))
    (drop 1 (maps.entries t.names))
    (all_behind (λ (e : Path × ℕ). maps.get t.names e.0 ≡ Some e.1) (maps.entries t.names) (each_found paths_total t.names)))

flat_stand : (s : Export) → AllByRecursion PartMayStand (flat_parts s)
flat_stand s = all_both PartMayStand _ _ (any_mapped PartMayStand block_part (λ e. tt) (maps.entries s.blocks)) (any_mapped PartMayStand enrolled_part (λ e. tt) (maps.entries s.enrolled))

pub part_stands : ArePathsWritten → (s : Export) → IsWhole s → (i : ℕ) (part : Part) → slice_get (export_parts s) i ≡ Some part → PartMayStand part
part_stands written s w i part at = one_of PartMayStand (export_parts s) i part (tt, all_both PartMayStand (tree_parts s.tree) (flat_parts s) (tree_stands written s.tree w.tree) (flat_stand s)) at
