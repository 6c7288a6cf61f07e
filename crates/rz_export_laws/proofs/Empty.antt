-- The tree of a new export is whole.
use Rattle.std.proofs.Common.{◌≡◌, ℕ, ◌+◌, ◌≤◌, true, cond, [], ◌∷◌, ◌++◌, Some, is_some, sym, ap, ◌∙◌, subst, refl, arith, inl, inr}
use Rattle.std.specs.Ordering.{nat_cmp}
use Rattle.std.specs.Cmp.{nat_cmp_total}
use Rattle.std.specs.List.{list_all}
use Rattle.std.specs.FinMap as maps
use Rattle.std.specs.FinMap.{FinMap, nat_cmp-IsAntisymmetric, len-insert}
use Rattle.rz_export_model.specs.Paths.{Path, path_cmp, paths_total, exact_paths, is_root}
use Rattle.rz_export_model.specs.Tree.{Object, is_at, is_dir, paths_to}
use Rattle.rz_tree.specs.Trees.{IsTree}
use Rattle.rz_tree.specs.Added.{FitsKind, most_names}
use Rattle.rz_tree.proofs.Counts.{count-insert, one_if-same, no-path}
use Rattle.rz_export_laws.specs.WholeTree.{IsWholeTree, is_plain}
use Rattle.rz_tree.proofs.Keys.{same_some, not_none, false-true, held, one-or-two, get-inserted, get-beside}
use Rattle.rz_tree.proofs.Fronts.{not-root-more}
use Rattle.rz_tree.proofs.Rules.{dir-is}
use Rattle.std.specs.FinMap.{get-empty, len-empty}
use Rattle.rz_export_model.specs.Tree.{empty_tree, new_dir}
use Rattle.rz_tree.specs.Added.{IsDirectory}

abbrev no_names : FinMap path_cmp ℕ
no_names = maps.empty

abbrev no_objects : FinMap nat_cmp Object
no_objects = maps.empty

at-root : maps.get empty_tree.names [] ≡ Some 0
at-root = get-inserted paths_total exact_paths no_names [] 0

only-name : (path : Path) (fid : ℕ) → maps.get empty_tree.names path ≡ Some fid → (path ≡ []) × (fid ≡ 0)
only-name path fid at = elim (one-or-two paths_total exact_paths path []) [
  | inl same ↦ (same, sym (same_some 0 fid (sym (ap (maps.get empty_tree.names) same ∙ at-root) ∙ at)))
  | inr other ↦ absurd (not_none fid (sym at ∙ get-beside paths_total exact_paths no_names [] 0 path other ∙ get-empty path_cmp path))
]

root-object : maps.get empty_tree.objects 0 ≡ Some new_dir
root-object = get-inserted nat_cmp_total nat_cmp-IsAntisymmetric no_objects 0 new_dir

only-object : (fid : ℕ) (o : Object) → maps.get empty_tree.objects fid ≡ Some o → (fid ≡ 0) × (new_dir ≡ o)
only-object fid o at = elim (one-or-two nat_cmp_total nat_cmp-IsAntisymmetric fid 0) [
  | inl same ↦ (same, same_some new_dir o (sym (ap (maps.get empty_tree.objects) same ∙ root-object) ∙ at))
  | inr other ↦ absurd (not_none o (sym at ∙ get-beside nat_cmp_total nat_cmp-IsAntisymmetric no_objects 0 new_dir fid other ∙ get-empty nat_cmp fid))
]

pub number : (fid : ℕ) → is_some (maps.get empty_tree.objects fid) ≡ true → fid ≡ 0
number fid there = let h = held (maps.get empty_tree.objects fid) there in (only-object fid h.0 h.1).0

one-path : paths_to empty_tree.names 0 ≡ 1
one-path = count-insert no_names [] 0 0 (get-empty path_cmp [])
    ∙ ap (λ n. n + paths_to no_names 0) (one_if-same 0) ∙ ap (λ n. 1 + n) (no-path no_names 0 (λ q is. not_none 0 (sym is ∙ get-empty path_cmp q)))

paths : (fid : ℕ) → fid ≡ 0 → paths_to empty_tree.names fid ≡ 1
paths fid same = ap (paths_to empty_tree.names) same ∙ one-path

root-dir : is_at empty_tree [] is_dir ≡ true
root-dir = dir-is empty_tree [] (record { fid = 0; object = new_dir; at = at-root; is = root-object; dir = refl })

empty-rules : IsTree empty_tree
empty-rules = record {
  root = root-dir;
  leads = λ path fid at. ap (λ n. is_some (maps.get empty_tree.objects n)) (only-name path fid at).1 ∙ ap is_some root-object;
  under = λ path name there. let h = held (maps.get empty_tree.names (path ++ name ∷ [])) there in
      absurd (false-true (sym (not-root-more path name) ∙ ap is_root (only-name (path ++ name ∷ []) h.0 h.1).0));
  single = λ fid o at dir. let one : paths_to empty_tree.names fid ≡ 1 = paths fid (only-object fid o at).0 in omega (arith, one);
  drawn = λ fid there. let none : fid ≡ 0 = number fid there in omega (arith, none);
}

directory : IsDirectory new_dir
directory = record { empty = refl; no_target = refl; nowhere = record { no_cluster = refl; no_places = refl } }

one-object : maps.len empty_tree.objects ≡ 1
one-object = len-insert nat_cmp_total no_objects 0 new_dir
    ∙ ap (λ b. cond b (maps.len no_objects) (maps.len no_objects + 1)) (ap is_some (get-empty nat_cmp 0)) ∙ ap (λ n. n + 1) (len-empty nat_cmp Object)

pub empty-whole : IsWholeTree empty_tree
empty-whole = record {
  rules = empty-rules;
  root = at-root;
  root_alone = λ path at. (only-name path 0 at).0;
  few = omega (arith, one-object);
  fits = λ fid o at. subst (λ (z : Object). FitsKind z.kind z) (only-object fid o at).1 directory;
  named = λ fid there. let one : paths_to empty_tree.names fid ≡ 1 = paths fid (number fid there) in omega (arith, one);
  few_names = λ fid o at. let one : paths_to empty_tree.names fid ≡ 1 = paths fid (only-object fid o at).0 in
      subst (λ (z : Object). paths_to empty_tree.names fid ≤ most_names z.kind) (only-object fid o at).1 (omega (arith, one));
  spelled = λ path fid at. ap (list_all is_plain) (only-name path fid at).0;
}
