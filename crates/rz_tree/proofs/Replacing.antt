-- Kept names and objects after a rename.
use Rattle.std.proofs.Common.{◌≡◌, ℕ, true, false, [], ◌∷◌, Some, None, sym, ap, ◌∙◌, subst}
use Rattle.std.specs.FinMap as maps
use Rattle.std.specs.FinMap.{FinMap}
use Rattle.rz_export_model.specs.Firsts.{first_of}
use Rattle.rz_export_model.specs.Paths.{Path, path_cmp, paths_total, exact_paths, above, is_root}
use Rattle.rz_export_model.specs.Tree.{Tree, is_at, is_dir, moved}
use Rattle.rz_export_model.specs.Refusals.{walk, absent, into_itself, not_replaceable, is_same_object}
use Rattle.rz_export_model.specs.TreeCalls.{renamed}
use Rattle.rz_tree.specs.declared.inodes.Inode.{Inode}
use Rattle.rz_tree.specs.Inodes.{Table, released}
use Rattle.rz_tree.specs.Trees.{tree_of, IsKept}
use Rattle.rz_tree.proofs.Keys.{get-removed}
use Rattle.rz_tree.proofs.Adds.{above-dir}
use Rattle.rz_tree.proofs.Takes.{taken-kept, taken-tree, taken-dir}
use Rattle.rz_tree.proofs.Renamings.{moved-kept, remove-absent}
use Rattle.rz_tree.proofs.Calls.{above-other, rename-walk, rename-away, rename-last, renamed-new, renamed-two}

module _ (names : FinMap path_cmp ℕ) (table : Table) (made : ℕ) (kept : IsKept names table made) (p q : Path)
    (free : first_of (walk (tree_of names table made) p ∷ absent (tree_of names table made) p ∷ into_itself (tree_of names table made) p q ∷ walk (tree_of names table made) q
    ∷ not_replaceable (tree_of names table made) p q ∷ []) ≡ None)
    (two : is_same_object (tree_of names table made) p q ≡ false) (from : is_root p ≡ false) (below : is_root q ≡ false) where
  parent : is_at (tree_of names table made) (above q) is_dir ≡ true
  parent = above-dir (tree_of names table made) kept.tree q below (rename-walk (tree_of names table made) kept.tree p q free two from)

  -- what stood at the new path goes
  module _ (fid : ℕ) (i : Inode) (at : maps.get names q ≡ Some fid) (is : maps.get table fid ≡ Some i) where
    pub replaced-kept : IsKept (moved p q (maps.remove names q)) (released table fid) made
    replaced-kept =
        let last = rename-last (tree_of names table made) kept.tree p q free two from in
        moved-kept (maps.remove names q) (released table fid) made (taken-kept names table made kept q fid i at is below last) p q
        (rename-away (tree_of names table made) kept.tree p q free two from) below (get-removed paths_total exact_paths names q)
        (taken-dir names table made kept q fid i at is below last (above q) (above-other q below) parent)

    pub replaced-tree : tree_of (moved p q (maps.remove names q)) (released table fid) made ≡ renamed (tree_of names table made) p q
    replaced-tree =
        let last = rename-last (tree_of names table made) kept.tree p q free two from in
        ap (λ (r : Tree). (let s : Tree = record r { names = moved p q r.names } in s)) (taken-tree names table made kept q fid i at is below last)
        ∙ renamed-two (tree_of names table made) p q two

  -- nothing stood there
  module _ (none : maps.get names q ≡ None) where
    pub new-kept : IsKept (moved p q (maps.remove names q)) table made
    new-kept = subst (λ n. IsKept (moved p q n) table made) (sym (remove-absent names q none))
        (moved-kept names table made kept p q (rename-away (tree_of names table made) kept.tree p q free two from) below none parent)

    pub new-tree : tree_of (moved p q (maps.remove names q)) table made ≡ renamed (tree_of names table made) p q
    new-tree = ap (λ n. tree_of (moved p q n) table made) (remove-absent names q none)
        ∙ renamed-new (tree_of names table made) kept.tree p q free two from none
