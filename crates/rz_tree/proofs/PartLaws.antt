-- The parts of a tree, after one more was added.
use Rattle.std.proofs.Common.{◌≡◌, ℕ, true, List, [], ◌∷◌, ◌++◌, drop, map, Some, sym, ap, ◌∙◌, refl, append_assoc}
use Rattle.std.proofs.lemmas.List.{map-append, append-nil}
use Rattle.std.specs.Cmp.{nat_cmp_total}
use Rattle.std.specs.FinMap as maps
use Rattle.std.specs.FinMap.{get-entries}
use Rattle.std.specs.FinMap.Entries.{find}
use Rattle.rz_export_model.specs.Paths.{Path, path_cmp, paths_total, above}
use Rattle.rz_export_model.specs.Tree.{Tree, Object, is_at, is_dir}
use Rattle.rz_export_model.specs.TreeCalls.{with_name}
use Rattle.rz_names.specs.Names.{below_root}
use Rattle.rz_tree.specs.Parts.{object_part, name_part, tree_parts}
use Rattle.rz_tree.specs.Added.{is_behind, with_given}
use Rattle.rz_tree.proofs.Keys.{not_none}
use Rattle.rz_tree.proofs.Rules.{dir-found}
use Rattle.rz_tree.proofs.Lasts.{entries-last}

-- where something is found, what follows the first entry is as before, and then the new one
drop-more : (es : List (Path × ℕ)) (e : Path × ℕ) (q : Path) (n : ℕ) → find path_cmp q es ≡ Some n → drop 1 (es ++ e ∷ []) ≡ drop 1 es ++ e ∷ []
drop-more [] e q n is = absurd (not_none n (sym is))
drop-more (x ∷ es) e q n is = refl

module _ (t : Tree) where
  -- the object is the last part, where there are no names yet
  pub object-added : (fid : ℕ) (o : Object) → is_behind t.objects fid ≡ true → below_root t.names ≡ []
      → tree_parts (with_given t fid o) ≡ tree_parts t ++ object_part (fid, o) ∷ []
  object-added fid o behind none =
      ap (λ ns. map object_part (maps.entries (maps.insert t.objects fid o)) ++ map name_part ns) none
      ∙ append-nil (map object_part (maps.entries (maps.insert t.objects fid o)))
      ∙ ap (map object_part) (entries-last nat_cmp_total t.objects fid behind o)
      ∙ map-append object_part (maps.entries t.objects) ((fid, o) ∷ [])
      ∙ ap (λ l. l ++ object_part (fid, o) ∷ []) (sym (
      ap (λ ns. map object_part (maps.entries t.objects) ++ map name_part ns) none ∙ append-nil (map object_part (maps.entries t.objects))))

  -- the name is the last part
  pub name-added : (path : Path) (fid : ℕ) → is_behind t.names path ≡ true → is_at t (above path) is_dir ≡ true
      → tree_parts (with_name t path fid) ≡ tree_parts t ++ name_part (path, fid) ∷ []
  name-added path fid behind under =
      let d = dir-found t (above path) under in
      let rest : below_root (maps.insert t.names path fid) ≡ below_root t.names ++ (path, fid) ∷ [] =
      ap (drop 1) (entries-last paths_total t.names path behind fid)
      ∙ drop-more (maps.entries t.names) (path, fid) (above path) d.fid (sym (get-entries t.names (above path)) ∙ d.at) in
      ap (λ ns. map object_part (maps.entries t.objects) ++ map name_part ns) rest
      ∙ ap (λ l. map object_part (maps.entries t.objects) ++ l) (map-append name_part (below_root t.names) ((path, fid) ∷ []))
      ∙ sym (append_assoc (map object_part (maps.entries t.objects)) (map name_part (below_root t.names)) (name_part (path, fid) ∷ []))
