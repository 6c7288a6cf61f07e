-- What is found in a map in which a path, and all paths below it, were moved.
use Rattle.std.proofs.Common.{◌≡◌, ℕ, ◌+◌, Bool, true, false, cond, not, ◌&&◌, T, [], ◌∷◌, ◌++◌, length, drop, Some, None, sym, ap, ◌∙◌, refl}
use Rattle.std.specs.Ordering.{eq_by_cmp}
use Rattle.std.specs.FinMap as maps
use Rattle.std.specs.FinMap.{FinMap, get-from_entries, get-entries, get-empty, entries_sorted}
use Rattle.std.specs.FinMap.Entries.{find, is_sorted}
use Rattle.rz_export_model.proofs.Tests.{eq_true, left, right}
use Rattle.rz_export_model.specs.Paths.{Path, path_cmp, paths_total, exact_paths, begins_with, moved_path}
use Rattle.rz_export_model.specs.Tree.{moved, paths_to}
use Rattle.rz_names.proofs.PathOrder.{and_parts, begins-front}
use Rattle.rz_names.proofs.Moves.{not_true, none_begin, moved_each, find-each_in, find-each_from, find-each_out}
use Rattle.rz_tree.proofs.Counts.{count_to, one_if, cons-count, count-insert, no-path, find-below}
use Rattle.rz_names.proofs.Names.{Entries}
use Rattle.rz_tree.proofs.Keys.{ties-itself, not_none}

both : (a b : Bool) → a ≡ true → b ≡ true → (a && b) ≡ true
both true b ha hb = hb
both false b ha hb = cc

-- no entry begins with a path, where none that is found does
none-of : (t : Path) (l : Entries) → T (is_sorted path_cmp l) → ((q : Path) (f : ℕ) → find path_cmp q l ≡ Some f → begins_with t q ≡ false) → none_begin t l ≡ true
none-of t [] sorted clear = refl
none-of t (e ∷ l) sorted clear = both _ _
    (ap not (clear e.0 e.1 (ap (λ b. cond b (Some e.1) (find path_cmp e.0 l)) (ties-itself paths_total exact_paths e.0))))
    (none-of t l (right _ _ sorted) (λ q f is. clear q f (go q f is (eq_by_cmp path_cmp q e.0) refl)))
  where
    go : (q : Path) (f : ℕ) → find path_cmp q l ≡ Some f → (b : Bool) → eq_by_cmp path_cmp q e.0 ≡ b → cond b (Some e.1) (find path_cmp q l) ≡ Some f
    go q f is true same =
        let none : find path_cmp q l ≡ None = ap (λ x. find path_cmp x l) (exact_paths q e.0 (eq_true _ same)) ∙ find-below e.0 l (left _ _ sorted) in
        absurd (not_none f (sym is ∙ none))
    go q f is false same = is

-- the moved path of an entry is found only where the path is
moved-none : (p t k : Path) (l : Entries) → begins_with t k ≡ false → none_begin t l ≡ true → find path_cmp k l ≡ None → find path_cmp (moved_path p t k) (moved_each p t l) ≡ None
moved-none p t k l other none absent = go (begins_with p k) refl
  where
    go : (b : Bool) → begins_with p k ≡ b → find path_cmp (cond b (t ++ drop (length p) k) k) (moved_each p t l) ≡ None
    go true is = find-each_in p t (drop (length p) k) l none ∙ ap (λ x. find path_cmp x l) (sym (begins-front p k is)) ∙ absent
    go false is = find-each_out p t k l other is ∙ absent

-- the moved paths are apart, as the paths are
count-each : (p t : Path) (fid : ℕ) (l : Entries) → T (is_sorted path_cmp l) → none_begin t l ≡ true → paths_to (maps.from_entries (moved_each p t l)) fid ≡ count_to l fid
count-each p t fid [] sorted none = no-path maps.empty fid (λ q is. not_none fid (sym is ∙ get-empty path_cmp q))
count-each p t fid (e ∷ l) sorted none =
    let parts = and_parts (not (begins_with t e.0)) (none_begin t l) none in
    let rest : FinMap path_cmp ℕ = maps.from_entries (moved_each p t l) in
    count-insert rest (moved_path p t e.0) e.1 fid
    (get-from_entries paths_total (moved_each p t l) (moved_path p t e.0) ∙ moved-none p t e.0 l (not_true _ parts.0) parts.1 (find-below e.0 l (left _ _ sorted)))
    ∙ ap (λ n. one_if e.1 fid + n) (count-each p t fid l (right _ _ sorted) parts.1)
    ∙ sym (cons-count e l fid)

-- what a map has after a path and all below it were moved to a path with which none begins
module _ (m : FinMap path_cmp ℕ) (p t : Path) (clear : (q : Path) (f : ℕ) → maps.get m q ≡ Some f → begins_with t q ≡ false) where
  none : none_begin t (maps.entries m) ≡ true
  none = none-of t (maps.entries m) (entries_sorted m) (λ q f is. clear q f (get-entries m q ∙ is))

  pub get-in : (r : Path) → maps.get (moved p t m) (t ++ r) ≡ maps.get m (p ++ r)
  get-in r = get-from_entries paths_total (moved_each p t (maps.entries m)) (t ++ r) ∙ find-each_in p t r (maps.entries m) none ∙ sym (get-entries m (p ++ r))

  pub get-from : (q : Path) → begins_with t q ≡ false → begins_with p q ≡ true → maps.get (moved p t m) q ≡ None
  get-from q other begins = get-from_entries paths_total (moved_each p t (maps.entries m)) q ∙ find-each_from p t q (maps.entries m) other begins

  pub get-out : (q : Path) → begins_with t q ≡ false → begins_with p q ≡ false → maps.get (moved p t m) q ≡ maps.get m q
  get-out q other away = get-from_entries paths_total (moved_each p t (maps.entries m)) q ∙ find-each_out p t q (maps.entries m) other away ∙ sym (get-entries m q)

  -- as many paths lead to an object as before
  pub count-moved : (fid : ℕ) → paths_to (moved p t m) fid ≡ paths_to m fid
  count-moved fid = count-each p t fid (maps.entries m) (entries_sorted m) none
