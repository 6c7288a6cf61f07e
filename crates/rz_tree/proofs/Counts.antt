-- How many paths lead to an object, after a path is added or taken away.
use Rattle.std.proofs.Common.{◌≡◌, ℕ, ◌+◌, ◌≤◌, Bool, true, false, cond, T, [], ◌∷◌, map, Some, None, Ordering, sym, ap, ◌∙◌, refl, arith, eqb-true, eq-eqb, inl, inr, zero-add}
use Rattle.std.specs.Prelude.{◌==◌, count_by}
use Rattle.std.proofs.lemmas.List.Sums.{sum_by-cons}
use Rattle.std.specs.declared.cmp.Ordering.TheVariants.{Less, Equal, Greater}
use Rattle.std.specs.Ordering.{is_eq, eq_by_cmp}
use Rattle.std.specs.FinMap as maps
use Rattle.std.specs.FinMap.{FinMap, same_map, entries-insert, get-entries, entries_sorted}
use Rattle.std.specs.FinMap.Entries.{find, put, is_sorted, below_all, by_order}
use Rattle.rz_export_model.proofs.Tests.{left, right, is_less}
use Rattle.rz_export_model.specs.Paths.{Path, path_cmp, paths_total, exact_paths}
use Rattle.rz_export_model.specs.Tree.{paths_to}
use Rattle.rz_names.proofs.Names.{Entries}
use Rattle.rz_tree.proofs.Keys.{not_none, one-or-two, ties-itself, get-inserted, get-beside, get-removed, get-left}

-- how many of these entries lead to an object
abbrev pub count_to : Entries → ℕ → ℕ
count_to es fid = count_by (λ f. f == fid) (map (λ e. e.1) es)

-- one, where the two numbers are one
abbrev pub one_if : ℕ → ℕ → ℕ
one_if a b = cond (a == b) 1 0

pub cons-count : (e : Path × ℕ) (es : Entries) (fid : ℕ) → count_to (e ∷ es) fid ≡ one_if e.1 fid + count_to es fid
cons-count e es fid = sum_by-cons (λ (f : ℕ). cond (f == fid) 1 0) e.1 (map (λ (x : Path × ℕ). x.1) es)

put_step : (k : Path) (v fid : ℕ) (e : Path × ℕ) (es : Entries) (r : Ordering) → cond (is_eq r) (Some e.1) (find path_cmp k es) ≡ None
    → (find path_cmp k es ≡ None → count_to (put path_cmp k v es) fid ≡ one_if v fid + count_to es fid)
    → count_to (by_order r ((k, v) ∷ e ∷ es) ((e.0, v) ∷ es) (e ∷ put path_cmp k v es)) fid ≡ one_if v fid + count_to (e ∷ es) fid
put_step k v fid e es Less h more = cons-count (k, v) (e ∷ es) fid
put_step k v fid e es Equal h more = absurd (not_none e.1 h)
put_step k v fid e es Greater h more =
    let rest = more h in
    let whole = cons-count e es fid in
    cons-count e (put path_cmp k v es) fid ∙ ap (λ n. one_if e.1 fid + n) rest ∙ turned (one_if e.1 fid) (one_if v fid) (count_to es fid) ∙ ap (λ n. one_if v fid + n) (sym whole)
  where
    turned : (a b n : ℕ) → a + (b + n) ≡ b + (a + n)
    turned a b n = omega arith

put-count : (k : Path) (v : ℕ) (fid : ℕ) (es : Entries) → find path_cmp k es ≡ None → count_to (put path_cmp k v es) fid ≡ one_if v fid + count_to es fid
put-count k v fid [] none = cons-count (k, v) [] fid
put-count k v fid (e ∷ es) none = put_step k v fid e es (path_cmp k e.0) none (put-count k v fid es)

-- a new path counts
pub count-insert : (m : FinMap path_cmp ℕ) (k : Path) (v fid : ℕ) → maps.get m k ≡ None → paths_to (maps.insert m k v) fid ≡ one_if v fid + paths_to m fid
count-insert m k v fid none =
    ap (λ es. count_to es fid) (entries-insert paths_total m k v) ∙ put-count k v fid (maps.entries m) (sym (get-entries m k) ∙ none)

again : (m : FinMap path_cmp ℕ) (k : Path) (v : ℕ) → maps.get m k ≡ Some v → m ≡ maps.insert (maps.remove m k) k v
again m k v is = same_map paths_total exact_paths _ _ (λ q. elim (one-or-two paths_total exact_paths q k) [
  | inl same ↦ ap (maps.get m) same ∙ is ∙ sym (get-inserted paths_total exact_paths (maps.remove m k) k v) ∙ ap (maps.get (maps.insert (maps.remove m k) k v)) (sym same)
  | inr other ↦ sym (get-beside paths_total exact_paths (maps.remove m k) k v q other ∙ get-left paths_total exact_paths m k q other)
])

-- a path that goes counts no more
pub count-remove : (m : FinMap path_cmp ℕ) (k : Path) (v fid : ℕ) → maps.get m k ≡ Some v → paths_to m fid ≡ one_if v fid + paths_to (maps.remove m k) fid
count-remove m k v fid is = ap (λ n. paths_to n fid) (again m k v is) ∙ count-insert (maps.remove m k) k v fid (get-removed paths_total exact_paths m k)

pub one_if-same : (a : ℕ) → one_if a a ≡ 1
one_if-same a = ap (λ b. cond b 1 0) (eq-eqb a a refl)

pub one_if-other : (a b : ℕ) → (a ≡ b → ⊥) → one_if a b ≡ 0
one_if-other a b h = go (a == b) refl
  where
    go : (t : Bool) → (a == b) ≡ t → cond t 1 0 ≡ (let n : ℕ = 0 in n)
    go true is = absurd (h (eqb-true a b is))
    go false is = refl

-- an object with two paths has two
pub two-paths : (m : FinMap path_cmp ℕ) (p q : Path) (fid : ℕ) → maps.get m p ≡ Some fid → maps.get m q ≡ Some fid → eq_by_cmp path_cmp q p ≡ false → 2 ≤ paths_to m fid
two-paths m p q fid at_p at_q other =
    omega (arith, count-remove m p fid fid at_p, count-remove (maps.remove m p) q fid fid (get-left paths_total exact_paths m p q other ∙ at_q), one_if-same fid)

-- one path is one
pub some-path : (m : FinMap path_cmp ℕ) (p : Path) (fid : ℕ) → maps.get m p ≡ Some fid → 1 ≤ paths_to m fid
some-path m p fid at = omega (arith, count-remove m p fid fid at, one_if-same fid)

-- a path below all others is not among them
pub find-below : (k : Path) (es : Entries) → T (below_all path_cmp k es) → find path_cmp k es ≡ None
find-below k [] h = refl
find-below k (e ∷ es) h =
    ap (λ r. cond (is_eq r) (Some e.1) (find path_cmp k es)) (is_less _ (left _ _ h)) ∙ find-below k es (right _ _ h)

none-count : (fid : ℕ) (es : Entries) → T (is_sorted path_cmp es) → ((q : Path) → find path_cmp q es ≡ Some fid → ⊥) → count_to es fid ≡ 0
none-count fid [] h none = refl
none-count fid (e ∷ es) h none =
    let first : e.1 ≡ fid → ⊥ = λ is. none e.0 (ap (λ b. cond b (Some e.1) (find path_cmp e.0 es)) (ties-itself paths_total exact_paths e.0) ∙ ap Some is) in
    let rest : (q : Path) → find path_cmp q es ≡ Some fid → ⊥ = λ q is. elim (one-or-two paths_total exact_paths q e.0) [
      | inl same ↦ not_none fid (sym is ∙ ap (λ x. find path_cmp x es) same ∙ find-below e.0 es (left _ _ h))
      | inr other ↦ none q (ap (λ b. cond b (Some e.1) (find path_cmp q es)) other ∙ is)
    ] in
    cons-count e es fid ∙ ap (λ n. n + count_to es fid) (one_if-other e.1 fid first) ∙ zero-add (count_to es fid) ∙ none-count fid es (right _ _ h) rest

-- an object to which no path leads has none
pub no-path : (m : FinMap path_cmp ℕ) (fid : ℕ) → ((q : Path) → maps.get m q ≡ Some fid → ⊥) → paths_to m fid ≡ 0
no-path m fid none = none-count fid (maps.entries m) (entries_sorted m) (λ q is. none q (get-entries m q ∙ is))
