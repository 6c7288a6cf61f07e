-- Laws of a map of names.
use Rattle.std.proofs.Common.{◌≡◌, ℕ, zero, suc, ◌<◌, ◌≤◌, Bool, true, false, cond, not, T, List, [], ◌∷◌, ◌++◌, length, take, drop, map, Option, Some, None, is_some, Ordering, sym, ap, ◌∙◌, subst, refl, inl, inr, ◌⊎◌, arith, IsTrue}
use Rattle.std.proofs.lemmas.Bool.{cases_lt}
use Rattle.std.proofs.lemmas.List.{take-append-drop}
use Rattle.std.specs.declared.cmp.Ordering.TheVariants.{Less, Equal, Greater}
use Rattle.std.specs.List.{insert, remove, filter_map, cons_option}
use Rattle.std.specs.Ordering.{is_eq, is_gt, eq_by_cmp}
use Rattle.std.specs.Cmp.{tied_itself, eq_by_cmp_equiv}
use Rattle.std.specs.FinMap as maps
use Rattle.std.specs.FinMap.{same_map, same_entries_map, get-from_sorted, entries-from_sorted, entries-insert, get-insert, get-remove, get-empty}
use Rattle.std.specs.FinMap.Entries.{find, put, is_sorted, where_key, is_sorted-put, find-put, find-where_key, is_sorted-where_key}
use Rattle.rz_export_model.proofs.Tests.{right, eq_true}
use Rattle.rz_export_model.specs.Paths.{Name, Path, path_cmp, names_total, paths_total, exact_paths, above, is_root, right_under}
use Rattle.rz_export_model.specs.Tree.{names_under}
use Rattle.rz_names.specs.Entries.{run}
use Rattle.rz_names.specs.Names.{with_root, IsClosed, IsNameMap, root_alone, below_root}
use Rattle.rz_names.proofs.Sorted.{so, unso, insert-run, remove-run}

abbrev pub Entries : Type 0
Entries = List (Path × ℕ)

pub append-[] : (p : Path) → p ++ [] ≡ p
append-[] [] = refl
append-[] (m ∷ p) = ap (λ r. m ∷ r) (append-[] p)

-- what a map of kept entries has at a path
pub get-kept : (es : Entries) (q : Path) → IsTrue (is_sorted path_cmp (with_root es)) → maps.get (maps.from_sorted {R = path_cmp} (with_root es)) q ≡ find path_cmp q (with_root es)
get-kept es q h = get-from_sorted path_cmp (with_root es) q (so _ h)

pub get-root : (es : Entries) → IsTrue (is_sorted path_cmp (with_root es)) → maps.get (maps.from_sorted {R = path_cmp} (with_root es)) [] ≡ Some 0
get-root es h = get-kept es [] h

pub find-kept : (es : Entries) (q : Path) → is_root q ≡ false → find path_cmp q (with_root es) ≡ find path_cmp q es
find-kept es [] h = cc
find-kept es (n ∷ q) h = refl

pub sorted-kept : (es : Entries) → IsTrue (is_sorted path_cmp (with_root es)) → T (is_sorted path_cmp es)
sorted-kept es h = right _ _ (so _ h)

-- ---- the root alone

abbrev none_kept : Entries
none_kept = []

pub root-alone : maps.from_sorted (with_root none_kept) ≡ root_alone
root-alone = same_map paths_total exact_paths _ _ (λ q.
    get-kept none_kept q refl ∙ sym (get-insert paths_total maps.empty [] 0 q ∙ ap (cond (eq_by_cmp path_cmp q []) (Some 0)) (get-empty path_cmp q)))

take-nothing : (n : ℕ) → take n (let p : Path = [] in p) ≡ []
take-nothing zero = refl
take-nothing (suc n) = refl

pub closed-alone : IsClosed (with_root none_kept)
closed-alone [] n h = ap (λ q. is_some (find path_cmp q (with_root none_kept))) (take-nothing n)
closed-alone (m ∷ q) n h = cc

-- ---- a new entry

abbrev pub place : Path → Entries → ℕ
place q es = run (λ k. is_gt (path_cmp q k)) es

not_root : (es : Entries) (q : Path) → find path_cmp q (with_root es) ≡ None → is_root q ≡ false
not_root es [] none = cc
not_root es (n ∷ q) none = refl

put-root : (es : Entries) (q : Path) (f : ℕ) → is_root q ≡ false → put path_cmp q f (with_root es) ≡ with_root (put path_cmp q f es)
put-root es [] f h = cc
put-root es (n ∷ q) f h = refl

module _ (es : Entries) (q : Path) (f : ℕ) (h : IsNameMap es) (absent : maps.get (maps.from_sorted {R = path_cmp} (with_root es)) q ≡ None) where
  none_found : find path_cmp q (with_root es) ≡ None
  none_found = sym (get-kept es q h.sorted) ∙ absent

  pub added-put : with_root (insert es (place q es) (q, f)) ≡ put path_cmp q f (with_root es)
  added-put =
      let other = not_root es q none_found in
      ap with_root (insert-run paths_total q f es (sym (find-kept es q other) ∙ none_found)) ∙ sym (put-root es q f other)

  pub added-sorted : IsTrue (is_sorted path_cmp (with_root (insert es (place q es) (q, f))))
  added-sorted = unso _ (subst (λ l. T (is_sorted path_cmp l)) (sym added-put) (is_sorted-put path_cmp paths_total q f (with_root es) (so _ h.sorted)))

  pub added-map : maps.from_sorted {R = path_cmp} (with_root (insert es (place q es) (q, f))) ≡ maps.insert (maps.from_sorted (with_root es)) q f
  added-map = same_entries_map _ _
      (entries-from_sorted path_cmp _ (so _ added-sorted) ∙ added-put
      ∙ sym (entries-insert paths_total (maps.from_sorted (with_root es)) q f ∙ ap (put path_cmp q f) (entries-from_sorted path_cmp (with_root es) (so _ h.sorted))))

-- below its length a path is as the one above it
pub take-above : (q : Path) (n : ℕ) → n < length q → take n q ≡ take n (above q)
take-above [] n lt = absurd (omega arith)
take-above (m ∷ []) zero lt = refl
take-above (m ∷ []) (suc n) lt = absurd (omega arith)
take-above (m ∷ k ∷ q) zero lt = refl
take-above (m ∷ k ∷ q) (suc n) lt = ap (λ r. m ∷ r) (take-above (k ∷ q) n (omega arith))

pub take-whole : (q : Path) (n : ℕ) → length q ≤ n → take n q ≡ q
take-whole [] zero le = refl
take-whole [] (suc n) le = refl
take-whole (m ∷ q) zero le = absurd (omega arith)
take-whole (m ∷ q) (suc n) le = ap (λ r. m ∷ r) (take-whole q n (omega arith))

found_either : (b : Bool) (f : ℕ) (o : Option ℕ) → is_some o ≡ true → is_some (cond b (Some f) o) ≡ true
found_either true f o h = refl
found_either false f o h = h

found_first : (b : Bool) (f : ℕ) (o : Option ℕ) → b ≡ true → is_some (cond b (Some f) o) ≡ true
found_first true f o h = refl
found_first false f o h = cc

-- a new path below one that is there keeps the fronts there
pub put-closed : (l : Entries) (q : Path) (f : ℕ) → IsClosed l → is_some (find path_cmp (above q) l) ≡ true → IsClosed (put path_cmp q f l)
put-closed l q f closed parent p n h =
    let there : (x : Path) → find path_cmp x (put path_cmp q f l) ≡ cond (eq_by_cmp path_cmp x q) (Some f) (find path_cmp x l) = λ x. find-put path_cmp paths_total x q f l in
    let old : (x : Path) → is_some (find path_cmp x l) ≡ true → is_some (find path_cmp x (put path_cmp q f l)) ≡ true =
    λ x is. ap is_some (there x) ∙ found_either _ f _ is in
    elim (eq_by_cmp path_cmp p q) as (λ b. eq_by_cmp path_cmp p q ≡ b → is_some (cond b (Some f) (find path_cmp p l)) ≡ true → is_some (find path_cmp (take n p) (put path_cmp q f l)) ≡ true) [
      | true ↦ λ is _. own p n (exact_paths p q (eq_true _ is))
      | false ↦ λ is more. old (take n p) (closed p n more)
    ] refl (sym (ap is_some (there p)) ∙ h)
  where
    here : (x : Path) → x ≡ q → is_some (find path_cmp x (put path_cmp q f l)) ≡ true
    here x is = ap is_some (find-put path_cmp paths_total x q f l) ∙ found_first _ f _ (ap (λ y. is_eq (path_cmp x y)) (sym is) ∙ ap is_eq (tied_itself paths_total x))

    shorter : (n : ℕ) → n < length q → is_some (find path_cmp (take n q) (put path_cmp q f l)) ≡ true
    shorter n lt = ap (λ x. is_some (find path_cmp x (put path_cmp q f l))) (take-above q n lt)
        ∙ ap is_some (find-put path_cmp paths_total (take n (above q)) q f l) ∙ found_either _ f _ (closed (above q) n parent)

    own_at : (n : ℕ) → (n < length q) ⊎ (length q ≤ n) → is_some (find path_cmp (take n q) (put path_cmp q f l)) ≡ true
    own_at n (inl lt) = shorter n lt
    own_at n (inr le) = here (take n q) (take-whole q n le)

    own : (x : Path) (n : ℕ) → x ≡ q → is_some (find path_cmp (take n x) (put path_cmp q f l)) ≡ true
    own x n is = ap (λ y. is_some (find path_cmp (take n y) (put path_cmp q f l))) is ∙ own_at n (cases_lt n (length q))

-- ---- an entry less

no_first : (o : Option Name) (ns : List Name) → cons_option o ns ≡ [] → (o ≡ None) × (ns ≡ [])
no_first None ns h = (refl, h)
no_first (Some n) ns h = cc

-- nothing is right under a path where no name is
pub none_under : (p q : Path) (l : Entries) → filter_map (right_under p) (map (λ e. e.0) l) ≡ [] → is_some (find path_cmp q l) ≡ true → right_under p q ≡ None
none_under p q [] none h = cc
none_under p q (e ∷ l) none h =
    let parts = no_first (right_under p e.0) (filter_map (right_under p) (map (λ e. e.0) l)) none in
    elim (eq_by_cmp path_cmp q e.0) as (λ b. eq_by_cmp path_cmp q e.0 ≡ b → is_some (cond b (Some e.1) (find path_cmp q l)) ≡ true → right_under p q ≡ None) [
      | true ↦ λ is _. ap (right_under p) (exact_paths q e.0 (eq_true _ is)) ∙ parts.0
      | false ↦ λ is more. none_under p q l parts.1 more
    ] refl h

pub right_under-append : (p : Path) (n : Name) → right_under p (p ++ n ∷ []) ≡ Some n
right_under-append [] n = refl
right_under-append (m ∷ p) n = ap (λ r. cond (is_eq r) (right_under p (p ++ n ∷ [])) None) (tied_itself names_total m) ∙ right_under-append p n

pub take-front : (p : Path) (n : Name) (rest : Path) → take (suc (length p)) (p ++ n ∷ rest) ≡ p ++ n ∷ []
take-front [] n rest = refl
take-front (m ∷ p) n rest = ap (λ r. m ∷ r) (take-front p n rest)

-- where no name is right under a path, none is below it
pub none_below : (l : Entries) (p : Path) (rest : Path) → IsClosed l → filter_map (right_under p) (map (λ e. e.0) l) ≡ [] → is_some (find path_cmp (p ++ rest) l) ≡ true → rest ≡ []
none_below l p [] closed none h = refl
none_below l p (n ∷ rest) closed none h =
    let there : is_some (find path_cmp (p ++ n ∷ []) l) ≡ true =
    sym (ap (λ x. is_some (find path_cmp x l)) (take-front p n rest)) ∙ closed (p ++ n ∷ rest) (suc (length p)) h in
    let never : Some n ≡ None = sym (right_under-append p n) ∙ none_under p (p ++ n ∷ []) l none there in
    cc

is_found : (o : Option ℕ) (b : Bool) → is_some (cond b o None) ≡ true → (b ≡ true) × (is_some o ≡ true)
is_found o true h = (refl, h)
is_found o false h = cc

kept_found : (o : Option ℕ) (b : Bool) → b ≡ true → is_some o ≡ true → is_some (cond b o None) ≡ true
kept_found o true is h = h
kept_found o false is h = cc

module _ (q : Path) where
  abbrev pub others : Path → Bool
  others x = not (eq_by_cmp path_cmp q x)

  alike : (p x : Path) → path_cmp p x ≡ Equal → others x ≡ others p
  alike p x is = ap others (sym (exact_paths p x is))

  pub find-others : (x : Path) (l : Entries) → find path_cmp x (where_key path_cmp others l) ≡ cond (others x) (find path_cmp x l) None
  find-others x l = find-where_key path_cmp others x (alike x) l

  others-append : (p : Path) (n : ℕ) → (take n p ≡ q → p ≡ q) → others p ≡ true → others (take n p) ≡ true
  others-append p n same h =
      elim (eq_by_cmp path_cmp q (take n p)) as (λ b. eq_by_cmp path_cmp q (take n p) ≡ b → not b ≡ true) [
        | true ↦ λ is.
            let whole : p ≡ q = same (sym (exact_paths q (take n p) (eq_true _ is))) in
            let never : not true ≡ true = sym (ap (λ x. not (eq_by_cmp path_cmp q x)) whole ∙ ap (λ r. not (is_eq r)) (tied_itself paths_total q)) ∙ h in never
        | false ↦ λ is. refl
      ] refl

  pub others-closed : (l : Entries) → IsClosed l → filter_map (right_under q) (map (λ e. e.0) l) ≡ [] → IsClosed (where_key path_cmp others l)
  others-closed l closed none p n h =
      let parts = is_found (find path_cmp p l) (others p) (sym (ap is_some (find-others p l)) ∙ h) in
      ap is_some (find-others (take n p) l) ∙ kept_found _ _ (others-append p n (λ is. whole l closed none p n parts.1 is) parts.0) (closed p n parts.1)
    where
      whole : (l : Entries) → IsClosed l → filter_map (right_under q) (map (λ e. e.0) l) ≡ [] → (p : Path) (n : ℕ) → is_some (find path_cmp p l) ≡ true → take n p ≡ q → p ≡ q
      whole l closed none p n h is =
          let split : p ≡ q ++ drop n p = sym (take-append-drop n p) ∙ ap (λ x. x ++ drop n p) is in
          let rest : drop n p ≡ [] = none_below l q (drop n p) closed none (ap (λ x. is_some (find path_cmp x l)) (sym split) ∙ h) in
          split ∙ ap (λ r. q ++ r) rest ∙ append-[] q

  pub others-root : (es : Entries) → is_root q ≡ false → where_key path_cmp others (with_root es) ≡ with_root (where_key path_cmp others es)
  others-root es h = root_kept q h
    where
      root_kept : (x : Path) → is_root x ≡ false → where_key path_cmp (λ k. not (eq_by_cmp path_cmp x k)) (with_root es) ≡ with_root (where_key path_cmp (λ k. not (eq_by_cmp path_cmp x k)) es)
      root_kept [] h = cc
      root_kept (n ∷ x) h = refl

  flip-cond : (b c : Bool) (o : Option ℕ) → b ≡ c → cond (not b) o None ≡ cond c None o
  flip-cond true c o is = ap (λ d. cond d None o) is
  flip-cond false c o is = ap (λ d. cond d None o) is

  module _ (es : Entries) (h : IsNameMap es) (there : is_some (maps.get (maps.from_sorted {R = path_cmp} (with_root es)) q) ≡ true) (other : is_root q ≡ false) where
    removed-others : with_root (remove es (place q es)) ≡ where_key path_cmp others (with_root es)
    removed-others =
        ap with_root (remove-run paths_total q es (sorted-kept es h.sorted) (so _ (ap is_some (sym (find-kept es q other)) ∙ ap is_some (sym (get-kept es q h.sorted)) ∙ there)))
        ∙ sym (others-root es other)

    pub removed-sorted : IsTrue (is_sorted path_cmp (with_root (remove es (place q es))))
    removed-sorted = unso _ (subst (λ l. T (is_sorted path_cmp l)) (sym removed-others) (is_sorted-where_key path_cmp others (with_root es) (so _ h.sorted)))

    pub removed-map : maps.from_sorted {R = path_cmp} (with_root (remove es (place q es))) ≡ maps.remove (maps.from_sorted (with_root es)) q
    removed-map = same_map paths_total exact_paths _ _ (λ x.
        get-kept _ x removed-sorted ∙ ap (find path_cmp x) removed-others ∙ find-others x (with_root es)
        ∙ flip-cond _ _ _ ((eq_by_cmp_equiv paths_total).symm q x)
        ∙ sym (get-remove paths_total (maps.from_sorted (with_root es)) q x ∙ ap (cond (eq_by_cmp path_cmp x q) None) (get-kept es x h.sorted)))

    pub removed-closed : names_under (maps.from_sorted (with_root es)) q ≡ [] → IsClosed (with_root (remove es (place q es)))
    removed-closed none = subst IsClosed (sym removed-others) (others-closed (with_root es) h.closed
        (sym (ap (λ l. filter_map (right_under q) (map (λ e. e.0) l)) (entries-from_sorted path_cmp (with_root es) (so _ h.sorted))) ∙ none))

-- ---- what the calls on kept entries leave

pub placed : (at : ℕ) (names q : Path) (es : Entries) → at ≡ place names es → names ≡ q → at ≡ place q es
placed at names q es is same = is ∙ ap (λ x. place x es) same

module _ (es : Entries) (q : Path) (f : ℕ) (h : IsNameMap es) (absent : maps.get (maps.from_sorted {R = path_cmp} (with_root es)) q ≡ None) where
  pub added-closed : is_some (maps.get (maps.from_sorted {R = path_cmp} (with_root es)) (above q)) ≡ true → IsClosed (with_root (insert es (place q es) (q, f)))
  added-closed parent = subst IsClosed (sym (added-put es q f h absent))
      (put-closed (with_root es) q f h.closed (sym (ap is_some (get-kept es (above q) h.sorted)) ∙ parent))

  pub added-kept : is_some (maps.get (maps.from_sorted {R = path_cmp} (with_root es)) (above q)) ≡ true → (new : Entries) (at : ℕ) (e : Path × ℕ) → new ≡ insert es at e → at ≡ place q es → e ≡ (q, f) → IsNameMap new
  added-kept parent new at e made is same =
      let whole : new ≡ insert es (place q es) (q, f) = made ∙ ap (λ n. insert es n e) is ∙ ap (insert es (place q es)) same in
      subst IsNameMap (sym whole) (record { sorted = added-sorted es q f h absent; closed = added-closed parent })

  pub added-is : (new : Entries) (at : ℕ) (e : Path × ℕ) → new ≡ insert es at e → at ≡ place q es → e ≡ (q, f) → maps.from_sorted {R = path_cmp} (with_root new) ≡ maps.insert (maps.from_sorted (with_root es)) q f
  added-is new at e made is same =
      let whole : new ≡ insert es (place q es) (q, f) = made ∙ ap (λ n. insert es n e) is ∙ ap (insert es (place q es)) same in
      ap (λ l. maps.from_sorted {R = path_cmp} (with_root l)) whole ∙ added-map es q f h absent

pub find-place : (q : Path) (es : Entries) → T (is_sorted path_cmp es) → is_some (find path_cmp q es) ≡ true → place q es < length es
find-place q [] h there = cc
find-place q (e ∷ es) h there = go (path_cmp q e.0) refl (find-place q es (right _ _ h))
  where
    go : (r : Ordering) → path_cmp q e.0 ≡ r → (is_some (find path_cmp q es) ≡ true → place q es < length es) → cond (is_gt (path_cmp q e.0)) (suc (place q es)) 0 < suc (length es)
    go Less is rest = subst (λ r. cond (is_gt r) (suc (place q es)) 0 < suc (length es)) (sym is) (omega arith)
    go Equal is rest = subst (λ r. cond (is_gt r) (suc (place q es)) 0 < suc (length es)) (sym is) (omega arith)
    go Greater is rest =
        let lt : place q es < length es = rest (sym (ap (λ r. is_some (cond (is_eq r) (Some e.1) (find path_cmp q es))) is) ∙ there) in
        subst (λ r. cond (is_gt r) (suc (place q es)) 0 < suc (length es)) (sym is) (omega arith)

module _ (q : Path) (es : Entries) (h : IsNameMap es) (there : is_some (maps.get (maps.from_sorted {R = path_cmp} (with_root es)) q) ≡ true) (other : is_root q ≡ false) where
  pub place-within : place q es < length es
  place-within = find-place q es (sorted-kept es h.sorted) (ap is_some (sym (find-kept es q other)) ∙ ap is_some (sym (get-kept es q h.sorted)) ∙ there)

  pub removed-kept : names_under (maps.from_sorted (with_root es)) q ≡ [] → (new : Entries) (at : ℕ) → new ≡ remove es at → at ≡ place q es → IsNameMap new
  removed-kept last new at made is =
      subst IsNameMap (sym (made ∙ ap (remove es) is)) (record { sorted = removed-sorted q es h there other; closed = removed-closed q es h there other last })

  pub removed-is : (new : Entries) (at : ℕ) → new ≡ remove es at → at ≡ place q es → maps.from_sorted {R = path_cmp} (with_root new) ≡ maps.remove (maps.from_sorted (with_root es)) q
  removed-is new at made is = ap (λ l. maps.from_sorted {R = path_cmp} (with_root l)) (made ∙ ap (remove es) is) ∙ removed-map q es h there other

-- the kept entries are those below the root's
pub below-kept : (es : Entries) → IsNameMap es → below_root (maps.from_sorted (with_root es)) ≡ es
below-kept es h = ap (drop 1) (entries-from_sorted path_cmp (with_root es) (so _ h.sorted))
