-- The least name right under a path, and the least path above one, among entries in order.
use Rattle.std.proofs.Common.{◌≡◌, ℕ, zero, suc, Bool, true, false, cond, not, ◌&&◌, T, List, [], ◌∷◌, ◌++◌, length, drop, map, Option, Some, None, is_some, slice_get, Ordering, sym, ap, ◌∙◌, subst, refl}
use Rattle.std.specs.declared.cmp.Ordering.TheVariants.{Less, Equal, Greater}
use Rattle.std.specs.List as lists
use Rattle.std.specs.List.{filter_map, cons_option}
use Rattle.std.specs.Ordering.{is_eq, is_lt, eq_by_cmp, ordering_then, ordering_reverse}
use Rattle.std.specs.FinMap as maps
use Rattle.std.specs.FinMap.{entries-from_sorted}
use Rattle.std.specs.Cmp.{tied_itself, tied_back}
use Rattle.std.specs.FinMap.Entries.{find, is_sorted, below_all}
use Rattle.rz_export_model.proofs.Tests.{left, right, is_less, eq_true}
use Rattle.rz_export_model.specs.Paths.{Name, Path, name_cmp, path_cmp, same_name, names_total, paths_total, exact_paths, begins_with, right_under, is_root}
use Rattle.rz_names.specs.Entries.{run}
use Rattle.rz_names.specs.Names.{with_root, IsNameMap, is_after, is_up_to, by_order, next_name, entry_after}
use Rattle.rz_names.proofs.Sorted.{so, unfound}
use Rattle.rz_names.proofs.PathOrder.{begins-front, between}
use Rattle.rz_names.proofs.Places.{drop-past, drop-here}
use Rattle.rz_names.proofs.Names.{Entries, sorted-kept, take-front, right_under-append, find-kept}

-- the name right under a path, where it is after `after`
abbrev pub next_in : Path → Option Name → Entries → Option Name
next_in path after l = lists.find (is_after after) (filter_map (right_under path) (map (λ e. e.0) l))

skip : (test : Name → Bool) (o : Option Name) (ns : List Name) → ((n : Name) → o ≡ Some n → test n ≡ false) → lists.find test (cons_option o ns) ≡ lists.find test ns
skip test None ns h = refl
skip test (Some n) ns h = ap (λ b. cond b (Some n) (lists.find test ns)) (h n refl)

same_Some : (a b : Name) → Some a ≡ Some b → a ≡ b
same_Some a b h = cc

not_true : (b : Bool) → not b ≡ true → b ≡ false
not_true true h = cc
not_true false h = refl

-- up to `after` there is no name right under the path that is after it
up_to-name_step : (path : Path) (after : Option Name) (k : Path) (n : Name) (r t : Ordering) → (r ≡ Equal → t ≡ Equal) → by_order t true (is_up_to path after k) false ≡ true
    → (is_up_to path after k ≡ true → right_under path k ≡ Some n → is_after after n ≡ false)
    → cond (is_eq r) (right_under path k) None ≡ Some n → is_after after n ≡ false
up_to-name_step path after k n Less t same h rest is = cc
up_to-name_step path after k n Equal t same h rest is = rest (sym (ap (λ r. by_order r true (is_up_to path after k) false) (same refl)) ∙ h) is
up_to-name_step path after k n Greater t same h rest is = cc

tie_back : (p m : Name) → name_cmp p m ≡ Equal → name_cmp m p ≡ Equal
tie_back p m is = tied_back names_total p m is

up_to-name : (path : Path) (after : Option Name) (k : Path) → is_up_to path after k ≡ true → (n : Name) → right_under path k ≡ Some n → is_after after n ≡ false
up_to-name [] after [] h n is = cc
up_to-name [] after (m ∷ []) h n is = ap (is_after after) (sym (same_Some m n is)) ∙ not_true _ h
up_to-name [] after (m ∷ k ∷ rest) h n is = cc
up_to-name (p ∷ path) after [] h n is = cc
up_to-name (p ∷ path) after (m ∷ k) h n is =
    up_to-name_step path after k n (name_cmp p m) (name_cmp m p) (tie_back p m) h (λ more under. up_to-name path after k more n under) is

-- a path that is past `after` stands after the path
past-less_step : (path k : Path) (after : Option Name) (r t : Ordering) → t ≡ ordering_reverse r → by_order r true (is_up_to path after k) false ≡ false → (is_up_to path after k ≡ false → path_cmp path k ≡ Less)
    → ordering_then t (path_cmp path k) ≡ Less
past-less_step path k after Less t back h rest = cc
past-less_step path k after Equal t back h rest = ap (λ r. ordering_then r (path_cmp path k)) back ∙ rest h
past-less_step path k after Greater t back h rest = ap (λ r. ordering_then r (path_cmp path k)) back

past-less : (path : Path) (after : Option Name) (k : Path) → is_up_to path after k ≡ false → path_cmp path k ≡ Less
past-less [] after [] h = cc
past-less [] after (m ∷ k) h = refl
past-less (p ∷ path) after [] h = cc
past-less (p ∷ path) after (m ∷ k) h = past-less_step path k after (name_cmp m p) (name_cmp p m) (names_total.antisymm p m) h (past-less path after k)

-- what is past `after` does not hang on the names below
up_to-first : (path : Path) (after : Option Name) (n : Name) (rest : Path) → is_up_to path after (path ++ n ∷ rest) ≡ not (is_after after n)
up_to-first [] after n rest = refl
up_to-first (p ∷ path) after n rest = ap (λ r. by_order r true (is_up_to path after (path ++ n ∷ rest)) false) (tied_itself names_total p) ∙ up_to-first path after n rest

right_under-begins_step : (path k : Path) (n : Name) (b : Bool) → cond b (right_under path k) None ≡ Some n → (right_under path k ≡ Some n → begins_with path k ≡ true) → (b && begins_with path k) ≡ true
right_under-begins_step path k n true is rest = rest is
right_under-begins_step path k n false is rest = cc

right_under-begins : (path k : Path) (n : Name) → right_under path k ≡ Some n → begins_with path k ≡ true
right_under-begins [] k n is = refl
right_under-begins (p ∷ path) [] n is = cc
right_under-begins (p ∷ path) (m ∷ k) n is = right_under-begins_step path k n (same_name p m) is (right_under-begins path k n)

no_names : (path : Path) (x : Path) (l : Entries) → path_cmp path x ≡ Less → begins_with path x ≡ false → T (below_all path_cmp x l) → filter_map (right_under path) (map (λ e. e.0) l) ≡ []
no_names path x [] less other h = refl
no_names path x (e ∷ l) less other h =
    nothing (right_under path e.0) refl (no_names path x l less other (right _ _ h))
  where
    nothing : (o : Option Name) → right_under path e.0 ≡ o → (ns : filter_map (right_under path) (map (λ e. e.0) l) ≡ []) → cons_option (right_under path e.0) (filter_map (right_under path) (map (λ e. e.0) l)) ≡ []
    nothing None is ns = ap (λ o. cons_option o (filter_map (right_under path) (map (λ e. e.0) l))) is ∙ ns
    nothing (Some n) is ns =
        let never : false ≡ true = sym other ∙ between path x e.0 less (is_less _ (left _ _ h)) (right_under-begins path e.0 n is) in cc

-- the name that an entry past `after` gives
abbrev pub name_of_next : Path → Entries → Option Name
name_of_next path [] = None
name_of_next path (e ∷ l) = cond (begins_with path e.0) (slice_get e.0 (length path)) None

get-front : (p : Path) (n : Name) (rest : Path) → slice_get (p ++ n ∷ rest) (length p) ≡ Some n
get-front [] n rest = refl
get-front (m ∷ p) n rest = get-front p n rest

-- a path that is found in order before another one passes a test that the run before that one passes
before-run_step : (p : Path → Bool) (x : Path × ℕ) (l : Entries) (e : Path × ℕ) (more : Entries) (k : Path) (b : Bool) → p x.0 ≡ b → T (below_all path_cmp x.0 l) → drop (cond b (suc (run p l)) 0) (x ∷ l) ≡ e ∷ more
    → is_some (cond (eq_by_cmp path_cmp k x.0) (Some x.1) (find path_cmp k l)) ≡ true → path_cmp k e.0 ≡ Less
    → (drop (run p l) l ≡ e ∷ more → is_some (find path_cmp k l) ≡ true → p k ≡ true) → p k ≡ true
before-run_step p x l e more k true passes h is there less rest =
    elim (eq_by_cmp path_cmp k x.0) as (λ t. eq_by_cmp path_cmp k x.0 ≡ t → is_some (cond t (Some x.1) (find path_cmp k l)) ≡ true → p k ≡ true) [
      | true ↦ λ same _. ap p (exact_paths k x.0 (eq_true _ same)) ∙ passes
      | false ↦ λ _ found. rest is found
    ] refl there
before-run_step p x l e more k false fails h is there less rest =
    let first : x ≡ e = cc in
    let low : path_cmp k x.0 ≡ Less = ap (λ y. path_cmp k y.0) first ∙ less in
    let never : false ≡ true =
    sym (ap (λ r. is_some (cond (is_eq r) (Some x.1) (find path_cmp k l))) low ∙ ap is_some (unfound paths_total k x.0 l low h)) ∙ there in
    cc

before-run : (p : Path → Bool) (l : Entries) (e : Path × ℕ) (more : Entries) → T (is_sorted path_cmp l) → drop (run p l) l ≡ e ∷ more → (k : Path) → is_some (find path_cmp k l) ≡ true → path_cmp k e.0 ≡ Less → p k ≡ true
before-run p [] e more h is k there less = cc
before-run p (x ∷ l) e more h is k there less =
    before-run_step p x l e more k (p x.0) refl (left _ _ h) is there less (λ at found. before-run p l e more (right _ _ h) at k found less)

front-before : (p : Path) (n m : Name) (rest : Path) → path_cmp (p ++ n ∷ []) (p ++ n ∷ m ∷ rest) ≡ Less
front-before [] n m rest = ap (λ r. ordering_then r Less) (tied_itself names_total n)
front-before (x ∷ p) n m rest = ap (λ r. ordering_then r (path_cmp (p ++ n ∷ []) (p ++ n ∷ m ∷ rest))) (tied_itself names_total x) ∙ front-before p n m rest

append-longer : (p : Path) (n : Name) (rest : Path) → is_root (p ++ n ∷ rest) ≡ false
append-longer [] n rest = refl
append-longer (m ∷ p) n rest = refl

append-not_root : (p : Path) (n : Name) → is_root (p ++ n ∷ []) ≡ false
append-not_root [] n = refl
append-not_root (m ∷ p) n = refl

module _ (es : Entries) (h : IsNameMap es) (path : Path) (after : Option Name) where
  -- an entry that begins with the path and is the first past `after` stands right under the path
  child-right : (e : Path × ℕ) (more : Entries) (n : Name) (rest : Path) → drop (run (is_up_to path after) es) es ≡ e ∷ more → is_up_to path after e.0 ≡ false → e.0 ≡ path ++ n ∷ rest
      → is_some (find path_cmp e.0 (with_root es)) ≡ true → rest ≡ []
  child-right e more n [] at past_it is there = refl
  child-right e more n (m ∷ rest) at past_it is there =
      let front_there : is_some (find path_cmp (path ++ n ∷ []) (with_root es)) ≡ true =
      sym (ap (λ x. is_some (find path_cmp x (with_root es))) (take-front path n (m ∷ rest)))
      ∙ h.closed (path ++ n ∷ m ∷ rest) (suc (length path)) (sym (ap (λ x. is_some (find path_cmp x (with_root es))) is) ∙ there) in
      let kept_there : is_some (find path_cmp (path ++ n ∷ []) es) ≡ true = ap is_some (sym (find-kept es (path ++ n ∷ []) (append-not_root path n))) ∙ front_there in
      let passes : is_up_to path after (path ++ n ∷ []) ≡ true =
      before-run (is_up_to path after) es e more (sorted-kept es h.sorted) at (path ++ n ∷ []) kept_there (ap (path_cmp (path ++ n ∷ [])) is ∙ front-before path n m rest) in
      let never : true ≡ false = sym passes ∙ up_to-first path after n [] ∙ sym (up_to-first path after n (m ∷ rest)) ∙ sym (ap (is_up_to path after) is) ∙ past_it in
      cc

run-stops_step : (p : Path → Bool) (x : Path × ℕ) (l : Entries) (e : Path × ℕ) (more : Entries) (b : Bool) → p x.0 ≡ b → drop (cond b (suc (run p l)) 0) (x ∷ l) ≡ e ∷ more → (drop (run p l) l ≡ e ∷ more → p e.0 ≡ false) → p e.0 ≡ false
run-stops_step p x l e more true passes is rest = rest is
run-stops_step p x l e more false fails is rest = let first : x ≡ e = cc in ap (λ y. p y.0) (sym first) ∙ fails

run-stops : (p : Path → Bool) (l : Entries) (e : Path × ℕ) (more : Entries) → drop (run p l) l ≡ e ∷ more → p e.0 ≡ false
run-stops p [] e more is = cc
run-stops p (x ∷ l) e more is = run-stops_step p x l e more (p x.0) refl is (run-stops p l e more)

found-drop : (l : Entries) (n : ℕ) (e : Path × ℕ) (more : Entries) → drop n l ≡ e ∷ more → is_some (find path_cmp e.0 l) ≡ true
found-drop [] zero e more is = cc
found-drop [] (suc n) e more is = cc
found-drop (x ∷ l) zero e more is =
    let first : x ≡ e = cc in
    ap (λ y. is_some (cond (eq_by_cmp path_cmp e.0 y.0) (Some y.1) (find path_cmp e.0 l))) first
    ∙ ap (λ r. is_some (cond (is_eq r) (Some e.1) (find path_cmp e.0 l))) (tied_itself paths_total e.0)
found-drop (x ∷ l) (suc n) e more is =
    elim (eq_by_cmp path_cmp e.0 x.0) as (λ b. is_some (cond b (Some x.1) (find path_cmp e.0 l)) ≡ true) [ true ↦ refl | false ↦ found-drop l n e more is ]

sorted-drop : (l : Entries) (n : ℕ) (e : Path × ℕ) (more : Entries) → T (is_sorted path_cmp l) → drop n l ≡ e ∷ more → T (below_all path_cmp e.0 more)
sorted-drop [] zero e more h is = cc
sorted-drop [] (suc n) e more h is = cc
sorted-drop (x ∷ l) zero e more h is =
    let first : x ≡ e = cc in
    let rest : l ≡ more = cc in
    subst (λ m. T (below_all path_cmp e.0 m)) rest (subst (λ y. T (below_all path_cmp y.0 l)) first (left _ _ h))
sorted-drop (x ∷ l) (suc n) e more h is = sorted-drop l n e more (right _ _ h) is

next-run_step : (path : Path) (after : Option Name) (x : Path × ℕ) (l : Entries) (b : Bool) → is_up_to path after x.0 ≡ b → next_in path after l ≡ next_in path after (drop (run (is_up_to path after) l) l)
    → next_in path after (x ∷ l) ≡ next_in path after (drop (cond b (suc (run (is_up_to path after) l)) 0) (x ∷ l))
next-run_step path after x l true passes rest =
    skip (is_after after) (right_under path x.0) (filter_map (right_under path) (map (λ e. e.0) l)) (λ n is. up_to-name path after x.0 passes n is) ∙ rest
next-run_step path after x l false fails rest = refl

-- what is up to `after` does not count
next-run : (path : Path) (after : Option Name) (l : Entries) → next_in path after l ≡ next_in path after (drop (run (is_up_to path after) l) l)
next-run path after [] = refl
next-run path after (x ∷ l) = next-run_step path after x l (is_up_to path after x.0) refl (next-run path after l)

right_under-root : (path : Path) → right_under path [] ≡ None
right_under-root [] = refl
right_under-root (m ∷ p) = refl

next-root : (path : Path) (after : Option Name) (es : Entries) → next_in path after (with_root es) ≡ next_in path after es
next-root path after es = ap (λ o. lists.find (is_after after) (cons_option o (filter_map (right_under path) (map (λ e. e.0) es)))) (right_under-root path)

up_to-itself : (path : Path) (after : Option Name) → is_up_to path after (path ++ []) ≡ true
up_to-itself [] after = refl
up_to-itself (p ∷ path) after = ap (λ r. by_order r true (is_up_to path after (path ++ [])) false) (tied_itself names_total p) ∙ up_to-itself path after

other-none : (path k : Path) → begins_with path k ≡ false → (o : Option Name) → right_under path k ≡ o → o ≡ None
other-none path k other None is = refl
other-none path k other (Some n) is = let never : false ≡ true = sym other ∙ right_under-begins path k n is in cc

not_false : (b : Bool) → not b ≡ false → b ≡ true
not_false true h = refl
not_false false h = cc

module _ (es : Entries) (h : IsNameMap es) (path : Path) (after : Option Name) where
  pub next-kept : next_name (maps.from_sorted (with_root es)) path after ≡ next_in path after (drop (run (is_up_to path after) es) es)
  next-kept = ap (λ l. next_in path after l) (entries-from_sorted path_cmp (with_root es) (so _ h.sorted)) ∙ next-root path after es ∙ next-run path after es

  next-other : (e : Path × ℕ) (more : Entries) → drop (run (is_up_to path after) es) es ≡ e ∷ more → begins_with path e.0 ≡ false → next_name (maps.from_sorted (with_root es)) path after ≡ None
  next-other e more at other =
      let past_it = run-stops (is_up_to path after) es e more at in
      next-kept ∙ ap (next_in path after) at
      ∙ ap (λ o. lists.find (is_after after) (cons_option o (filter_map (right_under path) (map (λ x. x.0) more)))) (other-none path e.0 other _ refl)
      ∙ ap (lists.find (is_after after)) (no_names path e.0 more (past-less path after e.0 past_it) other (sorted-drop es _ e more (sorted-kept es h.sorted) at))

  next-child_by : (e : Path × ℕ) (more : Entries) → drop (run (is_up_to path after) es) es ≡ e ∷ more → (rest : Path) → e.0 ≡ path ++ rest → next_name (maps.from_sorted (with_root es)) path after ≡ slice_get e.0 (length path)
  next-child_by e more at [] is =
      let never : false ≡ true = sym (run-stops (is_up_to path after) es e more at) ∙ ap (is_up_to path after) is ∙ up_to-itself path after in cc
  next-child_by e more at (n ∷ rest) is =
      let past_it = run-stops (is_up_to path after) es e more at in
      let there : is_some (find path_cmp e.0 (with_root es)) ≡ true =
      ap is_some (find-kept es e.0 (ap is_root is ∙ append-longer path n rest)) ∙ found-drop es _ e more at in
      let last : rest ≡ [] = child-right es h path after e more n rest at past_it is there in
      let under : right_under path e.0 ≡ Some n = ap (right_under path) (is ∙ ap (λ r. path ++ n ∷ r) last) ∙ right_under-append path n in
      let is_next : is_after after n ≡ true = not_false _ (sym (up_to-first path after n rest) ∙ ap (is_up_to path after) (sym is) ∙ past_it) in
      next-kept ∙ ap (next_in path after) at
      ∙ ap (λ o. lists.find (is_after after) (cons_option o (filter_map (right_under path) (map (λ x. x.0) more)))) under
      ∙ ap (λ b. cond b (Some n) (lists.find (is_after after) (filter_map (right_under path) (map (λ x. x.0) more)))) is_next
      ∙ sym (ap (λ k. slice_get k (length path)) is ∙ get-front path n rest)

  -- by the place of the first entry past `after`
  pub next-at_end : (at : ℕ) → at ≡ run (is_up_to path after) es → slice_get es at ≡ None → next_name (maps.from_sorted (with_root es)) path after ≡ None
  next-at_end at is none = next-kept ∙ ap (λ n. next_in path after (drop n es)) (sym is) ∙ ap (next_in path after) (drop-past es at none)

  pub next-at_other : (at : ℕ) (e : Path × ℕ) → at ≡ run (is_up_to path after) es → slice_get es at ≡ Some e → begins_with path e.0 ≡ false → next_name (maps.from_sorted (with_root es)) path after ≡ None
  next-at_other at e is here other = next-other e (drop (suc at) es) (ap (λ n. drop n es) (sym is) ∙ drop-here es at e here) other

  pub next-at_child : (at : ℕ) (e : Path × ℕ) → at ≡ run (is_up_to path after) es → slice_get es at ≡ Some e → begins_with path e.0 ≡ true → next_name (maps.from_sorted (with_root es)) path after ≡ slice_get e.0 (length path)
  next-at_child at e is here begins = next-child_by e (drop (suc at) es) (ap (λ n. drop n es) (sym is) ∙ drop-here es at e here) (drop (length path) e.0) (begins-front path e.0 begins)

-- ---- the least path above one

above-run_step : (q : Path → Bool) (x : Path × ℕ) (l : Entries) (b : Bool) → q x.0 ≡ b → lists.find (λ e. q e.0) l ≡ lists.find (λ e. q e.0) (drop (run (λ k. not (q k)) l) l)
    → cond b (Some x) (lists.find (λ e. q e.0) l) ≡ lists.find (λ e. q e.0) (drop (cond (not b) (suc (run (λ k. not (q k)) l)) 0) (x ∷ l))
above-run_step q x l true is rest = sym (ap (λ b. cond b (Some x) (lists.find (λ e. q e.0) l)) is)
above-run_step q x l false is rest = rest

above-run : (q : Path → Bool) (l : Entries) → lists.find (λ e. q e.0) l ≡ lists.find (λ e. q e.0) (drop (run (λ k. not (q k)) l) l)
above-run q [] = refl
above-run q (x ∷ l) = above-run_step q x l (q x.0) refl (above-run q l)

no_less-root : (path : Path) → is_lt (path_cmp path []) ≡ false
no_less-root [] = refl
no_less-root (m ∷ p) = refl

module _ (es : Entries) (h : IsNameMap es) (path : Path) where
  abbrev is_above : Path → Bool
  is_above k = is_lt (path_cmp path k)

  above-kept : entry_after (maps.from_sorted (with_root es)) path ≡ lists.find (λ e. is_above e.0) (drop (run (λ k. not (is_above k)) es) es)
  above-kept = ap (lists.find (λ e. is_above e.0)) (entries-from_sorted path_cmp (with_root es) (so _ h.sorted))
      ∙ ap (λ b. cond b (Some ([], 0)) (lists.find (λ e. is_above e.0) es)) (no_less-root path) ∙ above-run is_above es

  pub above-at_end : (at : ℕ) → at ≡ run (λ k. not (is_above k)) es → slice_get es at ≡ None → entry_after (maps.from_sorted (with_root es)) path ≡ None
  above-at_end at is none = above-kept ∙ ap (λ n. lists.find (λ e. is_above e.0) (drop n es)) (sym is) ∙ ap (lists.find (λ e. is_above e.0)) (drop-past es at none)

  pub above-at : (at : ℕ) (e : Path × ℕ) → at ≡ run (λ k. not (is_above k)) es → slice_get es at ≡ Some e → entry_after (maps.from_sorted (with_root es)) path ≡ Some e
  above-at at e is here =
      let starts : drop (run (λ k. not (is_above k)) es) es ≡ e ∷ drop (suc at) es = ap (λ n. drop n es) (sym is) ∙ drop-here es at e here in
      above-kept ∙ ap (lists.find (λ x. is_above x.0)) starts
      ∙ ap (λ b. cond b (Some e) (lists.find (λ x. is_above x.0) (drop (suc at) es))) (not_false _ (run-stops (λ k. not (is_above k)) es e _ starts))
