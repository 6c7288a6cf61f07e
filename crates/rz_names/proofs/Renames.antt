-- A rename of kept entries is the rename of the map.
use Rattle.std.proofs.Common.{◌≡◌, ℕ, zero, suc, ◌+◌, ◌-◌, ◌<◌, ◌≤◌, Bool, true, false, cond, not, ◌&&◌, T, [], ◌∷◌, ◌++◌, length, take, drop, map, Option, Some, None, is_some, sym, ap, ◌∙◌, refl, inl, inr, ◌⊎◌, arith, IsTrue}
use Rattle.std.specs.declared.cmp.Ordering.TheVariants.{Less}
use Rattle.std.specs.List.{filter_map}
use Rattle.std.specs.Ordering.{is_eq, eq_by_cmp}
use Rattle.std.specs.Cmp.{tied_itself, eq_by_cmp_equiv}
use Rattle.std.proofs.lemmas.Bool.{cases_lt}
use Rattle.std.specs.FinMap as maps
use Rattle.std.specs.FinMap.{same_map, get-from_sorted, get-from_entries, entries-from_sorted, get-remove}
use Rattle.std.specs.FinMap.Entries.{find, is_sorted, below_all, where_key, find-where_key, is_sorted-where_key}
use Rattle.rz_export_model.proofs.Tests.{left, right, both}
use Rattle.rz_export_model.specs.Paths.{Path, path_cmp, paths_total, exact_paths, begins_with, is_root, above, right_under, same_name}
use Rattle.rz_export_model.specs.Tree.{names_under, moved}
use Rattle.rz_names.specs.Names.{with_root, IsNameMap}
use Rattle.rz_names.proofs.Sorted.{so, unso}
use Rattle.rz_names.proofs.PathOrder.{and_parts, begins-front, begins-append}
use Rattle.rz_names.proofs.Names.{Entries, place, get-kept, find-kept, sorted-kept, others, find-others, none_below, take-above, append-[]}
use Rattle.rz_names.proofs.Moves.{moves, all_begin, none_begin, spliced, moved_each, unlike, unlike-back, moves-begin, sorted-moves, find-moves, below-append, below-take, below-drop, before-block, sorted-spliced, find-cut_in, find-cut_out, find-each_in, find-each_from, find-each_out}

-- an entry that begins with `t` has just that path
abbrev Clear : Path → Entries → Type 0
Clear t [] = Unit {0}
Clear t (e ∷ l) = (begins_with t e.0 ≡ true → e.0 ≡ t) × Clear t l

clear-of : (t : Path) (l : Entries) → ((q : Path) → is_some (find path_cmp q l) ≡ true → begins_with t q ≡ true → q ≡ t) → Clear t l
clear-of t [] h = tt
clear-of t (e ∷ l) h = (
  h e.0 (ap (λ r. is_some (cond (is_eq r) (Some e.1) (find path_cmp e.0 l))) (tied_itself paths_total e.0)),
  clear-of t l (λ q there. h q (either (eq_by_cmp path_cmp q e.0) _ there)),
)
  where
    either : (b : Bool) (o : Option ℕ) → is_some o ≡ true → is_some (cond b (Some e.1) o) ≡ true
    either true o h = refl
    either false o h = h

clear-where : (t : Path) (p : Path → Bool) (l : Entries) → Clear t l → Clear t (where_key path_cmp p l)
clear-where t p [] h = tt
clear-where t p (e ∷ l) h = elim (p e.0) as (λ b. Clear t (cond b (e ∷ where_key path_cmp p l) (where_key path_cmp p l))) [
  | true ↦ (h.0, clear-where t p l h.1)
  | false ↦ clear-where t p l h.1
]

none-others_step : (t : Path) (e : Path × ℕ) (b : Bool) → eq_by_cmp path_cmp t e.0 ≡ b → (begins_with t e.0 ≡ true → e.0 ≡ t) → (rest : Entries) → none_begin t rest ≡ true → none_begin t (cond (not b) (e ∷ rest) rest) ≡ true
none-others_step t e true is h rest none = none
none-others_step t e false is h rest none = go (begins_with t e.0) refl
  where
    go : (b : Bool) → begins_with t e.0 ≡ b → none_begin t (e ∷ rest) ≡ true
    go true begins =
        let never : true ≡ false = sym (ap is_eq (tied_itself paths_total t)) ∙ ap (eq_by_cmp path_cmp t) (sym (h begins)) ∙ is in cc
    go false other = ap (λ c. not c && none_begin t rest) other ∙ none

none-others : (t : Path) (l : Entries) → Clear t l → none_begin t (where_key path_cmp (others t) l) ≡ true
none-others t [] h = refl
none-others t (e ∷ l) h = none-others_step t e (eq_by_cmp path_cmp t e.0) refl h.0 _ (none-others t l h.1)

all-where : (p : Path) (l : Entries) → all_begin p (where_key path_cmp (begins_with p) l) ≡ true
all-where p [] = refl
all-where p (e ∷ l) = go (begins_with p e.0) refl (all-where p l)
  where
    go : (b : Bool) → begins_with p e.0 ≡ b → all_begin p (where_key path_cmp (begins_with p) l) ≡ true → all_begin p (cond (begins_with p e.0) (e ∷ where_key path_cmp (begins_with p) l) (where_key path_cmp (begins_with p) l)) ≡ true
    go true is rest = ap (λ c. all_begin p (cond c (e ∷ where_key path_cmp (begins_with p) l) (where_key path_cmp (begins_with p) l))) is ∙ ap (λ c. c && all_begin p (where_key path_cmp (begins_with p) l)) is ∙ rest
    go false is rest = ap (λ c. all_begin p (cond c (e ∷ where_key path_cmp (begins_with p) l) (where_key path_cmp (begins_with p) l))) is ∙ rest

below-where : (x : Path) (p : Path → Bool) (l : Entries) → T (below_all path_cmp x l) → T (below_all path_cmp x (where_key path_cmp p l))
below-where x p [] h = tt
below-where x p (e ∷ l) h = elim (p e.0) as (λ b. T (below_all path_cmp x (cond b (e ∷ where_key path_cmp p l) (where_key path_cmp p l)))) [
  | true ↦ both _ _ (left _ _ h) (below-where x p l (right _ _ h))
  | false ↦ below-where x p l (right _ _ h)
]

find-where : (p : Path → Bool) (q : Path) (l : Entries) → find path_cmp q (where_key path_cmp p l) ≡ cond (p q) (find path_cmp q l) None
find-where p q l = find-where_key path_cmp p q (λ x is. ap p (sym (exact_paths q x is))) l

-- a path whose front begins with another begins with it
begins-take : (f q : Path) (n : ℕ) → begins_with f (take n q) ≡ true → begins_with f q ≡ true
begins-take [] q n h = refl
begins-take (m ∷ f) [] zero h = cc
begins-take (m ∷ f) [] (suc n) h = cc
begins-take (m ∷ f) (k ∷ q) zero h = cc
begins-take (m ∷ f) (k ∷ q) (suc n) h =
    let parts = and_parts (same_name m k) (begins_with f (take n q)) h in
    ap (λ b. b && begins_with f q) parts.0 ∙ begins-take f q n parts.1

not_front : (f q : Path) (n : ℕ) → begins_with f q ≡ false → (b : Bool) → begins_with f (take n q) ≡ b → b ≡ false
not_front f q n other true h = let never : false ≡ true = sym other ∙ begins-take f q n h in cc
not_front f q n other false h = refl

-- a front that is shorter than another path does not begin with it
begins-short : (f x : Path) (n : ℕ) → n < length f → begins_with f (take n x) ≡ false
begins-short [] x n lt = absurd (omega arith)
begins-short (m ∷ f) [] zero lt = refl
begins-short (m ∷ f) [] (suc n) lt = refl
begins-short (m ∷ f) (k ∷ x) zero lt = refl
begins-short (m ∷ f) (k ∷ x) (suc n) lt = ap (λ b. same_name m k && b) (begins-short f x n (omega arith)) ∙ and_false (same_name m k)
  where
    and_false : (b : Bool) → (b && false) ≡ false
    and_false true = refl
    and_false false = refl

take-longer : (f r : Path) (n : ℕ) → length f ≤ n → take n (f ++ r) ≡ f ++ take (n - length f) r
take-longer [] r n le = ap (λ k. take k r) (minus n)
  where
    minus : (n : ℕ) → n ≡ n - 0
    minus n = omega arith
take-longer (m ∷ f) r zero le = absurd (omega arith)
take-longer (m ∷ f) r (suc n) le = ap (λ q. m ∷ q) (take-longer f r n (omega arith) ∙ ap (λ k. f ++ take k r) (less n (length f)))
  where
    less : (a b : ℕ) → a - b ≡ suc a - suc b
    less a b = omega arith

take-below : (f r : Path) (n : ℕ) → n ≤ length f → take n (f ++ r) ≡ take n f
take-below [] [] zero le = refl
take-below [] (m ∷ r) zero le = refl
take-below [] r (suc n) le = absurd (omega arith)
take-below (m ∷ f) r zero le = refl
take-below (m ∷ f) r (suc n) le = ap (λ q. m ∷ q) (take-below f r n (omega arith))

not_root-longer : (p r : Path) → is_root p ≡ false → is_root (p ++ r) ≡ false
not_root-longer [] r h = cc
not_root-longer (m ∷ p) r h = refl

begins-root : (p : Path) → is_root p ≡ false → begins_with p [] ≡ false
begins-root [] h = cc
begins-root (m ∷ p) h = refl

root-less : (t : Path) → is_root t ≡ false → path_cmp [] t ≡ Less
root-less [] h = cc
root-less (m ∷ t) h = refl

-- a path to be moved is not the root
not_root-front : (p t : Path) → begins_with p t ≡ false → is_root p ≡ false
not_root-front [] t h = cc
not_root-front (m ∷ p) t h = refl

-- the kept entries after a rename
abbrev pub renamed : Path → Path → Entries → Entries
renamed p t es =
    spliced t (moves p t (where_key path_cmp (begins_with p) es)) (where_key path_cmp (others t) (where_key path_cmp (λ k. not (begins_with p k)) es))

module _ (es : Entries) (p t : Path) (h : IsNameMap es) (away : begins_with p t ≡ false) (other : is_root t ≡ false)
    (last : names_under (maps.from_sorted (with_root es)) t ≡ []) (parent : is_some (maps.get (maps.from_sorted {R = path_cmp} (with_root es)) (above t)) ≡ true) where
  abbrev block : Entries
  block = moves p t (where_key path_cmp (begins_with p) es)

  abbrev rest : Entries
  rest = where_key path_cmp (others t) (where_key path_cmp (λ k. not (begins_with p k)) es)

  p-away : is_root p ≡ false
  p-away = not_root-front p t away

  under : filter_map (right_under t) (map (λ e. e.0) (with_root es)) ≡ []
  under = sym (ap (λ l. filter_map (right_under t) (map (λ e. e.0) l)) (entries-from_sorted path_cmp (with_root es) (so _ h.sorted))) ∙ last

  clear : (q : Path) → is_some (find path_cmp q (with_root es)) ≡ true → begins_with t q ≡ true → q ≡ t
  clear q there begins =
      let split : q ≡ t ++ drop (length t) q = begins-front t q begins in
      let none : drop (length t) q ≡ [] = none_below (with_root es) t (drop (length t) q) h.closed under (ap (λ x. is_some (find path_cmp x (with_root es))) (sym split) ∙ there) in
      split ∙ ap (λ r. t ++ r) none ∙ append-[] t

  root-clear : Clear t (with_root es)
  root-clear = clear-of t (with_root es) clear

  rest-none : none_begin t rest ≡ true
  rest-none = none-others t _ (clear-where t (λ k. not (begins_with p k)) es root-clear.1)

  block-all : all_begin t block ≡ true
  block-all = moves-begin p t (where_key path_cmp (begins_with p) es)

  kept-sorted : T (is_sorted path_cmp es)
  kept-sorted = sorted-kept es h.sorted

  rest-sorted : T (is_sorted path_cmp rest)
  rest-sorted = is_sorted-where_key path_cmp (others t) _ (is_sorted-where_key path_cmp (λ k. not (begins_with p k)) es kept-sorted)

  all-sorted : T (is_sorted path_cmp (renamed p t es))
  all-sorted = sorted-spliced t block rest block-all
      (sorted-moves p t (where_key path_cmp (begins_with p) es) (all-where p es) (is_sorted-where_key path_cmp (begins_with p) es kept-sorted)) rest-none rest-sorted

  root-below : T (below_all path_cmp [] (renamed p t es))
  root-below =
      let kept : T (below_all path_cmp [] rest) = below-where [] (others t) _ (below-where [] (λ k. not (begins_with p k)) es (left _ _ (so _ h.sorted))) in
      below-append [] (take (place t rest) rest) (block ++ drop (place t rest) rest) (below-take [] (place t rest) rest kept)
      (below-append [] block (drop (place t rest) rest) (before-block t [] block block-all (root-less t other)) (below-drop [] (place t rest) rest kept))

  pub renamed-sorted : IsTrue (is_sorted path_cmp (with_root (renamed p t es)))
  renamed-sorted = unso _ (both _ _ root-below all-sorted)

  -- what is found at a path that begins with `t`
  find-moved : (r : Path) → find path_cmp (t ++ r) (with_root (renamed p t es)) ≡ find path_cmp (p ++ r) (with_root es)
  find-moved r =
      find-kept (renamed p t es) (t ++ r) (not_root-longer t r other)
      ∙ find-cut_in t (t ++ r) block (place t rest) rest (begins-append t r) rest-none
      ∙ find-moves p t r (where_key path_cmp (begins_with p) es) (all-where p es)
      ∙ find-where (begins_with p) (p ++ r) es ∙ ap (λ b. cond b (find path_cmp (p ++ r) es) None) (begins-append p r)
      ∙ sym (find-kept es (p ++ r) (not_root-longer p r p-away))

  -- what is found at another path
  find-other : (q : Path) → begins_with t q ≡ false → find path_cmp q (renamed p t es) ≡ cond (not (begins_with p q)) (find path_cmp q es) None
  find-other q away_t =
      find-cut_out t q block (place t rest) rest away_t block-all ∙ find-others t q (where_key path_cmp (λ k. not (begins_with p k)) es)
      ∙ ap (λ b. cond (not b) (find path_cmp q (where_key path_cmp (λ k. not (begins_with p k)) es)) None) (back-unlike q away_t)
      ∙ find-where (λ k. not (begins_with p k)) q es
    where
      begins-self : begins_with t t ≡ true
      begins-self = ap (begins_with t) (sym (append-[] t)) ∙ begins-append t []

      back-unlike : (q : Path) → begins_with t q ≡ false → eq_by_cmp path_cmp t q ≡ false
      back-unlike q away_t = unlike t t q begins-self away_t

  find-out : (q : Path) → begins_with t q ≡ false → begins_with p q ≡ false → find path_cmp q (with_root (renamed p t es)) ≡ find path_cmp q (with_root es)
  find-out q away_t away_p = ap (cond (eq_by_cmp path_cmp q []) (Some 0)) (find-other q away_t ∙ ap (λ b. cond (not b) (find path_cmp q es) None) away_p)

  find-from : (q : Path) → begins_with t q ≡ false → begins_with p q ≡ true → find path_cmp q (with_root (renamed p t es)) ≡ None
  find-from q away_t begins =
      ap (cond (eq_by_cmp path_cmp q []) (Some 0)) (find-other q away_t ∙ ap (λ b. cond (not b) (find path_cmp q es) None) begins)
      ∙ ap (λ b. cond b (Some 0) None) (unlike p q [] begins (begins-root p p-away))

  -- ---- it is the rename of the map

  without-list : maps.remove (maps.from_sorted {R = path_cmp} (with_root es)) t ≡ maps.from_sorted (where_key path_cmp (others t) (with_root es))
  without-list = same_map paths_total exact_paths _ _ (λ q.
      get-remove paths_total (maps.from_sorted (with_root es)) t q ∙ ap (cond (eq_by_cmp path_cmp q t) None) (get-kept es q h.sorted)
      ∙ flip (eq_by_cmp path_cmp q t) (eq_by_cmp path_cmp t q) (find path_cmp q (with_root es)) ((eq_by_cmp_equiv paths_total).symm q t)
      ∙ sym (get-from_sorted path_cmp (where_key path_cmp (others t) (with_root es)) q (is_sorted-where_key path_cmp (others t) (with_root es) (so _ h.sorted)) ∙ find-others t q (with_root es)))
    where
      flip : (b c : Bool) (o : Option ℕ) → b ≡ c → cond b None o ≡ cond (not c) o None
      flip true c o is = ap (λ d. cond (not d) o None) is
      flip false c o is = ap (λ d. cond (not d) o None) is

  moved-list : moved p t (maps.remove (maps.from_sorted {R = path_cmp} (with_root es)) t) ≡ maps.from_entries (moved_each p t (where_key path_cmp (others t) (with_root es)))
  moved-list = ap (moved p t) without-list
      ∙ ap (λ l. maps.from_entries {R = path_cmp} (moved_each p t l)) (entries-from_sorted path_cmp (where_key path_cmp (others t) (with_root es)) (is_sorted-where_key path_cmp (others t) (with_root es) (so _ h.sorted)))

  each-none : none_begin t (where_key path_cmp (others t) (with_root es)) ≡ true
  each-none = none-others t (with_root es) root-clear

  -- a path other than `t` is found without it
  find-without : (q : Path) → eq_by_cmp path_cmp t q ≡ false → find path_cmp q (where_key path_cmp (others t) (with_root es)) ≡ find path_cmp q (with_root es)
  find-without q is = find-others t q (with_root es) ∙ ap (λ b. cond (not b) (find path_cmp q (with_root es)) None) is

  t-itself : begins_with t t ≡ true
  t-itself = ap (begins_with t) (sym (append-[] t)) ∙ begins-append t []

  same-at : (q : Path) (b : Bool) → begins_with t q ≡ b → (c : Bool) → begins_with p q ≡ c → find path_cmp q (with_root (renamed p t es)) ≡ find path_cmp q (moved_each p t (where_key path_cmp (others t) (with_root es)))
  same-at q true is c _ =
      let split : q ≡ t ++ drop (length t) q = begins-front t q is in
      ap (λ x. find path_cmp x (with_root (renamed p t es))) split ∙ find-moved (drop (length t) q)
      ∙ sym (ap (λ x. find path_cmp x (moved_each p t (where_key path_cmp (others t) (with_root es)))) split
      ∙ find-each_in p t (drop (length t) q) (where_key path_cmp (others t) (with_root es)) each-none
      ∙ find-without (p ++ drop (length t) q) (unlike-back p t (p ++ drop (length t) q) away (begins-append p (drop (length t) q))))
  same-at q false is true begins = find-from q is begins ∙ sym (find-each_from p t q (where_key path_cmp (others t) (with_root es)) is begins)
  same-at q false is false out =
      find-out q is out ∙ sym (find-each_out p t q (where_key path_cmp (others t) (with_root es)) is out ∙ find-without q (unlike t t q t-itself is))

  pub renamed-map : maps.from_sorted {R = path_cmp} (with_root (renamed p t es)) ≡ moved p t (maps.remove (maps.from_sorted (with_root es)) t)
  renamed-map =
      same_map paths_total exact_paths _ _ (λ q. get-kept (renamed p t es) q renamed-sorted ∙ same-at q (begins_with t q) refl (begins_with p q) refl
      ∙ sym (get-from_entries paths_total (moved_each p t (where_key path_cmp (others t) (with_root es))) q))
      ∙ sym moved-list

  -- ---- with each path its fronts are there

  front-in : (r : Path) (n : ℕ) → is_some (find path_cmp (t ++ r) (with_root (renamed p t es))) ≡ true → (n < length t) ⊎ (length t ≤ n) → is_some (find path_cmp (take n (t ++ r)) (with_root (renamed p t es))) ≡ true
  front-in r n is (inl lt) =
      let short : take n (t ++ r) ≡ take n (above t) = take-below t r n (omega arith) ∙ take-above t n lt in
      let away_t : begins_with t (take n (above t)) ≡ false = begins-short t (above t) n lt in
      let front_t : take n (above t) ≡ take n t = sym (take-above t n lt) in
      let away_p : begins_with p (take n (above t)) ≡ false = ap (begins_with p) front_t ∙ not_front p t n away _ refl in
      ap (λ x. is_some (find path_cmp x (with_root (renamed p t es)))) short ∙ ap is_some (find-out (take n (above t)) away_t away_p)
      ∙ h.closed (above t) n (sym (ap is_some (get-kept es (above t) h.sorted)) ∙ parent)
  front-in r n is (inr le) =
      let whole : is_some (find path_cmp (p ++ r) (with_root es)) ≡ true = sym (ap is_some (find-moved r)) ∙ is in
      let long : take (length p + (n - length t)) (p ++ r) ≡ p ++ take (n - length t) r = take-longer p r _ (omega arith) ∙ ap (λ k. p ++ take k r) (omega arith) in
      ap (λ x. is_some (find path_cmp x (with_root (renamed p t es)))) (take-longer t r n le) ∙ ap is_some (find-moved (take (n - length t) r))
      ∙ sym (ap (λ x. is_some (find path_cmp x (with_root es))) long) ∙ h.closed (p ++ r) _ whole

  front-of : (q : Path) (n : ℕ) → is_some (find path_cmp q (with_root (renamed p t es))) ≡ true → (b : Bool) → begins_with t q ≡ b → (c : Bool) → begins_with p q ≡ c → is_some (find path_cmp (take n q) (with_root (renamed p t es))) ≡ true
  front-of q n is true begins c _ =
      let split : q ≡ t ++ drop (length t) q = begins-front t q begins in
      ap (λ x. is_some (find path_cmp (take n x) (with_root (renamed p t es)))) split
      ∙ front-in (drop (length t) q) n (sym (ap (λ x. is_some (find path_cmp x (with_root (renamed p t es)))) split) ∙ is) (cases_lt n (length t))
  front-of q n is false out true begins = let never : false ≡ true = sym (ap is_some (find-from q out begins)) ∙ is in cc
  front-of q n is false out false away_p =
      ap is_some (find-out (take n q) (not_front t q n out _ refl) (not_front p q n away_p _ refl)) ∙ h.closed q n (sym (ap is_some (find-out q out away_p)) ∙ is)

  pub renamed-kept : IsNameMap (renamed p t es)
  renamed-kept = record { sorted = renamed-sorted; closed = λ q n is. front-of q n is (begins_with t q) refl (begins_with p q) refl }

-- what the steps of a rename leave
pub rename-steps : (p t : Path) (es new d d1 block : Entries) (at : ℕ) → d ≡ where_key path_cmp (λ k. not (begins_with p k)) es → d1 ≡ where_key path_cmp (others t) d → at ≡ place t d1
    → block ≡ moves p t (where_key path_cmp (begins_with p) es) → new ≡ take at d1 ++ (block ++ drop at d1) → new ≡ renamed p t es
rename-steps p t es new d d1 block at out gone place_is moved_is made =
    let rest : d1 ≡ where_key path_cmp (others t) (where_key path_cmp (λ k. not (begins_with p k)) es) = gone ∙ ap (where_key path_cmp (others t)) out in
    made ∙ ap (λ n. take n d1 ++ (block ++ drop n d1)) place_is ∙ ap (λ b. take (place t d1) d1 ++ (b ++ drop (place t d1) d1)) moved_is
    ∙ ap (λ l. spliced t (moves p t (where_key path_cmp (begins_with p) es)) l) rest
