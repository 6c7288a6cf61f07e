-- Which names lie right under a path, and that with a path its fronts are there.
use Rattle.std.proofs.Common.{◌≡◌, ℕ, suc, Bool, true, false, cond, List, [], ◌∷◌, ◌++◌, length, map, Option, Some, None, is_some, sym, ap, ◌∙◌, refl, arith, inl, inr, append_assoc, slice_get}
use Rattle.std.specs.Prelude.{nat_lt}
use Rattle.std.proofs.lemmas.Bool.Decides.{nat_tests}
use Rattle.std.specs.List.{filter_map, cons_option}
use Rattle.std.specs.Ordering.{eq_by_cmp, is_eq}
use Rattle.std.specs.Cmp.{tied_itself}
use Rattle.std.specs.FinMap as maps
use Rattle.std.specs.FinMap.{FinMap, get-entries}
use Rattle.std.specs.FinMap.Entries.{find}
use Rattle.rz_events.specs.declared.tree.TreeFault.TheVariants as fault
use Rattle.rz_export_model.specs.Firsts.{given_if}
use Rattle.rz_export_model.specs.Paths.{Name, Path, path_cmp, paths_total, exact_paths, names_total, right_under}
use Rattle.rz_export_model.specs.Tree.{Tree, names_under, is_at, is_dir}
use Rattle.rz_export_model.specs.Refusals.{not_empty}
use Rattle.rz_tree.specs.Trees.{IsTree}
use Rattle.rz_tree.proofs.Keys.{not_none, false-true, none-or-some, one-or-two, ties-itself}
use Rattle.rz_names.proofs.Names.{Entries}
use Rattle.rz_tree.proofs.Fronts.{append-nothing}
use Rattle.rz_names.specs.Names.{next_name}
use Rattle.rz_tree.proofs.Listings.{right-is, next-first}
use Rattle.rz_tree.proofs.Rules.{dir-found}

right-more : (p : Path) (n : Name) → right_under p (p ++ n ∷ []) ≡ Some n
right-more [] n = refl
right-more (m ∷ p) n = ap (λ r. cond (is_eq r) (right_under p (p ++ n ∷ [])) None) (tied_itself names_total m) ∙ right-more p n

find-tail : (k : Path) (e : Path × ℕ) (es : Entries) → find path_cmp k (e ∷ es) ≡ None → (eq_by_cmp path_cmp k e.0 ≡ false) × (find path_cmp k es ≡ None)
find-tail k e es h = go (eq_by_cmp path_cmp k e.0) refl h
  where
    go : (b : Bool) → eq_by_cmp path_cmp k e.0 ≡ b → cond b (Some e.1) (find path_cmp k es) ≡ None → (eq_by_cmp path_cmp k e.0 ≡ false) × (find path_cmp k es ≡ None)
    go true is h = absurd (not_none e.1 h)
    go false is h = (is, h)

none-right : (p : Path) (es : Entries) → ((n : Name) → find path_cmp (p ++ n ∷ []) es ≡ None) → filter_map (right_under p) (map (λ e. e.0) es) ≡ []
none-right p [] none = refl
none-right p (e ∷ es) none = go (right_under p e.0) refl (none-right p es (λ n. (find-tail (p ++ n ∷ []) e es (none n)).1))
  where
    go : (o : Option Name) → right_under p e.0 ≡ o → filter_map (right_under p) (map (λ x. x.0) es) ≡ [] → cons_option o (filter_map (right_under p) (map (λ x. x.0) es)) ≡ []
    go None is rest = rest
    go (Some n) is rest =
        let tied : eq_by_cmp path_cmp (p ++ n ∷ []) e.0 ≡ true = ap (eq_by_cmp path_cmp (p ++ n ∷ [])) (right-is p e.0 n is) ∙ ties-itself paths_total exact_paths (p ++ n ∷ []) in
        absurd (false-true (sym (find-tail (p ++ n ∷ []) e es (none n)).0 ∙ tied))

-- where no path has one name more, no name lies right under a path
pub clear-under : (names : FinMap path_cmp ℕ) (p : Path) → ((n : Name) → maps.get names (p ++ n ∷ []) ≡ None) → names_under names p ≡ []
clear-under names p none = none-right p (maps.entries names) (λ n. sym (get-entries names (p ++ n ∷ [])) ∙ none n)

no_cons : (o : Option Name) (ns : List Name) → cons_option o ns ≡ [] → (o ≡ None) × (ns ≡ [])
no_cons None ns h = (refl, h)
no_cons (Some n) ns h = cc

right-none : (p : Path) (n : Name) (es : Entries) → filter_map (right_under p) (map (λ e. e.0) es) ≡ [] → find path_cmp (p ++ n ∷ []) es ≡ None
right-none p n [] none = refl
right-none p n (e ∷ es) none =
    let parts = no_cons (right_under p e.0) (filter_map (right_under p) (map (λ (x : Path × ℕ). x.0) es)) none in
    elim (one-or-two paths_total exact_paths (p ++ n ∷ []) e.0) [
      | inl same ↦ absurd (not_none n (sym (right-more p n) ∙ ap (right_under p) same ∙ parts.0))
      | inr other ↦ ap (λ b. cond b (Some e.1) (find path_cmp (p ++ n ∷ []) es)) other ∙ right-none p n es parts.1
    ]

-- and the other way round
pub under-clear : (names : FinMap path_cmp ℕ) (p : Path) → names_under names p ≡ [] → (n : Name) → maps.get names (p ++ n ∷ []) ≡ None
under-clear names p none n = get-entries names (p ++ n ∷ []) ∙ right-none p n (maps.entries names) none

no_length : (ns : List Name) → nat_lt 0 (length ns) ≡ false → ns ≡ []
no_length [] h = refl
no_length (n ∷ ns) h = absurd (more (length ns) h)
  where
    more : (k : ℕ) → nat_lt 0 (suc k) ≡ false → ⊥
    more k h = grind (arith, nat_tests)

given-not : {A : Type 0} (b : Bool) (x : A) → given_if b x ≡ None → b ≡ false
given-not true x h = absurd (not_none x h)
given-not false x h = refl

-- a directory with no fault of names has none
pub empty-under : (t : Tree) (p : Path) → not_empty t p ≡ None → names_under t.names p ≡ []
empty-under t p h = no_length (names_under t.names p) (given-not (nat_lt 0 (length (names_under t.names p))) fault.NotEmpty h)

-- a path with no first name has none
pub none-empty : (t : Tree) (p : Path) → next_name t.names p None ≡ None → not_empty t p ≡ None
none-empty t p none = ap (λ ns. given_if (nat_lt 0 (length ns)) fault.NotEmpty) (no_first (names_under t.names p) (sym (next-first t.names p) ∙ none))
  where
    no_first : (ns : List Name) → slice_get ns 0 ≡ None → ns ≡ []
    no_first [] h = refl
    no_first (n ∷ ns) h = absurd (not_none n h)

module _ (t : Tree) (rules : IsTree t) where
  -- what is no directory has no names under it
  pub leaf-under : (p : Path) → is_at t p is_dir ≡ false → names_under t.names p ≡ []
  leaf-under p h = clear-under t.names p (λ n. elim (none-or-some (maps.get t.names (p ++ n ∷ []))) [
    | inl none ↦ none
    | inr some ↦ absurd (false-true (sym h ∙ rules.under p n (ap is_some some.1)))
  ])

  -- what is not there has no names under it
  pub absent-under : (p : Path) → maps.get t.names p ≡ None → names_under t.names p ≡ []
  absent-under p h = clear-under t.names p (λ n. elim (none-or-some (maps.get t.names (p ++ n ∷ []))) [
    | inl none ↦ none
    | inr some ↦ let d = dir-found t p (rules.under p n (ap is_some some.1)) in absurd (not_none d.fid (sym d.at ∙ h))
  ])

  -- with a path its fronts are there
  pub front-there : (p r : Path) → is_some (maps.get t.names (p ++ r)) ≡ true → is_some (maps.get t.names p) ≡ true
  front-there p [] h = ap (λ q. is_some (maps.get t.names q)) (sym (append-nothing p)) ∙ h
  front-there p (n ∷ r) h =
      let longer : is_some (maps.get t.names (p ++ n ∷ [])) ≡ true = front-there (p ++ n ∷ []) r (ap (λ q. is_some (maps.get t.names q)) (append_assoc p (n ∷ []) r) ∙ h) in
      let d = dir-found t p (rules.under p n longer) in
      ap is_some d.at
