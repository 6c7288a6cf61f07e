-- A tree in which a path, and all below it, go to another.
use Rattle.std.proofs.Common.{◌≡◌, ℕ, ◌≤◌, Bool, true, false, ◌&&◌, [], ◌∷◌, ◌++◌, length, drop, Some, None, is_some, sym, ap, ◌∙◌, subst, refl, inl, inr, ◌⊎◌, append_assoc}
use Rattle.std.specs.FinMap as maps
use Rattle.std.specs.FinMap.{FinMap, same_map}
use Rattle.rz_export_model.proofs.Tests.{eq_true}
use Rattle.rz_export_model.specs.Paths.{Name, Path, path_cmp, paths_total, exact_paths, exact_names, above, is_root, same_name, begins_with}
use Rattle.rz_export_model.specs.Tree.{Tree, is_at, is_dir, paths_to, moved}
use Rattle.rz_tree.specs.Inodes.{Table}
use Rattle.rz_tree.specs.Trees.{tree_of, IsTree, IsKept}
use Rattle.rz_tree.proofs.Keys.{not_none, false-true, true-or-false, one-or-two, get-removed, get-left}
use Rattle.rz_tree.proofs.Fronts.{above-append}
use Rattle.rz_names.proofs.PathOrder.{and_parts, begins-front}
use Rattle.rz_tree.proofs.Moves.{get-in, get-from, get-out, count-moved}
use Rattle.rz_tree.proofs.Rules.{dir-found, dir-is}
use Rattle.rz_tree.proofs.Names.{front-there}

-- to take away what is not there changes nothing
pub remove-absent : (names : FinMap path_cmp ℕ) (p : Path) → maps.get names p ≡ None → maps.remove names p ≡ names
remove-absent names p none = same_map paths_total exact_paths _ _ (λ q. elim (one-or-two paths_total exact_paths q p) [
  | inl same ↦ ap (maps.get (maps.remove names p)) same ∙ get-removed paths_total exact_paths names p ∙ sym (ap (maps.get names) same ∙ none)
  | inr other ↦ get-left paths_total exact_paths names p q other
])

-- what a path begins with, a longer one begins with
pub begins-longer : (f q r : Path) → begins_with f q ≡ true → begins_with f (q ++ r) ≡ true
begins-longer [] q r h = refl
begins-longer (m ∷ f) [] r h = cc
begins-longer (m ∷ f) (n ∷ q) r h =
    let parts = and_parts (same_name m n) (begins_with f q) h in
    ap (λ b. b && begins_with f (q ++ r)) parts.0 ∙ begins-longer f q r parts.1

-- with one more name a path is the front, or begins with it already
pub begins-last : (f q : Path) (n : Name) → begins_with f (q ++ n ∷ []) ≡ true → (q ++ n ∷ [] ≡ f) ⊎ (begins_with f q ≡ true)
begins-last f q n h = elim (true-or-false (begins_with f q)) [
  | inl is ↦ inr is
  | inr other ↦ inl (go f q h other)
]
  where
    root_only : (f : Path) (m : Name) → begins_with f (m ∷ []) ≡ true → begins_with f [] ≡ false → m ∷ [] ≡ f
    root_only [] m h other = cc
    root_only (k ∷ []) m h other =
        let whole : m ∷ [] ≡ k ∷ [] = begins-front (k ∷ []) (m ∷ []) h in whole
    root_only (k ∷ l ∷ f) m h other = absurd (false-true (and_parts (same_name k m) (begins_with (l ∷ f) []) h).1)

    go : (f q : Path) → begins_with f (q ++ n ∷ []) ≡ true → begins_with f q ≡ false → q ++ n ∷ [] ≡ f
    go [] q h other = cc
    go (m ∷ f) [] h other = root_only (m ∷ f) n h other
    go (m ∷ f) (k ∷ q) h other =
        let parts = and_parts (same_name m k) (begins_with f (q ++ n ∷ [])) h in
        let rest : q ++ n ∷ [] ≡ f = go f q parts.1 (sym (ap (λ b. b && begins_with f q) parts.0) ∙ other) in
        let same : m ≡ k = same_first m k parts.0 in
        λ i. sym same i ∷ rest i
      where
        same_first : (m k : Name) → same_name m k ≡ true → m ≡ k
        same_first m k is = exact_names m k (eq_true _ is)

-- a path does not begin with a longer one that it is the front of
pub above-short : (q : Path) (n : Name) → begins_with (q ++ n ∷ []) q ≡ false
above-short [] n = refl
above-short (m ∷ q) n = ap (λ b. same_name m m && b) (above-short q n) ∙ and_false (same_name m m)
  where
    and_false : (b : Bool) → (b && false) ≡ false
    and_false true = refl
    and_false false = refl

module _ (t : Tree) (rules : IsTree t) (p to : Path) (away : begins_with p to ≡ false) (other : is_root to ≡ false)
    (gone : maps.get t.names to ≡ None) (parent : is_at t (above to) is_dir ≡ true) where
  abbrev after : Tree
  after = record t { names = moved p to t.names }

  -- no path begins with the one that is to be
  pub clear : (q : Path) (f : ℕ) → maps.get t.names q ≡ Some f → begins_with to q ≡ false
  clear q f at = elim (true-or-false (begins_with to q)) [
    | inl begins ↦
        let split : q ≡ to ++ drop (length to) q = begins-front to q begins in
        let there : is_some (maps.get t.names to) ≡ true = front-there t rules to (drop (length to) q) (ap (λ x. is_some (maps.get t.names x)) (sym split) ∙ ap is_some at) in
        absurd (false-true (sym (ap is_some gone) ∙ there))
    | inr is ↦ is
  ]

  -- a path that neither begins with `p` nor with `to` stays
  pub stays : (q : Path) → begins_with to q ≡ false → begins_with p q ≡ false → maps.get (moved p to t.names) q ≡ maps.get t.names q
  stays q not_to not_p = get-out t.names p to clear q not_to not_p

  dir_stays : (q : Path) → begins_with to q ≡ false → begins_with p q ≡ false → is_at t q is_dir ≡ true → is_at after q is_dir ≡ true
  dir_stays q not_to not_p h =
      let d = dir-found t q h in
      dir-is after q (record { fid = d.fid; object = d.object; at = stays q not_to not_p ∙ d.at; is = d.is; dir = d.dir })

  dir_moves : (r : Path) → is_at t (p ++ r) is_dir ≡ true → is_at after (to ++ r) is_dir ≡ true
  dir_moves r h =
      let d = dir-found t (p ++ r) h in
      dir-is after (to ++ r) (record { fid = d.fid; object = d.object; at = get-in t.names p to clear r ∙ d.at; is = d.is; dir = d.dir })

  pub not_from_root : begins_with p [] ≡ false
  not_from_root = go p away
    where
      go : (p : Path) → begins_with p to ≡ false → begins_with p [] ≡ false
      go [] h = cc
      go (m ∷ p) h = refl

  pub not_to_root : begins_with to [] ≡ false
  not_to_root = go to other
    where
      go : (q : Path) → is_root q ≡ false → begins_with q [] ≡ false
      go [] h = cc
      go (m ∷ q) h = refl

  leads_still : (q : Path) (f : ℕ) → maps.get (moved p to t.names) q ≡ Some f → is_some (maps.get t.objects f) ≡ true
  leads_still q f at = elim (true-or-false (begins_with to q)) [
    | inl begins ↦
        let split : q ≡ to ++ drop (length to) q = begins-front to q begins in
        rules.leads (p ++ drop (length to) q) f (sym (get-in t.names p to clear (drop (length to) q)) ∙ ap (maps.get (moved p to t.names)) (sym split) ∙ at)
    | inr not_to ↦ elim (true-or-false (begins_with p q)) [
      | inl begins ↦ absurd (not_none f (sym at ∙ get-from t.names p to clear q not_to begins))
      | inr not_p ↦ rules.leads q f (sym (stays q not_to not_p) ∙ at)
    ]
  ]

  short : (f q r : Path) → begins_with f (q ++ r) ≡ false → begins_with f q ≡ false
  short f q r h = elim (true-or-false (begins_with f q)) [
    | inl begins ↦ absurd (false-true (sym h ∙ begins-longer f q r begins))
    | inr is ↦ is
  ]

  under_new : (q : Path) (n : Name) → q ++ n ∷ [] ≡ to → is_at after q is_dir ≡ true
  under_new q n same =
      dir_stays q (ap (λ x. begins_with x q) (sym same) ∙ above-short q n) (short p q (n ∷ []) (ap (begins_with p) same ∙ away))
      (ap (λ x. is_at t x is_dir) (sym (ap above (sym same) ∙ above-append q n)) ∙ parent)

  under_moved : (q : Path) (n : Name) → begins_with to q ≡ true → is_some (maps.get (moved p to t.names) (q ++ n ∷ [])) ≡ true → is_at after q is_dir ≡ true
  under_moved q n begins there =
      let split : q ≡ to ++ drop (length to) q = begins-front to q begins in
      let r : Path = drop (length to) q in
      let old : maps.get (moved p to t.names) (q ++ n ∷ []) ≡ maps.get t.names ((p ++ r) ++ n ∷ []) =
      ap (λ x. maps.get (moved p to t.names) (x ++ n ∷ [])) split ∙ ap (maps.get (moved p to t.names)) (append_assoc to r (n ∷ []))
      ∙ get-in t.names p to clear (r ++ n ∷ []) ∙ ap (maps.get t.names) (sym (append_assoc p r (n ∷ []))) in
      ap (λ x. is_at after x is_dir) split ∙ dir_moves r (rules.under (p ++ r) n (ap is_some (sym old) ∙ there))

  under_still : (q : Path) (n : Name) → is_some (maps.get (moved p to t.names) (q ++ n ∷ [])) ≡ true → is_at after q is_dir ≡ true
  under_still q n there = elim (true-or-false (begins_with to (q ++ n ∷ []))) [
    | inl begins ↦ elim (begins-last to q n begins) [
      | inl same ↦ under_new q n same
      | inr front ↦ under_moved q n front there
    ]
    | inr not_to ↦ elim (true-or-false (begins_with p (q ++ n ∷ []))) [
      | inl begins ↦ absurd (false-true (sym (ap is_some (get-from t.names p to clear (q ++ n ∷ []) not_to begins)) ∙ there))
      | inr not_p ↦ dir_stays q (short to q (n ∷ []) not_to) (short p q (n ∷ []) not_p) (rules.under q n (ap is_some (sym (stays (q ++ n ∷ []) not_to not_p)) ∙ there))
    ]
  ]

  pub moved-rules : IsTree (record t { names = moved p to t.names })
  moved-rules = record {
    root = dir_stays [] not_to_root not_from_root rules.root;
    leads = leads_still;
    under = under_still;
    single = λ f o at dir. subst (λ n. n ≤ 1) (sym (count-moved t.names p to clear f)) (rules.single f o at dir);
    drawn = rules.drawn;
  }

  pub moved-count : (f : ℕ) → paths_to (moved p to t.names) f ≡ paths_to t.names f
  moved-count f = count-moved t.names p to clear f

-- kept names and objects after the move
pub moved-kept : (names : FinMap path_cmp ℕ) (table : Table) (made : ℕ) → IsKept names table made → (p to : Path) → begins_with p to ≡ false → is_root to ≡ false
    → maps.get names to ≡ None → is_at (tree_of names table made) (above to) is_dir ≡ true → IsKept (moved p to names) table made
moved-kept names table made kept p to away other gone parent = record {
  tree = moved-rules (tree_of names table made) kept.tree p to away other gone parent;
  counted = λ f i at. kept.counted f i at ∙ sym (moved-count (tree_of names table made) kept.tree p to away other gone parent f);
}
