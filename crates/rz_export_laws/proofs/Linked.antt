-- A whole tree in which an object gets one more name.
use Rattle.std.proofs.Common.{◌≡◌, ℕ, ◌+◌, ◌≤◌, ◌<◌, true, false, cond, [], ◌∷◌, ◌++◌, Some, None, is_some, sym, ap, ◌∙◌, subst, arith, inl, inr}
use Rattle.std.specs.Ordering.{nat_cmp, eq_by_cmp}
use Rattle.std.specs.Cmp.{nat_cmp_total}
use Rattle.std.specs.List.{list_all}
use Rattle.std.specs.FinMap as maps
use Rattle.std.specs.FinMap.{FinMap, nat_cmp-IsAntisymmetric}
use Rattle.rz_export_model.specs.Paths.{Name, Path, path_cmp, paths_total, exact_paths, above, is_root}
use Rattle.rz_export_model.specs.Tree.{Tree, Object, is_at, is_dir, paths_to}
use Rattle.rz_tree.specs.Trees.{IsTree}
use Rattle.rz_tree.specs.Added.{most_names}
use Rattle.rz_tree.proofs.Counts.{count-insert, one_if-same, one_if-other}
use Rattle.rz_tree.proofs.Links.{zero_plus}
use Rattle.rz_export_laws.specs.WholeTree.{IsWholeTree, is_plain}
use Rattle.rz_tree.proofs.Keys.{same_some, not_none, false-true, one-or-two, ties-itself, apart, get-inserted, get-beside}
use Rattle.rz_tree.proofs.Fronts.{above-append}
use Rattle.rz_tree.proofs.Rules.{dir-found, dir-is}
use Rattle.rz_export_model.specs.TreeCalls.{with_name}

module _ (t : Tree) (w : IsWholeTree t) (to : Path) (fid : ℕ) (object : Object) (is : maps.get t.objects fid ≡ Some object) (leaf : is_dir object.kind ≡ false)
    (room : paths_to t.names fid < 65535) (absent : maps.get t.names to ≡ None) (other : is_root to ≡ false) (parent : is_at t (above to) is_dir ≡ true)
    (plain : list_all is_plain to ≡ true) where
  abbrev names : FinMap path_cmp ℕ
  names = maps.insert t.names to fid

  name-own : maps.get names to ≡ Some fid
  name-own = get-inserted paths_total exact_paths t.names to fid

  name-old : (q : Path) → eq_by_cmp path_cmp q to ≡ false → maps.get names q ≡ maps.get t.names q
  name-old q other = get-beside paths_total exact_paths t.names to fid q other

  dir_stays : (q : Path) → is_at t q is_dir ≡ true → is_at (with_name t to fid) q is_dir ≡ true
  dir_stays q h =
      let d = dir-found t q h in
      dir-is (with_name t to fid) q (record {
        fid = d.fid;
        object = d.object;
        at = name-old q (apart paths_total exact_paths q to (λ same. not_none d.fid (sym d.at ∙ ap (maps.get t.names) same ∙ absent))) ∙ d.at;
        is = d.is;
        dir = d.dir;
      })

  leads_still : (q : Path) (f : ℕ) → maps.get names q ≡ Some f → is_some (maps.get t.objects f) ≡ true
  leads_still q f at = elim (one-or-two paths_total exact_paths q to) [
    | inl same ↦ ap (λ n. is_some (maps.get t.objects n)) (sym (same_some fid f (sym (ap (maps.get names) same ∙ name-own) ∙ at))) ∙ ap is_some is
    | inr other ↦ w.rules.leads q f (sym (name-old q other) ∙ at)
  ]

  under_still : (q : Path) (n : Name) → is_some (maps.get names (q ++ n ∷ [])) ≡ true → is_at (with_name t to fid) q is_dir ≡ true
  under_still q n there = elim (one-or-two paths_total exact_paths (q ++ n ∷ []) to) [
    | inl same ↦ dir_stays q (ap (λ x. is_at t x is_dir) (sym (ap above (sym same) ∙ above-append q n)) ∙ parent)
    | inr other ↦ dir_stays q (w.rules.under q n (ap is_some (sym (name-old (q ++ n ∷ []) other)) ∙ there))
  ]

  count-own : paths_to names fid ≡ 1 + paths_to t.names fid
  count-own = count-insert t.names to fid fid absent ∙ ap (λ n. n + paths_to t.names fid) (one_if-same fid)

  count-old : (f : ℕ) → eq_by_cmp nat_cmp f fid ≡ false → paths_to names f ≡ paths_to t.names f
  count-old f other = count-insert t.names to fid f absent
      ∙ ap (λ n. n + paths_to t.names f) (one_if-other fid f (λ same. false-true (sym other ∙ ap (λ n. eq_by_cmp nat_cmp n fid) (sym same) ∙ ties-itself nat_cmp_total nat_cmp-IsAntisymmetric fid)))
      ∙ zero_plus (paths_to t.names f)

  own-leaf : (f : ℕ) (x : Object) → f ≡ fid → maps.get t.objects f ≡ Some x → is_dir x.kind ≡ false
  own-leaf f x same at = ap (λ (z : Object). is_dir z.kind) (sym (same_some object x (sym is ∙ ap (maps.get t.objects) (sym same) ∙ at))) ∙ leaf

  linked-rules : IsTree (with_name t to fid)
  linked-rules = record {
    root = dir_stays [] w.rules.root;
    leads = leads_still;
    under = under_still;
    single = λ f x at dir. elim (one-or-two nat_cmp_total nat_cmp-IsAntisymmetric f fid) [
      | inl same ↦ absurd (false-true (sym (own-leaf f x same at) ∙ dir))
      | inr other ↦ subst (λ n. n ≤ 1) (sym (count-old f other)) (w.rules.single f x at dir)
    ];
    drawn = w.rules.drawn;
  }

  room-now : paths_to names fid ≤ 65535
  room-now = omega (arith, count-own, room)

  pub linked-whole : IsWholeTree (with_name t to fid)
  linked-whole = record {
    rules = linked-rules;
    root = name-old [] (apart paths_total exact_paths [] to (λ same. false-true (sym other ∙ ap is_root (sym same)))) ∙ w.root;
    root_alone = λ q at. elim (one-or-two paths_total exact_paths q to) [
      | inl same ↦ absurd (root-leaf (same_some fid 0 (sym (ap (maps.get names) same ∙ name-own) ∙ at)))
      | inr other ↦ w.root_alone q (sym (name-old q other) ∙ at)
    ];
    few = w.few;
    fits = w.fits;
    named = λ f there. elim (one-or-two nat_cmp_total nat_cmp-IsAntisymmetric f fid) [
      | inl same ↦ let more : paths_to names f ≡ 1 + paths_to t.names fid = ap (paths_to names) same ∙ count-own in omega (arith, more)
      | inr other ↦ subst (λ n. 1 ≤ n) (sym (count-old f other)) (w.named f there)
    ];
    few_names = λ f x at. elim (one-or-two nat_cmp_total nat_cmp-IsAntisymmetric f fid) [
      | inl same ↦ subst (λ b. paths_to names f ≤ cond b 1 65535) (sym (own-leaf f x same at)) (subst (λ n. paths_to names n ≤ 65535) (sym same) room-now)
      | inr other ↦ subst (λ n. n ≤ most_names x.kind) (sym (count-old f other)) (w.few_names f x at)
    ];
    spelled = λ q f at. elim (one-or-two paths_total exact_paths q to) [
      | inl same ↦ ap (list_all is_plain) same ∙ plain
      | inr other ↦ w.spelled q f (sym (name-old q other) ∙ at)
    ];
  }
    where
      -- the root is a directory
      root-leaf : fid ≡ 0 → ⊥
      root-leaf same =
          let d = dir-found t [] w.rules.root in
          let zero : d.fid ≡ 0 = same_some d.fid 0 (sym d.at ∙ w.root) in
          false-true (sym (own-leaf d.fid d.object (zero ∙ sym same) d.is) ∙ d.dir)
