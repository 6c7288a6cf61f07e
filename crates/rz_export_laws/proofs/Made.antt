-- A whole tree in which an object is made.
use Rattle.std.proofs.Common.{◌≡◌, ℕ, ◌+◌, ◌≤◌, Bool, true, false, cond, [], ◌∷◌, ◌++◌, Some, None, is_some, sym, ap, ◌∙◌, subst, refl, arith, inl, inr}
use Rattle.std.specs.Prelude.{◌||◌, ◌-◌, ◌^◌, nat_lt, nat_le}
use Rattle.std.proofs.lemmas.Bool.Decides.{nat_tests}
use Rattle.rz_events.specs.declared.tree.TreeFault.TheVariants as fault
use Rattle.std.specs.Ordering.{nat_cmp, eq_by_cmp}
use Rattle.std.specs.Cmp.{nat_cmp_total}
use Rattle.std.specs.List.{list_all}
use Rattle.std.specs.FinMap as maps
use Rattle.std.specs.FinMap.{FinMap, nat_cmp-IsAntisymmetric, len-insert}
use Rattle.rz_export_model.specs.Paths.{Name, Path, path_cmp, paths_total, exact_paths, above, is_root}
use Rattle.rz_export_model.specs.Tree.{Tree, Object, is_at, is_dir, paths_to}
use Rattle.rz_tree.specs.Trees.{IsTree}
use Rattle.rz_tree.specs.Added.{FitsKind, most_names}
use Rattle.rz_tree.proofs.Counts.{count-insert, one_if-same, one_if-other, no-path}
use Rattle.rz_tree.proofs.Links.{zero_plus}
use Rattle.rz_export_laws.specs.WholeTree.{IsWholeTree, is_plain}
use Rattle.rz_tree.proofs.Keys.{same_some, not_none, false-true, none-or-some, one-or-two, ties-itself, apart, get-inserted, get-beside}
use Rattle.rz_tree.proofs.Fronts.{above-append}
use Rattle.rz_tree.proofs.Rules.{dir-found, dir-is}
use Rattle.rz_tree.proofs.Adds.{absent-name, above-dir, or_none, given-false, after_present, free-root, free-walk, free-found}
use Rattle.rz_export_model.specs.Firsts.{first_of}
use Rattle.rz_export_model.specs.Refusals.{can_not_make, too_many_files}
use Rattle.rz_export_model.specs.TreeCalls.{with_new}

one-most : (b : Bool) → 1 ≤ cond b 1 65535
one-most true = omega arith
one-most false = omega arith

-- where one more object may be made, there are few
free-few : (t : Tree) (path : Path) → first_of (can_not_make t path) ≡ None → maps.len t.objects ≤ 65536
free-few t path free =
    let none : too_many_files t ≡ None = (or_none (too_many_files t) None (after_present t path free).1).0 in
    at-most (maps.len t.objects) (nat_le (2 ^ 128 - 1) t.made) (given-false (nat_lt 65536 (maps.len t.objects) || nat_le (2 ^ 128 - 1) t.made) fault.TooManyFiles none)
  where
    at-most : (n : ℕ) (b : Bool) → (nat_lt 65536 n || b) ≡ false → n ≤ 65536
    at-most n b h = below (nat_lt 65536 n) refl h
      where
        below : (c : Bool) → nat_lt 65536 n ≡ c → (c || b) ≡ false → n ≤ 65536
        below true is h = cc
        below false is h = grind (arith, nat_tests)

module _ (t : Tree) (w : IsWholeTree t) (path : Path) (o : Object) (free : first_of (can_not_make t path) ≡ None) (fits : FitsKind o.kind o)
    (plain : list_all is_plain path ≡ true) where
  abbrev names : FinMap path_cmp ℕ
  names = maps.insert t.names path (t.made + 1)

  abbrev objects : FinMap nat_cmp Object
  objects = maps.insert t.objects (t.made + 1) o

  absent : maps.get t.names path ≡ None
  absent = absent-name t w.rules path (free-found t path free)

  low : (f : ℕ) → is_some (maps.get t.objects f) ≡ true → eq_by_cmp nat_cmp f (t.made + 1) ≡ false
  low f there = apart nat_cmp_total nat_cmp-IsAntisymmetric f (t.made + 1) (λ same. let most : f ≤ t.made = w.rules.drawn f there in absurd (omega arith))

  no-object : maps.get t.objects (t.made + 1) ≡ None
  no-object = elim (none-or-some (maps.get t.objects (t.made + 1))) [
    | inl none ↦ none
    | inr some ↦ let most : t.made + 1 ≤ t.made = w.rules.drawn (t.made + 1) (ap is_some some.1) in absurd (omega arith)
  ]

  unled : (q : Path) → maps.get t.names q ≡ Some (t.made + 1) → ⊥
  unled q at = let most : t.made + 1 ≤ t.made = w.rules.drawn (t.made + 1) (w.rules.leads q (t.made + 1) at) in omega arith

  old : (f : ℕ) → eq_by_cmp nat_cmp f (t.made + 1) ≡ false → maps.get objects f ≡ maps.get t.objects f
  old f other = get-beside nat_cmp_total nat_cmp-IsAntisymmetric t.objects (t.made + 1) o f other

  own : maps.get objects (t.made + 1) ≡ Some o
  own = get-inserted nat_cmp_total nat_cmp-IsAntisymmetric t.objects (t.made + 1) o

  name-own : maps.get names path ≡ Some (t.made + 1)
  name-own = get-inserted paths_total exact_paths t.names path (t.made + 1)

  name-old : (q : Path) → eq_by_cmp path_cmp q path ≡ false → maps.get names q ≡ maps.get t.names q
  name-old q other = get-beside paths_total exact_paths t.names path (t.made + 1) q other

  dir_stays : (q : Path) → is_at t q is_dir ≡ true → is_at (with_new t path o) q is_dir ≡ true
  dir_stays q h =
      let d = dir-found t q h in
      let other : eq_by_cmp path_cmp q path ≡ false = apart paths_total exact_paths q path (λ same. not_none d.fid (sym d.at ∙ ap (maps.get t.names) same ∙ absent)) in
      dir-is (with_new t path o) q (record { fid = d.fid; object = d.object; at = name-old q other ∙ d.at; is = old d.fid (low d.fid (ap is_some d.is)) ∙ d.is; dir = d.dir })

  count-new : paths_to names (t.made + 1) ≡ 1
  count-new = count-insert t.names path (t.made + 1) (t.made + 1) absent ∙ ap (λ n. n + paths_to t.names (t.made + 1)) (one_if-same (t.made + 1))
      ∙ ap (λ n. 1 + n) (no-path t.names (t.made + 1) unled)

  count-old : (f : ℕ) → eq_by_cmp nat_cmp f (t.made + 1) ≡ false → paths_to names f ≡ paths_to t.names f
  count-old f other = count-insert t.names path (t.made + 1) f absent
      ∙ ap (λ n. n + paths_to t.names f) (one_if-other (t.made + 1) f (λ same. false-true (sym other ∙ ap (λ n. eq_by_cmp nat_cmp n (t.made + 1)) (sym same) ∙ ties-itself nat_cmp_total nat_cmp-IsAntisymmetric (t.made + 1))))
      ∙ zero_plus (paths_to t.names f)

  leads_still : (q : Path) (f : ℕ) → maps.get names q ≡ Some f → is_some (maps.get objects f) ≡ true
  leads_still q f at = elim (one-or-two paths_total exact_paths q path) [
    | inl same ↦ ap (λ n. is_some (maps.get objects n)) (sym (same_some (t.made + 1) f (sym (ap (maps.get names) same ∙ name-own) ∙ at))) ∙ ap is_some own
    | inr other ↦ let there = w.rules.leads q f (sym (name-old q other) ∙ at) in ap is_some (old f (low f there)) ∙ there
  ]

  under_still : (q : Path) (n : Name) → is_some (maps.get names (q ++ n ∷ [])) ≡ true → is_at (with_new t path o) q is_dir ≡ true
  under_still q n there = elim (one-or-two paths_total exact_paths (q ++ n ∷ []) path) [
    | inl same ↦ dir_stays q (ap (λ x. is_at t x is_dir) (sym (ap above (sym same) ∙ above-append q n)) ∙ above-dir t w.rules path (free-root t path free) (free-walk t path free))
    | inr other ↦ dir_stays q (w.rules.under q n (ap is_some (sym (name-old (q ++ n ∷ []) other)) ∙ there))
  ]

  made-rules : IsTree (with_new t path o)
  made-rules = record {
    root = dir_stays [] w.rules.root;
    leads = leads_still;
    under = under_still;
    single = λ f x at dir. elim (one-or-two nat_cmp_total nat_cmp-IsAntisymmetric f (t.made + 1)) [
      | inl same ↦ let one : paths_to names f ≡ 1 = ap (paths_to names) same ∙ count-new in omega (arith, one)
      | inr other ↦ subst (λ n. n ≤ 1) (sym (count-old f other)) (w.rules.single f x (sym (old f other) ∙ at) dir)
    ];
    drawn = λ f there. elim (one-or-two nat_cmp_total nat_cmp-IsAntisymmetric f (t.made + 1)) [
      | inl same ↦ omega arith
      | inr other ↦ let most : f ≤ t.made = w.rules.drawn f (sym (ap is_some (old f other)) ∙ there) in omega arith
    ];
  }

  few-made : maps.len objects ≤ 65537
  few-made =
      let most : maps.len t.objects ≤ 65536 = free-few t path free in
      let more : maps.len objects ≡ maps.len t.objects + 1 =
      len-insert nat_cmp_total t.objects (t.made + 1) o ∙ ap (λ b. cond b (maps.len t.objects) (maps.len t.objects + 1)) (ap is_some no-object) in
      omega (arith, most, more)

  pub made-whole : IsWholeTree (with_new t path o)
  made-whole = record {
    rules = made-rules;
    root = name-old [] (apart paths_total exact_paths [] path (λ same. false-true (sym (free-root t path free) ∙ ap is_root (sym same)))) ∙ w.root;
    root_alone = λ q at. elim (one-or-two paths_total exact_paths q path) [
      | inl same ↦ let none : t.made + 1 ≡ 0 = same_some (t.made + 1) 0 (sym (ap (maps.get names) same ∙ name-own) ∙ at) in absurd (omega (arith, none))
      | inr other ↦ w.root_alone q (sym (name-old q other) ∙ at)
    ];
    few = few-made;
    fits = λ f x at. elim (one-or-two nat_cmp_total nat_cmp-IsAntisymmetric f (t.made + 1)) [
      | inl same ↦ subst (λ (z : Object). FitsKind z.kind z) (same_some o x (sym (ap (maps.get objects) same ∙ own) ∙ at)) fits
      | inr other ↦ w.fits f x (sym (old f other) ∙ at)
    ];
    named = λ f there. elim (one-or-two nat_cmp_total nat_cmp-IsAntisymmetric f (t.made + 1)) [
      | inl same ↦ let one : paths_to names f ≡ 1 = ap (paths_to names) same ∙ count-new in omega (arith, one)
      | inr other ↦ subst (λ n. 1 ≤ n) (sym (count-old f other)) (w.named f (sym (ap is_some (old f other)) ∙ there))
    ];
    few_names = λ f x at. elim (one-or-two nat_cmp_total nat_cmp-IsAntisymmetric f (t.made + 1)) [
      | inl same ↦ subst (λ n. n ≤ most_names x.kind) (sym (ap (paths_to names) same ∙ count-new)) (one-most (is_dir x.kind))
      | inr other ↦ subst (λ n. n ≤ most_names x.kind) (sym (count-old f other)) (w.few_names f x (sym (old f other) ∙ at))
    ];
    spelled = λ q f at. elim (one-or-two paths_total exact_paths q path) [
      | inl same ↦ ap (list_all is_plain) same ∙ plain
      | inr other ↦ w.spelled q f (sym (name-old q other) ∙ at)
    ];
  }
