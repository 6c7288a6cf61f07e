-- A whole tree from which a name is taken.
use Rattle.std.proofs.Common.{◌≡◌, ℕ, suc, ◌+◌, ◌-◌, ◌≤◌, Bool, true, false, cond, [], ◌∷◌, ◌++◌, Some, None, is_some, sym, ap, ◌∙◌, subst, refl, arith, inl, inr}
use Rattle.std.specs.Ordering.{nat_cmp, eq_by_cmp}
use Rattle.std.specs.Cmp.{nat_cmp_total}
use Rattle.std.specs.FinMap as maps
use Rattle.std.specs.FinMap.{FinMap, nat_cmp-IsAntisymmetric, len-remove}
use Rattle.rz_export_model.specs.Paths.{Name, Path, path_cmp, paths_total, exact_paths, is_root}
use Rattle.rz_export_model.specs.Tree.{Tree, Object, is_at, is_dir, paths_to}
use Rattle.rz_tree.specs.Trees.{IsTree}
use Rattle.rz_tree.specs.Added.{most_names}
use Rattle.rz_tree.proofs.Counts.{count-remove, one_if, one_if-same, one_if-other, some-path, two-paths}
use Rattle.rz_tree.proofs.Links.{zero_plus}
use Rattle.rz_export_laws.specs.WholeTree.{IsWholeTree}
use Rattle.rz_tree.proofs.Keys.{not_none, false-true, held, one-or-two, ties-itself, apart, get-removed, get-left}
use Rattle.rz_tree.proofs.Rules.{dir-found, dir-is}
use Rattle.rz_tree.proofs.Names.{under-clear}
use Rattle.std.proofs.Common.{zero, eqb-true, eq-eqb}
use Rattle.std.specs.Prelude.{◌==◌}
use Rattle.std.specs.Option.{option_map, option_map_or, option_and_then}
use Rattle.rz_export_model.specs.Tree.{Found, found_at, links_of, names_under}
use Rattle.rz_export_model.specs.TreeCalls.{without_name}

module _ (t : Tree) (w : IsWholeTree t) (path : Path) (fid : ℕ) (o : Object) (at : maps.get t.names path ≡ Some fid) (is : maps.get t.objects fid ≡ Some o)
    (other : is_root path ≡ false) (last : names_under t.names path ≡ []) where
  abbrev names : FinMap path_cmp ℕ
  names = maps.remove t.names path

  abbrev links : ℕ
  links = cond (is_dir o.kind) 1 (paths_to t.names fid)

  abbrev objects : Bool → FinMap nat_cmp Object
  objects b = cond b (maps.remove t.objects fid) t.objects

  abbrev next : Bool → Tree
  next b = record t { names = names; objects = objects b }

  -- the links are the paths
  counted : (b : Bool) → is_dir o.kind ≡ b → paths_to t.names fid ≡ cond b 1 (paths_to t.names fid)
  counted true dir =
      let most : paths_to t.names fid ≤ 1 = w.rules.single fid o is dir in
      let some : 1 ≤ paths_to t.names fid = some-path t.names path fid at in
      omega (arith, most, some)
  counted false dir = refl

  count : paths_to t.names fid ≡ links
  count = counted (is_dir o.kind) refl

  beside : (b : Bool) (f : ℕ) → eq_by_cmp nat_cmp f fid ≡ false → maps.get (objects b) f ≡ maps.get t.objects f
  beside true f apart_f = get-left nat_cmp_total nat_cmp-IsAntisymmetric t.objects fid f apart_f
  beside false f apart_f = refl

  -- what is left was there
  was : (b : Bool) (f : ℕ) (x : Object) → maps.get (objects b) f ≡ Some x → maps.get t.objects f ≡ Some x
  was true f x there = elim (one-or-two nat_cmp_total nat_cmp-IsAntisymmetric f fid) [
    | inl same ↦ absurd (not_none x (sym there ∙ ap (maps.get (maps.remove t.objects fid)) same ∙ get-removed nat_cmp_total nat_cmp-IsAntisymmetric t.objects fid))
    | inr apart_f ↦ sym (beside true f apart_f) ∙ there
  ]
  was false f x there = there

  there-before : (b : Bool) (f : ℕ) → is_some (maps.get (objects b) f) ≡ true → is_some (maps.get t.objects f) ≡ true
  there-before b f there = let h = held (maps.get (objects b) f) there in ap is_some (was b f h.0 h.1)

  -- an object with two paths stays
  stays : (b : Bool) → (links == 1) ≡ b → 2 ≤ paths_to t.names fid → maps.get (objects b) fid ≡ Some o
  stays true h more = let one : links ≡ 1 = eqb-true links 1 h in let is_one : paths_to t.names fid ≡ 1 = count ∙ one in absurd (omega (arith, more, is_one))
  stays false h more = is

  single_dir : (q : Path) (f : ℕ) (x : Object) → maps.get t.names q ≡ Some f → maps.get t.objects f ≡ Some x → is_dir x.kind ≡ true → eq_by_cmp path_cmp q path ≡ false → f ≡ fid → ⊥
  single_dir q f x at_q is_q dir apart_q same =
      let one : paths_to t.names f ≤ 1 = w.rules.single f x is_q dir in
      let two : 2 ≤ paths_to t.names fid = two-paths t.names path q fid at (at_q ∙ ap Some same) apart_q in
      let one_fid : paths_to t.names fid ≤ 1 = subst (λ n. paths_to t.names n ≤ 1) same one in
      omega (arith, two, one_fid)

  dir_left : (b : Bool) (q : Path) → eq_by_cmp path_cmp q path ≡ false → is_at t q is_dir ≡ true → is_at (next b) q is_dir ≡ true
  dir_left b q apart_q h =
      let d = dir-found t q h in
      let apart_fid : eq_by_cmp nat_cmp d.fid fid ≡ false = apart nat_cmp_total nat_cmp-IsAntisymmetric d.fid fid (single_dir q d.fid d.object d.at d.is d.dir apart_q) in
      dir-is (next b) q (record {
        fid = d.fid;
        object = d.object;
        at = get-left paths_total exact_paths t.names path q apart_q ∙ d.at;
        is = beside b d.fid apart_fid ∙ d.is;
        dir = d.dir;
      })

  -- a path that is left is another one, and was there
  left_name : (q : Path) (f : ℕ) → maps.get names q ≡ Some f → (eq_by_cmp path_cmp q path ≡ false) × (maps.get t.names q ≡ Some f)
  left_name q f there = elim (one-or-two paths_total exact_paths q path) [
    | inl same ↦ absurd (not_none f (sym there ∙ ap (maps.get names) same ∙ get-removed paths_total exact_paths t.names path))
    | inr apart_q ↦ (apart_q, sym (get-left paths_total exact_paths t.names path q apart_q) ∙ there)
  ]

  leads_left : (b : Bool) → (links == 1) ≡ b → (q : Path) (f : ℕ) → maps.get names q ≡ Some f → is_some (maps.get (objects b) f) ≡ true
  leads_left b h q f there =
      let old = left_name q f there in
      elim (one-or-two nat_cmp_total nat_cmp-IsAntisymmetric f fid) [
        | inl same ↦ ap (λ n. is_some (maps.get (objects b) n)) same ∙ ap is_some (stays b h (two-paths t.names path q fid at (old.1 ∙ ap Some same) old.0))
        | inr apart_f ↦ ap is_some (beside b f apart_f) ∙ w.rules.leads q f old.1
      ]

  under_left : (b : Bool) (q : Path) (n : Name) → is_some (maps.get names (q ++ n ∷ [])) ≡ true → is_at (next b) q is_dir ≡ true
  under_left b q n there = elim (one-or-two paths_total exact_paths (q ++ n ∷ []) path) [
    | inl same ↦ absurd (false-true (sym (ap is_some (ap (maps.get names) same ∙ get-removed paths_total exact_paths t.names path)) ∙ there))
    | inr apart_more ↦
        let old : is_some (maps.get t.names (q ++ n ∷ [])) ≡ true = ap is_some (sym (get-left paths_total exact_paths t.names path (q ++ n ∷ []) apart_more)) ∙ there in
        dir_left b q (apart paths_total exact_paths q path (λ same. false-true (sym (ap is_some (ap (λ x. maps.get t.names (x ++ n ∷ [])) same ∙ under-clear t.names path last n)) ∙ old))) (w.rules.under q n old)
  ]

  root-apart : eq_by_cmp path_cmp [] path ≡ false
  root-apart = apart paths_total exact_paths [] path (λ same. false-true (sym other ∙ ap is_root (sym same)))

  count-beside : (f : ℕ) → eq_by_cmp nat_cmp f fid ≡ false → paths_to names f ≡ paths_to t.names f
  count-beside f apart_f = sym (count-remove t.names path fid f at
      ∙ ap (λ n. n + paths_to names f) (one_if-other fid f (λ same. false-true (sym apart_f ∙ ap (λ n. eq_by_cmp nat_cmp n fid) (sym same) ∙ ties-itself nat_cmp_total nat_cmp-IsAntisymmetric fid)))
      ∙ zero_plus (paths_to names f))

  count-less : paths_to t.names fid ≡ 1 + paths_to names fid
  count-less = count-remove t.names path fid fid at ∙ ap (λ n. n + paths_to names fid) (one_if-same fid)

  count-most : (f : ℕ) → paths_to names f ≤ paths_to t.names f
  count-most f = let all : paths_to t.names f ≡ one_if fid f + paths_to names f = count-remove t.names path fid f at in omega (arith, all)

  rules-left : (b : Bool) → (links == 1) ≡ b → IsTree (next b)
  rules-left b h = record {
    root = dir_left b [] root-apart w.rules.root;
    leads = leads_left b h;
    under = under_left b;
    single = λ f x there dir. let most : paths_to t.names f ≤ 1 = w.rules.single f x (was b f x there) dir in let less = count-most f in omega (arith, most, less);
    drawn = λ f there. w.rules.drawn f (there-before b f there);
  }

  few-left : (b : Bool) → maps.len (objects b) ≤ 65537
  few-left true =
      let one : maps.len (maps.remove t.objects fid) ≡ maps.len t.objects - 1 =
      len-remove nat_cmp_total t.objects fid ∙ ap (λ b. cond b (maps.len t.objects - 1) (maps.len t.objects)) (ap is_some is) in
      let most : maps.len t.objects ≤ 65537 = w.few in
      omega (arith, one, most)
  few-left false = w.few

  -- an object that stays has another name
  named-left : (b : Bool) → (links == 1) ≡ b → (f : ℕ) → is_some (maps.get (objects b) f) ≡ true → 1 ≤ paths_to names f
  named-left b h f there = elim (one-or-two nat_cmp_total nat_cmp-IsAntisymmetric f fid) [
    | inl same ↦ subst (λ n. 1 ≤ paths_to names n) (sym same) (own b h (sym (ap (λ n. is_some (maps.get (objects b) n)) same) ∙ there))
    | inr apart_f ↦ subst (λ n. 1 ≤ n) (sym (count-beside f apart_f)) (w.named f (there-before b f there))
  ]
    where
      own : (b : Bool) → (links == 1) ≡ b → is_some (maps.get (objects b) fid) ≡ true → 1 ≤ paths_to names fid
      own true h there = absurd (false-true (sym (ap is_some (get-removed nat_cmp_total nat_cmp-IsAntisymmetric t.objects fid)) ∙ there))
      own false h there = many (paths_to names fid) refl
        where
          many : (n : ℕ) → paths_to names fid ≡ n → 1 ≤ n
          many zero none =
              let one : links ≡ 1 = sym count ∙ count-less ∙ ap (λ n. 1 + n) none in
              absurd (false-true (sym h ∙ eq-eqb links 1 one))
          many (suc n) some = omega arith

  taken : (b : Bool) → (links == 1) ≡ b → IsWholeTree (next b)
  taken b h = record {
    rules = rules-left b h;
    root = get-left paths_total exact_paths t.names path [] root-apart ∙ w.root;
    root_alone = λ q there. w.root_alone q (left_name q 0 there).1;
    few = few-left b;
    fits = λ f x there. w.fits f x (was b f x there);
    named = named-left b h;
    few_names = λ f x there. let most : paths_to t.names f ≤ most_names x.kind = w.few_names f x (was b f x there) in let less = count-most f in omega (arith, most, less);
    spelled = λ q f there. w.spelled q f (left_name q f there).1;
  }

  taken-is : next (links == 1) ≡ without_name t path
  taken-is =
      let found : found_at t path ≡ Some (record { fid = fid; object = o }) =
      ap (λ f. option_and_then (λ n. option_map (λ y. (let x : Found = record { fid = n; object = y } in x)) (maps.get t.objects n)) f) at
      ∙ ap (option_map (λ y. (let x : Found = record { fid = fid; object = y } in x))) is in
      sym (ap (λ f. option_map_or (λ (x : Found). (let s : Tree = record t { names = maps.remove t.names path; objects = cond (links_of t x == 1) (maps.remove t.objects x.fid) t.objects } in s)) f t) found)

  pub taken-whole : IsWholeTree (without_name t path)
  taken-whole = subst IsWholeTree taken-is (taken (links == 1) refl)

  -- what stood at another path is a directory still
  pub taken-dir : (q : Path) → eq_by_cmp path_cmp q path ≡ false → is_at t q is_dir ≡ true → is_at (without_name t path) q is_dir ≡ true
  taken-dir q apart_q h = ap (λ s. is_at s q is_dir) (sym taken-is) ∙ dir_left (links == 1) q apart_q h

  pub taken-gone : maps.get (without_name t path).names path ≡ None
  taken-gone = ap (λ (s : Tree). maps.get s.names path) (sym taken-is) ∙ get-removed paths_total exact_paths t.names path
