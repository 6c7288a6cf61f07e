-- A whole tree in which an object is changed.
use Rattle.std.proofs.Common.{◌≡◌, ℕ, ◌+◌, ◌≤◌, true, cond, [], Some, is_some, sym, ap, ◌∙◌, subst, refl, inl, inr}
use Rattle.std.specs.Ordering.{nat_cmp}
use Rattle.std.specs.Cmp.{nat_cmp_total}
use Rattle.std.specs.FinMap as maps
use Rattle.std.specs.FinMap.{FinMap, nat_cmp-IsAntisymmetric, len-insert}
use Rattle.rz_export_model.specs.Paths.{Path}
use Rattle.rz_export_model.specs.Tree.{Tree, Object, is_at, is_dir, paths_to}
use Rattle.rz_tree.specs.Trees.{IsTree}
use Rattle.rz_tree.specs.Added.{FitsKind, most_names}
use Rattle.rz_export_laws.specs.WholeTree.{IsWholeTree}
use Rattle.rz_tree.proofs.Keys.{same_some, held, one-or-two, get-inserted, get-beside}
use Rattle.rz_tree.proofs.Rules.{dir-found, dir-is}

module _ (t : Tree) (w : IsWholeTree t) (fid : ℕ) (o new : Object) (is : maps.get t.objects fid ≡ Some o) (kind : new.kind ≡ o.kind) (fits : FitsKind new.kind new) where
  abbrev next : FinMap nat_cmp Object
  next = maps.insert t.objects fid new

  own : maps.get next fid ≡ Some new
  own = get-inserted nat_cmp_total nat_cmp-IsAntisymmetric t.objects fid new

  -- what is there was there, and of the same kind
  was : (f : ℕ) (x : Object) → maps.get next f ≡ Some x → (y : Object) × (maps.get t.objects f ≡ Some y) × (x.kind ≡ y.kind)
  was f x at = elim (one-or-two nat_cmp_total nat_cmp-IsAntisymmetric f fid) [
    | inl same ↦ (o, ap (maps.get t.objects) same ∙ is, ap (λ (z : Object). z.kind) (sym (same_some new x (sym (ap (maps.get next) same ∙ own) ∙ at))) ∙ kind)
    | inr other ↦ (x, sym (get-beside nat_cmp_total nat_cmp-IsAntisymmetric t.objects fid new f other) ∙ at, refl)
  ]

  -- and what was there still is
  still : (f : ℕ) (y : Object) → maps.get t.objects f ≡ Some y → (x : Object) × (maps.get next f ≡ Some x) × (x.kind ≡ y.kind)
  still f y at = elim (one-or-two nat_cmp_total nat_cmp-IsAntisymmetric f fid) [
    | inl same ↦ (new, ap (maps.get next) same ∙ own, kind ∙ ap (λ (z : Object). z.kind) (same_some o y (sym (ap (maps.get t.objects) same ∙ is) ∙ at)))
    | inr other ↦ (y, get-beside nat_cmp_total nat_cmp-IsAntisymmetric t.objects fid new f other ∙ at, refl)
  ]

  there-before : (f : ℕ) → is_some (maps.get next f) ≡ true → is_some (maps.get t.objects f) ≡ true
  there-before f there = let h = held (maps.get next f) there in ap is_some (was f h.0 h.1).1

  there-still : (f : ℕ) → is_some (maps.get t.objects f) ≡ true → is_some (maps.get next f) ≡ true
  there-still f there = let h = held (maps.get t.objects f) there in ap is_some (still f h.0 h.1).1

  dir_stays : (q : Path) → is_at t q is_dir ≡ true → is_at (record t { objects = next }) q is_dir ≡ true
  dir_stays q h =
      let d = dir-found t q h in
      let s = still d.fid d.object d.is in
      dir-is (record t { objects = next }) q (record { fid = d.fid; object = s.0; at = d.at; is = s.1; dir = ap is_dir s.2 ∙ d.dir })

  changed-rules : IsTree (record t { objects = next })
  changed-rules = record {
    root = dir_stays [] w.rules.root;
    leads = λ path f at. there-still f (w.rules.leads path f at);
    under = λ path name there. dir_stays path (w.rules.under path name there);
    single = λ f x at dir. let b = was f x at in w.rules.single f b.0 b.1 (ap is_dir (sym b.2) ∙ dir);
    drawn = λ f there. w.rules.drawn f (there-before f there);
  }

  fits-now : (f : ℕ) (x : Object) → maps.get next f ≡ Some x → FitsKind x.kind x
  fits-now f x at = elim (one-or-two nat_cmp_total nat_cmp-IsAntisymmetric f fid) [
    | inl same ↦ subst (λ (z : Object). FitsKind z.kind z) (same_some new x (sym (ap (maps.get next) same ∙ own) ∙ at)) fits
    | inr other ↦ w.fits f x (sym (get-beside nat_cmp_total nat_cmp-IsAntisymmetric t.objects fid new f other) ∙ at)
  ]

  same-len : maps.len next ≡ maps.len t.objects
  same-len = len-insert nat_cmp_total t.objects fid new ∙ ap (λ b. cond b (maps.len t.objects) (maps.len t.objects + 1)) (ap is_some is)

  pub changed-whole : IsWholeTree (record t { objects = next })
  changed-whole = record {
    rules = changed-rules;
    root = w.root;
    root_alone = w.root_alone;
    few = subst (λ n. n ≤ 65537) (sym same-len) w.few;
    fits = fits-now;
    named = λ f there. w.named f (there-before f there);
    few_names = λ f x at. let b = was f x at in subst (λ k. paths_to t.names f ≤ most_names k) (sym b.2) (w.few_names f b.0 b.1);
    spelled = w.spelled;
  }
