-- A tree in which an object gets one more path.
use Rattle.std.proofs.Common.{◌≡◌, ℕ, ◌+◌, ◌≤◌, true, cond, [], ◌∷◌, ◌++◌, Some, None, is_some, sym, ap, ◌∙◌, subst, refl, arith, inl, inr}
use Rattle.std.specs.Option.{option_map, option_map_or}
use Rattle.std.specs.Ordering.{nat_cmp, eq_by_cmp}
use Rattle.std.specs.Cmp.{nat_cmp_total}
use Rattle.std.specs.FinMap as maps
use Rattle.std.specs.FinMap.{FinMap, nat_cmp-IsAntisymmetric}
use Rattle.rz_export_model.specs.Paths.{Name, Path, path_cmp, paths_total, exact_paths, above}
use Rattle.rz_export_model.specs.Tree.{Tree, Object, is_at, is_dir, paths_to}
use Rattle.rz_export_model.specs.TreeCalls.{with_name}
use Rattle.rz_tree.specs.declared.inodes.Inode.{Inode}
use Rattle.rz_tree.specs.Inodes.{Table, object_of, objects_of, with_links, changed_at}
use Rattle.rz_tree.specs.Trees.{tree_of, IsTree, IsKept}
use Rattle.rz_tree.proofs.Keys.{same_some, not_none, false-true, one-or-two, ties-itself, apart, get-inserted, get-beside}
use Rattle.rz_tree.proofs.Tables.{get-objects, objects-changed}
use Rattle.rz_tree.proofs.Counts.{count-insert, one_if-same, one_if-other}
use Rattle.rz_tree.proofs.Fronts.{above-append}
use Rattle.rz_tree.proofs.Rules.{dir-found, dir-is, from-map, get-changed}
use Rattle.rz_tree.proofs.Takes.{insert-same}

pub zero_plus : (n : ℕ) → 0 + n ≡ n
zero_plus n = omega arith

module _ (t : Tree) (rules : IsTree t) (to : Path) (fid : ℕ) (object : Object) (is : maps.get t.objects fid ≡ Some object) (free : is_dir object.kind ≡ true → paths_to t.names fid ≡ 0)
    (absent : maps.get t.names to ≡ None) (parent : is_at t (above to) is_dir ≡ true) where
  dir_stays : (q : Path) → is_at t q is_dir ≡ true → is_at (with_name t to fid) q is_dir ≡ true
  dir_stays q h =
      let d = dir-found t q h in
      dir-is (with_name t to fid) q (record {
        fid = d.fid;
        object = d.object;
        at = get-beside paths_total exact_paths t.names to fid q (apart paths_total exact_paths q to (λ same. not_none d.fid (sym d.at ∙ ap (maps.get t.names) same ∙ absent))) ∙ d.at;
        is = d.is;
        dir = d.dir;
      })

  leads_still : (q : Path) (f : ℕ) → maps.get (maps.insert t.names to fid) q ≡ Some f → is_some (maps.get t.objects f) ≡ true
  leads_still q f at = elim (one-or-two paths_total exact_paths q to) [
    | inl same ↦
        let own : fid ≡ f = same_some fid f (sym (ap (maps.get (maps.insert t.names to fid)) same ∙ get-inserted paths_total exact_paths t.names to fid) ∙ at) in
        ap (λ n. is_some (maps.get t.objects n)) (sym own) ∙ ap is_some is
    | inr other ↦ rules.leads q f (sym (get-beside paths_total exact_paths t.names to fid q other) ∙ at)
  ]

  under_still : (q : Path) (n : Name) → is_some (maps.get (maps.insert t.names to fid) (q ++ n ∷ [])) ≡ true → is_at (with_name t to fid) q is_dir ≡ true
  under_still q n there = elim (one-or-two paths_total exact_paths (q ++ n ∷ []) to) [
    | inl same ↦ dir_stays q (ap (λ x. is_at t x is_dir) (sym (ap above (sym same) ∙ above-append q n)) ∙ parent)
    | inr other ↦ dir_stays q (rules.under q n (ap is_some (sym (get-beside paths_total exact_paths t.names to fid (q ++ n ∷ []) other)) ∙ there))
  ]

  pub named-rules : IsTree (with_name t to fid)
  named-rules = record {
    root = dir_stays [] rules.root;
    leads = leads_still;
    under = under_still;
    single = λ f o at dir. elim (one-or-two nat_cmp_total nat_cmp-IsAntisymmetric f fid) [
      | inl same ↦
          let first : paths_to t.names fid ≡ 0 = free (ap (λ (x : Object). is_dir x.kind) (same_some object o (sym is ∙ ap (maps.get t.objects) (sym same) ∙ at)) ∙ dir) in
          let one : paths_to (maps.insert t.names to fid) f ≡ 1 + 0 =
          ap (paths_to (maps.insert t.names to fid)) same ∙ count-insert t.names to fid fid absent ∙ ap (λ n. n + paths_to t.names fid) (one_if-same fid) ∙ ap (λ n. 1 + n) first in
          omega (arith, one)
      | inr other ↦
          let as_before : paths_to (maps.insert t.names to fid) f ≡ paths_to t.names f =
          count-insert t.names to fid f absent
          ∙ ap (λ n. n + paths_to t.names f) (one_if-other fid f (λ same. false-true (sym other ∙ ap (λ n. eq_by_cmp nat_cmp n fid) (sym same) ∙ ties-itself nat_cmp_total nat_cmp-IsAntisymmetric fid)))
          ∙ zero_plus (paths_to t.names f) in
          subst (λ n. n ≤ 1) (sym as_before) (rules.single f o at dir)
    ];
    drawn = rules.drawn;
  }

module _ (names : FinMap path_cmp ℕ) (table : Table) (made : ℕ) (kept : IsKept names table made) (to : Path) (fid : ℕ) (i : Inode)
    (is : maps.get table fid ≡ Some i) (free : is_dir i.kind ≡ true → paths_to names fid ≡ 0)
    (absent : maps.get names to ≡ None) (parent : is_at (tree_of names table made) (above to) is_dir ≡ true) where
  abbrev next : Table
  next = changed_at table fid (with_links (i.links + 1))

  seen : maps.get (objects_of table) fid ≡ Some (object_of i)
  seen = get-objects table fid ∙ ap (option_map object_of) is

  same_objects : objects_of next ≡ objects_of table
  same_objects = objects-changed table fid (with_links (i.links + 1)) (λ o. o) (λ _. refl)
      ∙ ap (λ o. option_map_or (λ x. maps.insert (objects_of table) fid x) o (objects_of table)) seen ∙ insert-same (objects_of table) fid (object_of i) seen

  pub linked-tree : tree_of (maps.insert names to fid) next made ≡ with_name (tree_of names table made) to fid
  linked-tree = ap (λ os. (let t : Tree = record { names = maps.insert names to fid; objects = os; made = made } in t)) same_objects

  counted_still : (f : ℕ) (x : Inode) → maps.get next f ≡ Some x → x.links ≡ paths_to (maps.insert names to fid) f
  counted_still f x at =
      let old = from-map (λ (y : Inode). cond (eq_by_cmp nat_cmp f fid) (with_links (i.links + 1) y) y) (maps.get table f) x (sym (get-changed table fid (with_links (i.links + 1)) f) ∙ at) in
      ap (λ (y : Inode). y.links) (sym old.2) ∙ go old.0 old.1
    where
      go : (y : Inode) → maps.get table f ≡ Some y → (cond (eq_by_cmp nat_cmp f fid) (with_links (i.links + 1) y) y).links ≡ paths_to (maps.insert names to fid) f
      go y at_f = elim (one-or-two nat_cmp_total nat_cmp-IsAntisymmetric f fid) [
        | inl same ↦
            ap (λ b. (cond b (with_links (i.links + 1) y) y).links) (ap (λ n. eq_by_cmp nat_cmp n fid) same ∙ ties-itself nat_cmp_total nat_cmp-IsAntisymmetric fid)
            ∙ flip i.links (paths_to names fid) (kept.counted fid i is)
            ∙ sym (ap (paths_to (maps.insert names to fid)) same ∙ count-insert names to fid fid absent ∙ ap (λ n. n + paths_to names fid) (one_if-same fid))
        | inr other ↦
            ap (λ b. (cond b (with_links (i.links + 1) y) y).links) other ∙ kept.counted f y at_f
            ∙ sym (count-insert names to fid f absent
            ∙ ap (λ n. n + paths_to names f) (one_if-other fid f (λ same. false-true (sym other ∙ ap (λ n. eq_by_cmp nat_cmp n fid) (sym same) ∙ ties-itself nat_cmp_total nat_cmp-IsAntisymmetric fid)))
            ∙ zero_plus (paths_to names f))
      ]
        where
          flip : (a b : ℕ) → a ≡ b → a + 1 ≡ 1 + b
          flip a b h = omega arith

  pub linked-kept : IsKept (maps.insert names to fid) next made
  linked-kept = record {
    tree = subst IsTree (sym linked-tree) (named-rules (tree_of names table made) kept.tree to fid (object_of i) seen free absent parent);
    counted = counted_still;
  }
