-- A tree from which a path is taken.
use Rattle.std.proofs.Common.{◌≡◌, ℕ, ◌+◌, ◌-◌, ◌≤◌, Bool, true, false, cond, [], ◌∷◌, ◌++◌, Some, is_some, sym, ap, ◌∙◌, subst, refl, arith, eqb-true, eq-eqb, inl, inr}
use Rattle.std.specs.Prelude.{◌==◌}
use Rattle.std.specs.Option.{option_map, option_map_or}
use Rattle.std.specs.Ordering.{nat_cmp, eq_by_cmp}
use Rattle.std.specs.Cmp.{nat_cmp_total}
use Rattle.std.specs.FinMap as maps
use Rattle.std.specs.FinMap.{FinMap, same_map, nat_cmp-IsAntisymmetric}
use Rattle.rz_export_model.specs.Paths.{Name, Path, path_cmp, paths_total, exact_paths, is_root}
use Rattle.rz_export_model.specs.Tree.{Tree, Object, Found, found_at, is_at, is_dir, paths_to, names_under, links_of}
use Rattle.rz_export_model.specs.TreeCalls.{without_name}
use Rattle.rz_tree.specs.declared.inodes.Inode.{Inode}
use Rattle.rz_tree.specs.Inodes.{Table, object_of, found_of, objects_of, with_links, released}
use Rattle.rz_tree.specs.Trees.{tree_of, IsKept}
use Rattle.rz_tree.proofs.Keys.{same_some, not_none, false-true, one-or-two, ties-itself, apart, get-inserted, get-beside, get-removed, get-left}
use Rattle.rz_tree.proofs.Tables.{get-objects, objects-insert, objects-remove}
use Rattle.rz_tree.proofs.Counts.{count-remove, two-paths, some-path, one_if-same, one_if-other}
use Rattle.rz_tree.proofs.Found.{found-kept, links-kept}
use Rattle.rz_tree.proofs.Rules.{dir-found, dir-is}
use Rattle.rz_tree.proofs.Names.{under-clear}

-- to insert what is there changes nothing
pub insert-same : {X : Type 0} (m : FinMap nat_cmp X) (k : ℕ) (v : X) → maps.get m k ≡ Some v → maps.insert m k v ≡ m
insert-same m k v is = same_map nat_cmp_total nat_cmp-IsAntisymmetric _ _ (λ q. elim (one-or-two nat_cmp_total nat_cmp-IsAntisymmetric q k) [
  | inl same ↦ ap (maps.get (maps.insert m k v)) same ∙ get-inserted nat_cmp_total nat_cmp-IsAntisymmetric m k v ∙ sym (ap (maps.get m) same ∙ is)
  | inr other ↦ get-beside nat_cmp_total nat_cmp-IsAntisymmetric m k v q other
])

module _ (names : FinMap path_cmp ℕ) (table : Table) (made : ℕ) (kept : IsKept names table made) (path : Path) (fid : ℕ) (i : Inode)
    (at : maps.get names path ≡ Some fid) (is : maps.get table fid ≡ Some i) (other : is_root path ≡ false) (last : names_under names path ≡ []) where
  abbrev next : Bool → Table
  next b = cond b (maps.remove table fid) (maps.insert table fid (with_links (i.links - 1) i))

  count : i.links ≡ paths_to names fid
  count = kept.counted fid i is

  object_beside : (b : Bool) (f : ℕ) → eq_by_cmp nat_cmp f fid ≡ false → maps.get (cond b (maps.remove table fid) (maps.insert table fid (with_links (i.links - 1) i))) f ≡ maps.get table f
  object_beside true f apart_f = get-left nat_cmp_total nat_cmp-IsAntisymmetric table fid f apart_f
  object_beside false f apart_f = get-beside nat_cmp_total nat_cmp-IsAntisymmetric table fid (with_links (i.links - 1) i) f apart_f

  seen_beside : (b : Bool) (f : ℕ) → eq_by_cmp nat_cmp f fid ≡ false → maps.get (objects_of (next b)) f ≡ maps.get (objects_of table) f
  seen_beside b f apart_f = get-objects (next b) f ∙ ap (option_map object_of) (object_beside b f apart_f) ∙ sym (get-objects table f)

  -- more than one path leads to an object that stays
  seen_there : (b : Bool) → (i.links == 1) ≡ b → 2 ≤ paths_to names fid → maps.get (objects_of (next b)) fid ≡ Some (object_of i)
  seen_there true h more = let one : i.links ≡ 1 = eqb-true i.links 1 h in absurd (omega (arith, count))
  seen_there false h more =
      get-objects (next false) fid ∙ ap (option_map object_of) (get-inserted nat_cmp_total nat_cmp-IsAntisymmetric table fid (with_links (i.links - 1) i))

  seen_before : maps.get (objects_of table) fid ≡ Some (object_of i)
  seen_before = get-objects table fid ∙ ap (option_map object_of) is

  -- no directory has two paths
  single_dir : (q : Path) (f : ℕ) (o : Object) → maps.get names q ≡ Some f → maps.get (objects_of table) f ≡ Some o → is_dir o.kind ≡ true → eq_by_cmp path_cmp q path ≡ false → f ≡ fid → ⊥
  single_dir q f o at_q is_q dir apart_q same =
      let one : paths_to names f ≤ 1 = kept.tree.single f o is_q dir in
      let two : 2 ≤ paths_to names fid = two-paths names path q fid at (at_q ∙ ap Some same) apart_q in
      let one_fid : paths_to names fid ≤ 1 = subst (λ n. paths_to names n ≤ 1) same one in
      omega (arith, two, one_fid)

  dir_left : (b : Bool) (q : Path) → eq_by_cmp path_cmp q path ≡ false → is_at (tree_of names table made) q is_dir ≡ true → is_at (tree_of (maps.remove names path) (next b) made) q is_dir ≡ true
  dir_left b q apart_q h =
      let d = dir-found (tree_of names table made) q h in
      let apart_fid : eq_by_cmp nat_cmp d.fid fid ≡ false = apart nat_cmp_total nat_cmp-IsAntisymmetric d.fid fid (single_dir q d.fid d.object d.at d.is d.dir apart_q) in
      dir-is (tree_of (maps.remove names path) (next b) made) q (record {
        fid = d.fid;
        object = d.object;
        at = get-left paths_total exact_paths names path q apart_q ∙ d.at;
        is = seen_beside b d.fid apart_fid ∙ d.is;
        dir = d.dir;
      })

  -- a path that is left is another one, and was there
  left_name : (q : Path) (f : ℕ) → maps.get (maps.remove names path) q ≡ Some f → (eq_by_cmp path_cmp q path ≡ false) × (maps.get names q ≡ Some f)
  left_name q f there = elim (one-or-two paths_total exact_paths q path) [
    | inl same ↦ absurd (not_none f (sym there ∙ ap (maps.get (maps.remove names path)) same ∙ get-removed paths_total exact_paths names path))
    | inr apart_q ↦ (apart_q, sym (get-left paths_total exact_paths names path q apart_q) ∙ there)
  ]

  leads_left : (b : Bool) → (i.links == 1) ≡ b → (q : Path) (f : ℕ) → maps.get (maps.remove names path) q ≡ Some f → is_some (maps.get (objects_of (next b)) f) ≡ true
  leads_left b h q f there =
      let old = left_name q f there in
      elim (one-or-two nat_cmp_total nat_cmp-IsAntisymmetric f fid) [
        | inl same ↦ ap (λ n. is_some (maps.get (objects_of (next b)) n)) same ∙ ap is_some (seen_there b h (two-paths names path q fid at (old.1 ∙ ap Some same) old.0))
        | inr apart_f ↦ ap is_some (seen_beside b f apart_f) ∙ kept.tree.leads q f old.1
      ]

  under_left : (b : Bool) (q : Path) (n : Name) → is_some (maps.get (maps.remove names path) (q ++ n ∷ [])) ≡ true → is_at (tree_of (maps.remove names path) (next b) made) q is_dir ≡ true
  under_left b q n there = elim (one-or-two paths_total exact_paths (q ++ n ∷ []) path) [
    | inl same ↦ absurd (false-true (sym (ap is_some (ap (maps.get (maps.remove names path)) same ∙ get-removed paths_total exact_paths names path)) ∙ there))
    | inr apart_more ↦
        let old : is_some (maps.get names (q ++ n ∷ [])) ≡ true = ap is_some (sym (get-left paths_total exact_paths names path (q ++ n ∷ []) apart_more)) ∙ there in
        dir_left b q (apart paths_total exact_paths q path (λ same. false-true (sym (ap is_some (ap (λ x. maps.get names (x ++ n ∷ [])) same ∙ under-clear names path last n)) ∙ old))) (kept.tree.under q n old)
  ]

  root_left : (b : Bool) → is_at (tree_of (maps.remove names path) (next b) made) [] is_dir ≡ true
  root_left b = dir_left b [] (apart paths_total exact_paths [] path (λ same. false-true (sym other ∙ ap is_root (sym same)))) kept.tree.root

  zero_plus : (n : ℕ) → 0 + n ≡ n
  zero_plus n = omega arith

  count_beside : (f : ℕ) → eq_by_cmp nat_cmp f fid ≡ false → paths_to (maps.remove names path) f ≡ paths_to names f
  count_beside f apart_f = sym (count-remove names path fid f at
      ∙ ap (λ n. n + paths_to (maps.remove names path) f) (one_if-other fid f (λ same. false-true (sym apart_f ∙ ap (λ n. eq_by_cmp nat_cmp n fid) (sym same) ∙ ties-itself nat_cmp_total nat_cmp-IsAntisymmetric fid)))
      ∙ zero_plus (paths_to (maps.remove names path) f))

  count_less : paths_to names fid ≡ 1 + paths_to (maps.remove names path) fid
  count_less = count-remove names path fid fid at ∙ ap (λ n. n + paths_to (maps.remove names path) fid) (one_if-same fid)

  single_left : (b : Bool) → (i.links == 1) ≡ b → (f : ℕ) (o : Object) → maps.get (objects_of (next b)) f ≡ Some o → is_dir o.kind ≡ true → paths_to (maps.remove names path) f ≤ 1
  single_left b h f o there dir = elim (one-or-two nat_cmp_total nat_cmp-IsAntisymmetric f fid) [
    | inl same ↦ same_single b h (sym (ap (maps.get (objects_of (next b))) same) ∙ there)
    | inr apart_f ↦ subst (λ n. n ≤ 1) (sym (count_beside f apart_f)) (kept.tree.single f o (sym (seen_beside b f apart_f) ∙ there) dir)
  ]
    where
      same_single : (b : Bool) → (i.links == 1) ≡ b → maps.get (objects_of (next b)) fid ≡ Some o → paths_to (maps.remove names path) f ≤ 1
      same_single true h gone = absurd (not_none o (sym gone ∙ get-objects (maps.remove table fid) fid ∙ ap (option_map object_of) (get-removed nat_cmp_total nat_cmp-IsAntisymmetric table fid)))
      same_single false h there =
          let seen : object_of i ≡ o = same_some (object_of i) o (sym (get-objects (next false) fid ∙ ap (option_map object_of) (get-inserted nat_cmp_total nat_cmp-IsAntisymmetric table fid (with_links (i.links - 1) i))) ∙ there) in
          let most : paths_to names fid ≤ 1 = kept.tree.single fid (object_of i) seen_before (ap (λ (x : Object). is_dir x.kind) seen ∙ dir) in
          let some : 1 ≤ paths_to names fid = some-path names path fid at in
          let one : paths_to names fid ≡ 1 = omega (arith, most, some) in
          absurd (false-true (sym h ∙ eq-eqb i.links 1 (count ∙ one)))

  drawn_left : (b : Bool) (f : ℕ) → is_some (maps.get (objects_of (next b)) f) ≡ true → f ≤ made
  drawn_left b f there = elim (one-or-two nat_cmp_total nat_cmp-IsAntisymmetric f fid) [
    | inl same ↦ kept.tree.drawn f (ap (λ n. is_some (maps.get (objects_of table) n)) same ∙ ap is_some seen_before)
    | inr apart_f ↦ kept.tree.drawn f (sym (ap is_some (seen_beside b f apart_f)) ∙ there)
  ]

  counted_left : (b : Bool) → (i.links == 1) ≡ b → (f : ℕ) (x : Inode) → maps.get (next b) f ≡ Some x → x.links ≡ paths_to (maps.remove names path) f
  counted_left b h f x there = elim (one-or-two nat_cmp_total nat_cmp-IsAntisymmetric f fid) [
    | inl same ↦ same_count b (sym (ap (maps.get (next b)) same) ∙ there) ∙ ap (paths_to (maps.remove names path)) (sym same)
    | inr apart_f ↦ kept.counted f x (sym (object_beside b f apart_f) ∙ there) ∙ sym (count_beside f apart_f)
  ]
    where
      same_count : (b : Bool) → maps.get (next b) fid ≡ Some x → x.links ≡ paths_to (maps.remove names path) fid
      same_count true gone = absurd (not_none x (sym gone ∙ get-removed nat_cmp_total nat_cmp-IsAntisymmetric table fid))
      same_count false there =
          let seen : with_links (i.links - 1) i ≡ x = same_some (with_links (i.links - 1) i) x (sym (get-inserted nat_cmp_total nat_cmp-IsAntisymmetric table fid (with_links (i.links - 1) i)) ∙ there) in
          ap (λ (y : Inode). y.links) (sym seen) ∙ less
        where
          less : i.links - 1 ≡ paths_to (maps.remove names path) fid
          less = omega (arith, count, count_less)

  kept_left : (b : Bool) → (i.links == 1) ≡ b → IsKept (maps.remove names path) (next b) made
  kept_left b h = record {
    tree = record { root = root_left b; leads = leads_left b h; under = under_left b; single = single_left b h; drawn = drawn_left b };
    counted = counted_left b h;
  }

  release-is : released table fid ≡ next (i.links == 1)
  release-is = ap (λ o. option_map_or (λ x. cond (x.links == 1) (maps.remove table fid) (maps.insert table fid (with_links (x.links - 1) x))) o table) is

  pub taken-kept : IsKept (maps.remove names path) (released table fid) made
  taken-kept = subst (λ m. IsKept (maps.remove names path) m made) (sym release-is) (kept_left (i.links == 1) refl)

  -- another directory stays
  pub taken-dir : (q : Path) → eq_by_cmp path_cmp q path ≡ false → is_at (tree_of names table made) q is_dir ≡ true → is_at (tree_of (maps.remove names path) (released table fid) made) q is_dir ≡ true
  taken-dir q apart_q h = ap (λ m. is_at (tree_of (maps.remove names path) m made) q is_dir) release-is ∙ dir_left (i.links == 1) q apart_q h

  objects_left : (b : Bool) → objects_of (next b) ≡ cond b (maps.remove (objects_of table) fid) (objects_of table)
  objects_left true = objects-remove table fid
  objects_left false = objects-insert table fid (with_links (i.links - 1) i) ∙ insert-same (objects_of table) fid (object_of i) seen_before

  pub taken-tree : tree_of (maps.remove names path) (released table fid) made ≡ without_name (tree_of names table made) path
  taken-tree =
      let t : Tree = tree_of names table made in
      let found : found_at t path ≡ Some (found_of fid i) = sym (found-kept names table made path fid (Some i) (sym at) (sym is)) in
      let links : i.links ≡ links_of t (found_of fid i) = links-kept names table made path fid i at is kept in
      let with_objects : FinMap nat_cmp Object → Tree = λ os. record { names = maps.remove names path; objects = os; made = made } in
      ap (λ m. with_objects (objects_of m)) release-is ∙ ap with_objects (objects_left (i.links == 1))
      ∙ ap (λ n. with_objects (cond (n == 1) (maps.remove (objects_of table) fid) (objects_of table))) links
      ∙ sym (ap (λ o. option_map_or (λ (f : Found). (let s : Tree = record t { names = maps.remove t.names path; objects = cond (links_of t f == 1) (maps.remove t.objects f.fid) t.objects } in s)) o t) found)
