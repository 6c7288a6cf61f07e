-- A tree in which an object is made.
use Rattle.std.proofs.Common.{◌≡◌, ℕ, ◌+◌, ◌≤◌, Bool, true, false, [], ◌∷◌, ◌++◌, Option, Some, None, is_some, sym, ap, ◌∙◌, subst, refl, arith, inl, inr}
use Rattle.std.specs.Option.{option_or, option_map, option_and_then}
use Rattle.std.specs.Ordering.{nat_cmp, eq_by_cmp}
use Rattle.std.specs.Cmp.{nat_cmp_total}
use Rattle.std.specs.FinMap as maps
use Rattle.std.specs.FinMap.{FinMap, same_map, nat_cmp-IsAntisymmetric}
use Rattle.rz_events.specs.declared.tree.TreeFault.TheVariants as fault
use Rattle.rz_export_model.specs.Firsts.{given_if, first_of}
use Rattle.rz_export_model.specs.Paths.{Name, Path, path_cmp, paths_total, exact_paths, above, is_root}
use Rattle.rz_export_model.specs.Tree.{Tree, Found, found_at, is_at, is_dir, paths_to}
use Rattle.rz_export_model.specs.Refusals.{can_not_make, walk, present, too_many_files}
use Rattle.rz_export_model.specs.TreeCalls.{with_new}
use Rattle.rz_tree.specs.declared.inodes.Inode.{Inode}
use Rattle.rz_tree.specs.Inodes.{Table, object_of, objects_of}
use Rattle.rz_tree.specs.Trees.{tree_of, IsTree, IsKept}
use Rattle.rz_tree.proofs.Keys.{same_some, not_none, false-true, held, none-or-some, one-or-two, ties-itself, apart, get-inserted, get-beside, get-removed, get-left}
use Rattle.rz_tree.proofs.Tables.{get-objects, objects-insert}
use Rattle.rz_tree.proofs.Counts.{count-insert, no-path, one_if-same, one_if-other}
use Rattle.rz_tree.proofs.Fronts.{split-above, above-append, walked-above}
use Rattle.rz_tree.proofs.Rules.{dir-found, dir-is}

pub or_none : {A : Type 0} (o p : Option A) → option_or o p ≡ None → (o ≡ None) × (p ≡ None)
or_none None p h = (refl, h)
or_none (Some x) p h = absurd (not_none x h)

pub given-false : {A : Type 0} (b : Bool) (x : A) → given_if b x ≡ None → b ≡ false
given-false true x h = absurd (not_none x h)
given-false false x h = refl

pub none-from-is : {A : Type 0} (o : Option A) → is_some o ≡ false → o ≡ None
none-from-is None h = refl
none-from-is (Some x) h = absurd (false-true (sym h))

module _ (t : Tree) (rules : IsTree t) where
  -- where no object is found, there is no path
  pub absent-name : (path : Path) → found_at t path ≡ None → maps.get t.names path ≡ None
  absent-name path none = go (maps.get t.names path) refl none
    where
      go : (f : Option ℕ) → maps.get t.names path ≡ f → option_and_then (λ fid. option_map (λ o. (let x : Found = record { fid = fid; object = o } in x)) (maps.get t.objects fid)) f ≡ None → f ≡ None
      go None at h = refl
      go (Some fid) at h =
          let there = held (maps.get t.objects fid) (rules.leads path fid at) in
          let is : option_map (λ o. (let x : Found = record { fid = fid; object = o } in x)) (maps.get t.objects fid) ≡ Some (record { fid = fid; object = there.0 }) =
          ap (option_map (λ o. (let x : Found = record { fid = fid; object = o } in x))) there.1 in
          let seen : Found = record { fid = fid; object = there.0 } in
          absurd (not_none seen (sym is ∙ h))

  -- where the walk to a path finds no fault, it stands under a directory
  pub above-dir : (path : Path) → is_root path ≡ false → walk t path ≡ None → is_at t (above path) is_dir ≡ true
  above-dir path other walked =
      let parts = split-above path other in
      go (above path) refl (parts.0) (sym (ap (walk t) parts.1) ∙ walked)
    where
      go : (q : Path) → above path ≡ q → (n : Name) → walk t (above path ++ n ∷ []) ≡ None → is_at t (above path) is_dir ≡ true
      go [] is n h = ap (λ x. is_at t x is_dir) is ∙ rules.root
      go (m ∷ q) is n h = walked-above t (above path) n h (ap is_root is)

  pub above-there : (path : Path) → is_root path ≡ false → walk t path ≡ None → is_some (maps.get t.names (above path)) ≡ true
  above-there path other walked = let d = dir-found t (above path) (above-dir path other walked) in ap is_some d.at

module _ (t : Tree) (path : Path) (free : first_of (can_not_make t path) ≡ None) where
  after_root : (given_if (is_root path) fault.Exists ≡ None) × (first_of (walk t path ∷ present t path ∷ too_many_files t ∷ []) ≡ None)
  after_root = or_none (given_if (is_root path) fault.Exists) (first_of (walk t path ∷ present t path ∷ too_many_files t ∷ [])) free

  after_walk : (walk t path ≡ None) × (first_of (present t path ∷ too_many_files t ∷ []) ≡ None)
  after_walk = or_none (walk t path) (first_of (present t path ∷ too_many_files t ∷ [])) after_root.1

  pub after_present : (present t path ≡ None) × (first_of (too_many_files t ∷ []) ≡ None)
  after_present = or_none (present t path) (first_of (too_many_files t ∷ [])) after_walk.1

  pub free-root : is_root path ≡ false
  free-root = given-false (is_root path) fault.Exists after_root.0

  pub free-walk : walk t path ≡ None
  free-walk = after_walk.0

  pub free-found : found_at t path ≡ None
  free-found = none-from-is (found_at t path) (given-false (is_some (found_at t path)) fault.Exists after_present.0)

module _ (names : FinMap path_cmp ℕ) (table : Table) (made : ℕ) (kept : IsKept names table made) where
  -- the next number has no object
  pub next-new : maps.get table (made + 1) ≡ None
  next-new = elim (none-or-some (maps.get table (made + 1))) [
    | inl none ↦ none
    | inr some ↦ let low : made + 1 ≤ made = kept.tree.drawn (made + 1) (ap is_some (get-objects table (made + 1) ∙ ap (option_map object_of) some.1)) in absurd (omega arith)
  ]

  next-unled : (q : Path) → maps.get names q ≡ Some (made + 1) → ⊥
  next-unled q at =
      let low : made + 1 ≤ made = kept.tree.drawn (made + 1) (kept.tree.leads q (made + 1) at) in absurd (omega arith)

  number-apart : (fid : ℕ) → is_some (maps.get (objects_of table) fid) ≡ true → eq_by_cmp nat_cmp fid (made + 1) ≡ false
  number-apart fid there = apart nat_cmp_total nat_cmp-IsAntisymmetric fid (made + 1) (λ same. let low : fid ≤ made = kept.tree.drawn fid there in absurd (omega arith))

  module _ (path : Path) (i : Inode) (free : first_of (can_not_make (tree_of names table made) path) ≡ None) (one : i.links ≡ 1) where
    absent : maps.get names path ≡ None
    absent = absent-name (tree_of names table made) kept.tree path (free-found (tree_of names table made) path free)

    old_object : (fid : ℕ) → eq_by_cmp nat_cmp fid (made + 1) ≡ false → maps.get (objects_of (maps.insert table (made + 1) i)) fid ≡ maps.get (objects_of table) fid
    old_object fid other =
        get-objects (maps.insert table (made + 1) i) fid ∙ ap (option_map object_of) (get-beside nat_cmp_total nat_cmp-IsAntisymmetric table (made + 1) i fid other) ∙ sym (get-objects table fid)

    new_object : maps.get (objects_of (maps.insert table (made + 1) i)) (made + 1) ≡ Some (object_of i)
    new_object = get-objects (maps.insert table (made + 1) i) (made + 1) ∙ ap (option_map object_of) (get-inserted nat_cmp_total nat_cmp-IsAntisymmetric table (made + 1) i)

    dir_stays : (q : Path) → is_at (tree_of names table made) q is_dir ≡ true
        → is_at (tree_of (maps.insert names path (made + 1)) (maps.insert table (made + 1) i) (made + 1)) q is_dir ≡ true
    dir_stays q h =
        let d = dir-found (tree_of names table made) q h in
        let other : eq_by_cmp path_cmp q path ≡ false = apart paths_total exact_paths q path (λ same. not_none d.fid (sym d.at ∙ ap (maps.get names) same ∙ absent)) in
        dir-is (tree_of (maps.insert names path (made + 1)) (maps.insert table (made + 1) i) (made + 1)) q (record {
          fid = d.fid;
          object = d.object;
          at = get-beside paths_total exact_paths names path (made + 1) q other ∙ d.at;
          is = old_object d.fid (number-apart d.fid (ap is_some d.is)) ∙ d.is;
          dir = d.dir;
        })

    count_new : paths_to (maps.insert names path (made + 1)) (made + 1) ≡ 1
    count_new = count-insert names path (made + 1) (made + 1) absent ∙ ap (λ n. n + paths_to names (made + 1)) (one_if-same (made + 1))
        ∙ ap (λ n. 1 + n) (no-path names (made + 1) next-unled)

    count_old : (fid : ℕ) → eq_by_cmp nat_cmp fid (made + 1) ≡ false → paths_to (maps.insert names path (made + 1)) fid ≡ paths_to names fid
    count_old fid other = count-insert names path (made + 1) fid absent
        ∙ ap (λ n. n + paths_to names fid) (one_if-other (made + 1) fid (λ same. false-true (sym other ∙ ap (λ n. eq_by_cmp nat_cmp n (made + 1)) (sym same) ∙ ties-itself nat_cmp_total nat_cmp-IsAntisymmetric (made + 1))))
        ∙ zero_plus (paths_to names fid)
      where
        zero_plus : (n : ℕ) → 0 + n ≡ n
        zero_plus n = omega arith

    leads_still : (q : Path) (fid : ℕ) → maps.get (maps.insert names path (made + 1)) q ≡ Some fid → is_some (maps.get (objects_of (maps.insert table (made + 1) i)) fid) ≡ true
    leads_still q fid at = elim (one-or-two paths_total exact_paths q path) [
      | inl same ↦
          let is : made + 1 ≡ fid = same_some (made + 1) fid (sym (ap (maps.get (maps.insert names path (made + 1))) same ∙ get-inserted paths_total exact_paths names path (made + 1)) ∙ at) in
          ap (λ n. is_some (maps.get (objects_of (maps.insert table (made + 1) i)) n)) (sym is) ∙ ap is_some new_object
      | inr other ↦
          let there = kept.tree.leads q fid (sym (get-beside paths_total exact_paths names path (made + 1) q other) ∙ at) in
          ap is_some (old_object fid (number-apart fid there)) ∙ there
    ]

    under_still : (q : Path) (n : Name) → is_some (maps.get (maps.insert names path (made + 1)) (q ++ n ∷ [])) ≡ true
        → is_at (tree_of (maps.insert names path (made + 1)) (maps.insert table (made + 1) i) (made + 1)) q is_dir ≡ true
    under_still q n there = elim (one-or-two paths_total exact_paths (q ++ n ∷ []) path) [
      | inl same ↦
          let up : above path ≡ q = ap above (sym same) ∙ above-append q n in
          dir_stays q (ap (λ x. is_at (tree_of names table made) x is_dir) (sym up)
          ∙ above-dir (tree_of names table made) kept.tree path (free-root (tree_of names table made) path free) (free-walk (tree_of names table made) path free))
      | inr other ↦ dir_stays q (kept.tree.under q n (ap is_some (sym (get-beside paths_total exact_paths names path (made + 1) (q ++ n ∷ []) other)) ∙ there))
    ]

    pub added-kept : IsKept (maps.insert names path (made + 1)) (maps.insert table (made + 1) i) (made + 1)
    added-kept = record {
      tree = record {
        root = dir_stays [] kept.tree.root;
        leads = leads_still;
        under = under_still;
        single = λ fid o at dir. elim (one-or-two nat_cmp_total nat_cmp-IsAntisymmetric fid (made + 1)) [
          | inl same ↦ let one : paths_to (maps.insert names path (made + 1)) fid ≡ 1 = ap (paths_to (maps.insert names path (made + 1))) same ∙ count_new in omega (arith, one)
          | inr other ↦ subst (λ n. n ≤ 1) (sym (count_old fid other)) (kept.tree.single fid o (sym (old_object fid other) ∙ at) dir)
        ];
        drawn = λ fid there. elim (one-or-two nat_cmp_total nat_cmp-IsAntisymmetric fid (made + 1)) [
          | inl same ↦ omega arith
          | inr other ↦ let low : fid ≤ made = kept.tree.drawn fid (sym (ap is_some (old_object fid other)) ∙ there) in omega arith
        ];
      };
      counted = λ fid x at. elim (one-or-two nat_cmp_total nat_cmp-IsAntisymmetric fid (made + 1)) [
        | inl same ↦
            let is : i ≡ x = same_some i x (sym (get-inserted nat_cmp_total nat_cmp-IsAntisymmetric table (made + 1) i) ∙ ap (maps.get (maps.insert table (made + 1) i)) (sym same) ∙ at) in
            ap (λ (y : Inode). y.links) (sym is) ∙ one ∙ sym (ap (paths_to (maps.insert names path (made + 1))) same ∙ count_new)
        | inr other ↦ kept.counted fid x (sym (get-beside nat_cmp_total nat_cmp-IsAntisymmetric table (made + 1) i fid other) ∙ at) ∙ sym (count_old fid other)
      ];
    }

    pub added-tree : tree_of (maps.insert names path (made + 1)) (maps.insert table (made + 1) i) (made + 1) ≡ with_new (tree_of names table made) path (object_of i)
    added-tree = ap (λ os. (let t : Tree = record { names = maps.insert names path (made + 1); objects = os; made = made + 1 } in t)) (objects-insert table (made + 1) i)

-- what is added and taken away again
pub undone : (m : Table) (k : ℕ) (v : Inode) → maps.get m k ≡ None → maps.remove (maps.insert m k v) k ≡ m
undone m k v none = same_map nat_cmp_total nat_cmp-IsAntisymmetric _ _ (λ q. elim (one-or-two nat_cmp_total nat_cmp-IsAntisymmetric q k) [
  | inl same ↦ ap (maps.get (maps.remove (maps.insert m k v) k)) same ∙ get-removed nat_cmp_total nat_cmp-IsAntisymmetric (maps.insert m k v) k ∙ sym (ap (maps.get m) same ∙ none)
  | inr other ↦ get-left nat_cmp_total nat_cmp-IsAntisymmetric (maps.insert m k v) k q other ∙ get-beside nat_cmp_total nat_cmp-IsAntisymmetric m k v q other
])
