-- A path of a whole tree has no more names than the tree has objects.
use Rattle.std.proofs.Common.{◌≡◌, ℕ, ◌+◌, ◌≤◌, ◌<◌, true, false, cond, [], ◌∷◌, ◌++◌, length, Some, is_some, sym, ap, ◌∙◌, arith, inl, inr, append_assoc, length-append}
use Rattle.std.specs.Ordering.{nat_cmp, eq_by_cmp}
use Rattle.std.specs.Cmp.{nat_cmp_total}
use Rattle.std.specs.FinMap as maps
use Rattle.std.specs.FinMap.{FinMap, same_map, len-insert, nat_cmp-IsAntisymmetric}
use Rattle.rz_export_model.specs.Paths.{Path, path_cmp, paths_total, exact_paths}
use Rattle.rz_export_model.specs.Tree.{Tree, Object, paths_to}
use Rattle.rz_tree.proofs.Counts.{two-paths}
use Rattle.rz_export_laws.specs.WholeTree.{IsWholeTree}
use Rattle.rz_tree.proofs.Keys.{held, one-or-two, apart, get-inserted, get-beside, get-removed, get-left}
use Rattle.rz_tree.proofs.Rules.{DirAt, dir-found}
use Rattle.rz_tree.proofs.Names.{front-there}

-- without a key that was there a map is shorter by one
less-one : (m : FinMap nat_cmp Object) (k : ℕ) (o : Object) → maps.get m k ≡ Some o → maps.len m ≡ maps.len (maps.remove m k) + 1
less-one m k o is =
    let again : m ≡ maps.insert (maps.remove m k) k o = same_map nat_cmp_total nat_cmp-IsAntisymmetric _ _ (λ q. elim (one-or-two nat_cmp_total nat_cmp-IsAntisymmetric q k) [
      | inl same ↦ ap (maps.get m) same ∙ is ∙ sym (ap (maps.get (maps.insert (maps.remove m k) k o)) same ∙ get-inserted nat_cmp_total nat_cmp-IsAntisymmetric (maps.remove m k) k o)
      | inr other ↦ sym (get-beside nat_cmp_total nat_cmp-IsAntisymmetric (maps.remove m k) k o q other ∙ get-left nat_cmp_total nat_cmp-IsAntisymmetric m k q other)
    ]) in
    ap maps.len again ∙ len-insert nat_cmp_total (maps.remove m k) k o
    ∙ ap (λ b. cond b (maps.len (maps.remove m k)) (maps.len (maps.remove m k) + 1)) (ap is_some (get-removed nat_cmp_total nat_cmp-IsAntisymmetric m k))

module _ (t : Tree) (w : IsWholeTree t) where
  -- two paths of one directory are one
  apart-dirs : (p q : Path) (a : DirAt t p) (b : DirAt t q) → length p < length q → eq_by_cmp nat_cmp b.fid a.fid ≡ false
  apart-dirs p q a b shorter = apart nat_cmp_total nat_cmp-IsAntisymmetric b.fid a.fid (λ same.
      let other : eq_by_cmp path_cmp q p ≡ false = apart paths_total exact_paths q p (λ is. let long : length q ≡ length p = ap length is in omega (arith, shorter, long)) in
      let two : 2 ≤ paths_to t.names a.fid = two-paths t.names p q a.fid a.at (b.at ∙ ap Some same) other in
      let one : paths_to t.names a.fid ≤ 1 = w.rules.single a.fid a.object a.is a.dir in
      omega (arith, two, one))

  -- the names of `r` below `base` are no more than the objects of `m`, where it has each directory that is not above `base`
  below : (r base : Path) (m : FinMap nat_cmp Object) → ((q : Path) (d : DirAt t q) → length base ≤ length q → is_some (maps.get m d.fid) ≡ true)
      → is_some (maps.get t.names (base ++ r)) ≡ true → length r ≤ maps.len m
  below [] base m all there = omega arith
  below (n ∷ r) base m all there =
      let longer : (base ++ n ∷ []) ++ r ≡ base ++ n ∷ r = append_assoc base (n ∷ []) r in
      let whole : is_some (maps.get t.names ((base ++ n ∷ []) ++ r)) ≡ true = ap (λ q. is_some (maps.get t.names q)) longer ∙ there in
      let top = dir-found t base (w.rules.under base n (front-there t w.rules (base ++ n ∷ []) r whole)) in
      let o = held (maps.get m top.fid) (all base top (omega arith)) in
      let rest : length r ≤ maps.len (maps.remove m top.fid) =
      below r (base ++ n ∷ []) (maps.remove m top.fid) (λ q d deep.
      let more : length base < length q = omega (arith, deep, length-append base (n ∷ [])) in
      ap is_some (get-left nat_cmp_total nat_cmp-IsAntisymmetric m top.fid d.fid (apart-dirs base q top d more)) ∙ all q d (omega (arith, more))) whole in
      omega (arith, rest, less-one m top.fid o.0 o.1)

  pub depth : (p : Path) (fid : ℕ) → maps.get t.names p ≡ Some fid → length p ≤ maps.len t.objects
  depth p fid at = below p [] t.objects (λ q d deep. ap is_some d.is) (ap is_some at)
