-- What it says of a tree that a call is not refused: what is there, and the room for one name more.
use Rattle.std.proofs.Common.{◌≡◌, ℕ, ◌<◌, false, [], ◌∷◌, Some, None, sym, ap, ◌∙◌, refl, arith}
use Rattle.std.specs.Prelude.{nat_le, is_none}
use Rattle.std.proofs.lemmas.Bool.Decides.{nat_tests}
use Rattle.std.specs.Option.{option_map, option_map_or, option_and_then}
use Rattle.std.specs.FinMap as maps
use Rattle.rz_events.specs.declared.tree.TreeFault.TheVariants as fault
use Rattle.rz_export_model.specs.Firsts.{first_of, given_if}
use Rattle.rz_export_model.specs.Paths.{Path}
use Rattle.rz_export_model.specs.Tree.{Tree, Object, Found, found_at, is_at, is_dir, paths_to}
use Rattle.rz_export_model.specs.Refusals.{walk, absent, present, dir, too_many_links}
use Rattle.rz_tree.specs.Trees.{IsTree}
use Rattle.rz_tree.proofs.Keys.{held}
use Rattle.rz_tree.proofs.Adds.{or_none, given-false}
use Rattle.rz_tree.proofs.Calls.{link-few, name_found}

-- ---- a new path of an object

module _ (t : Tree) (p q : Path) (free : first_of (walk t p ∷ absent t p ∷ dir t p ∷ walk t q ∷ present t q ∷ too_many_links t p ∷ []) ≡ None) where
  pub link-there : absent t p ≡ None
  link-there =
      let past_walk = (or_none (walk t p) (first_of (absent t p ∷ dir t p ∷ walk t q ∷ present t q ∷ too_many_links t p ∷ [])) free).1 in
      (or_none (absent t p) (first_of (dir t p ∷ walk t q ∷ present t q ∷ too_many_links t p ∷ [])) past_walk).0

  pub link-room : (fid : ℕ) → maps.get t.names p ≡ Some fid → paths_to t.names fid < 65535
  link-room fid at =
      let none : too_many_links t p ≡ None = link-few t p q free in
      let own : given_if (nat_le 65535 (paths_to t.names fid)) fault.TooManyLinks ≡ None =
      sym (ap (λ f. option_map_or (λ x. given_if (nat_le 65535 (paths_to t.names x)) fault.TooManyLinks) f None) at) ∙ none in
      below (paths_to t.names fid) (given-false (nat_le 65535 (paths_to t.names fid)) fault.TooManyLinks own)
    where
      below : (n : ℕ) → nat_le 65535 n ≡ false → n < 65535
      below n h = grind (arith, nat_tests)

-- what stands at a path that is not absent
pub stands : (t : Tree) → IsTree t → (p : Path) → absent t p ≡ None → (fid : ℕ) × (o : Object) × (maps.get t.names p ≡ Some fid) × (maps.get t.objects fid ≡ Some o)
stands t rules p h =
    let fid = held (maps.get t.names p) (name_found t p (maps.get t.names p) refl (given-false (is_none (found_at t p)) fault.NoEntry h)) in
    let o = held (maps.get t.objects fid.0) (rules.leads p fid.0 fid.1) in
    (fid.0, o.0, fid.1, o.1)

-- whether the object at a path is a directory
pub at-dir : (t : Tree) (path : Path) (fid : ℕ) (o : Object) → maps.get t.names path ≡ Some fid → maps.get t.objects fid ≡ Some o → is_at t path is_dir ≡ is_dir o.kind
at-dir t path fid o at is =
    ap (λ f. option_map_or is_dir (option_map (λ (x : Found). x.object.kind) (option_and_then (λ n. option_map (λ y. record { fid = n; object = y }) (maps.get t.objects n)) f)) false) at
    ∙ ap (λ y. option_map_or is_dir (option_map (λ (x : Found). x.object.kind) (option_map (λ z. record { fid = fid; object = z }) y)) false) is
