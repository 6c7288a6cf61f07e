-- A message goes to the node at a place.
use Rattle.std.proofs.Common.{◌≡◌, ℕ, ◌<◌, List, length, get_or, Some, refl, sym, subst}
use Rattle.std.specs.Prelude.{slice_get}
use Rattle.std.proofs.lemmas.Option.{slice_get_read}
use Rattle.mj_angles.specs.declared.layout.Layout.{Layout}
use Rattle.rz_nodes.specs.declared.formatting.Server.{Server}
use Rattle.rz_driver_actors.specs.Acts.{HasLayouts}
use Rattle.rz_driver_nodes.specs.Servers.{IsServerAt}
use Rattle.rz_driver_nodes.proofs.Rows.{all-at, at-within}

module _ {D : Type 0} where
  -- a reference to the place is to the node there
  pub read-at : (xs ys : List (Server D)) (n i : ℕ) (s : Server D) → ys ≡ xs → IsServerAt ys n i → s ≡ get_or xs i s → (IsServerAt xs n i) × (slice_get xs i ≡ Some s)
  read-at xs ys n i s same at is =
      let here : IsServerAt xs n i = subst (λ (zs : List (Server D)). IsServerAt zs n i) same at in
      (here, slice_get_read xs (length xs) i s refl (at-within xs n i here) is)

  pub within-len : (xs ys : List (Server D)) (n i len : ℕ) → ys ≡ xs → IsServerAt ys n i → len ≡ length xs → i < len
  within-len xs ys n i len same at is = subst (λ (m : ℕ). i < m) (sym is) (at-within xs n i (subst (λ (zs : List (Server D)). IsServerAt zs n i) same at))

  pub layout-at : (layout : Layout) (xs : List (Server D)) (i : ℕ) (s : Server D) → HasLayouts layout xs → slice_get xs i ≡ Some s → s.node.geometry.layout ≡ layout
  layout-at layout xs i s all is = all-at (λ (x : Server D). x.node.geometry.layout ≡ layout) xs i s all is
