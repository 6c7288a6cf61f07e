-- Two sides are what stands on each.
use Rattle.std.specs.Prelude.{◌≡◌, length, slice_index_or, List, [], ◌∷◌, Option, None, refl}
use Rattle.std.proofs.Common.{ap}
use Rattle.rz_versions.specs.declared.versions.Version.{Version}
use Rattle.rz_versions.specs.declared.versions.Versions.TheInside.{Inside}

both : (xs : List (Option Version)) → length xs ≡ 2 → slice_index_or xs 0 None ∷ slice_index_or xs 1 None ∷ [] ≡ xs
both (a ∷ b ∷ []) h = refl
both [] h = cc
both (a ∷ []) h = cc
both (a ∷ b ∷ c ∷ more) h = cc

pub two_sides : (a : Inside) → length a.sides ≡ 2 → (let b : Inside = record { sides = slice_index_or a.sides 0 None ∷ slice_index_or a.sides 1 None ∷ [] } in b) ≡ a
two_sides a h = ap (λ (xs : List (Option Version)). (let b : Inside = record { sides = xs } in b)) (both a.sides h)
