-- The projections at all positions, one after the other.
use Rattle.std.proofs.Common.{rules, ◌≡◌, ℕ, ℤ, zero, suc, ◌+◌, ◌<◌, ◌≤◌, ap, refl, ◌∙◌, arith, add-one, inl, inr, List, length, get_or}
use Rattle.std.specs.Prelude.{slice_range}
use Rattle.std.proofs.lemmas.List.{places}
use Rattle.std.proofs.lemmas.Bool.{cases_lt}
use Rattle.mj_angles.specs.declared.layout.Layout.{Layout}
use Rattle.mj_angles.specs.Layout.{bins_at_of}
use Rattle.mj_angles.specs.Projection.{bin, bins, projection}
use Rattle.mj_angles.proofs.Projections.{projection-from_bins}
use Rattle.mj_forward.specs.Forward.{start_of}

pub start-more : (y : Layout) (j : ℕ) → start_of y (j + 1) ≡ start_of y j + bins_at_of y j
start-more y j = rw (add-one j) refl

pub starts-rise : (y : Layout) (i j : ℕ) → i < j → start_of y i + bins_at_of y i ≤ start_of y j
starts-rise y i zero h = absurd (omega arith)
starts-rise y i (suc j) h = elim (cases_lt i j) as (λ _. start_of y i + bins_at_of y i ≤ start_of y (suc j)) [
  | inl before ↦ (let r = starts-rise y i j before in omega (arith, r))
  | inr from ↦ (let e : i ≡ j = omega arith in let f = ap (λ i. start_of y i + bins_at_of y i) e in omega (arith, f))
]

-- the bins of one projection among those of others
pub part_is : (f : ℕ → ℕ → ℕ) (rows cols : ℕ) (p : ℤ) (xs : List ℕ) (s n : ℕ) → n ≡ bins p rows cols → s + n ≤ length xs → ((b : ℕ) → b < n → get_or xs (s + b) 0 ≡ bin f rows cols p b) →
    slice_range xs s (s + n) ≡ projection f rows cols p
part_is f rows cols p xs s n is room same =
    let long : length (slice_range xs s (s + n)) ≡ n = search (rules, places) in
    projection-from_bins f rows cols p (slice_range xs s (s + n)) (long ∙ is) (λ b small.
    let few : b < n = omega arith in
    let at : get_or (slice_range xs s (s + n)) b 0 ≡ get_or xs (s + b) 0 = search (rules, places) in
    at ∙ same b few)
