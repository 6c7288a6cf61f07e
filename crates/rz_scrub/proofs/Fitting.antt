-- Which positions a block fits.
use Rattle.std.proofs.Common.{◌≡◌, ℕ, ◌+◌, ◌≤◌, Bool, true, false, not, ◌&&◌, List, Option, Some, None, length, refl, sym, arith, ap, ◌∙◌, inl, inr}
use Rattle.std.specs.Prelude.{count_by, is_some, nat_eq}
use Rattle.std.specs.Cmp.Lexicographic.{pointwise}
use Rattle.std.proofs.lemmas.Bool.{false≢true, and_parts, cases_Bool}
use Rattle.std.proofs.lemmas.List.Sums.{length-filter}
use Rattle.std.proofs.lemmas.Option.{same_Some}
use Rattle.std.proofs.lemmas.Slice.Eq.{bytes_eq-Decides}
use Rattle.mj_angles.specs.Layout.{inverse_of}
use Rattle.rz_words.specs.Grid.{Grid}
use Rattle.rz_scrub.specs.Records.{Records, positions, bins_at, has_bins, added}
use Rattle.rz_scrub.specs.Misfits.{IsWithinReach, are_same, are_other, projection_at, is_fit, is_misfit, misfits}
use Rattle.rz_scrub.proofs.Counting.{one, count-le, count-split}

-- bins that are there are the projection or are not
one-test : (b : Bool) → one true ≡ one b + one (not b)
one-test true = refl
one-test false = refl

one-bins : (xs : List ℕ) (o : Option (List ℕ)) → one (is_some o) ≡ one (are_same xs o) + one (are_other xs o)
one-bins xs None = refl
one-bins xs (Some bins) = one-test (pointwise nat_eq bins xs)

pub added-split : (s : Records) (g : Grid) → added s ≡ count_by (is_fit s g) (positions s) + length (misfits s g)
added-split s g =
    count-split (has_bins s) (is_fit s g) (is_misfit s g) (λ position. one-bins (projection_at s g position) (bins_at s position)) (positions s)
    ∙ ap (λ (n : ℕ). count_by (is_fit s g) (positions s) + n) (sym (length-filter (is_misfit s g) (positions s)))

-- a block within the reach fits as many positions as give it back
pub enough-fit : (s : Records) (g : Grid) → inverse_of s.layout ≤ added s → IsWithinReach s g → inverse_of s.layout ≤ count_by (is_fit s g) (positions s)
enough-fit s g enough within =
    let split = added-split s g in
    let few = within.few in
    omega (arith, split, few, enough)

-- bins that are there are one of two projections, or neither
abbrev pub both : Records → Grid → Grid → ℕ → Bool
both s g h position = is_fit s g position && is_fit s h position

two-tests : (a b : Bool) → one true ≤ one (a && b) + (one (not a) + one (not b))
two-tests true true = omega arith
two-tests true false = omega arith
two-tests false true = omega arith
two-tests false false = omega arith

two-bins : (xs ys : List ℕ) (o : Option (List ℕ)) → one (is_some o) ≤ one (are_same xs o && are_same ys o) + (one (are_other xs o) + one (are_other ys o))
two-bins xs ys None = omega arith
two-bins xs ys (Some bins) = two-tests (pointwise nat_eq bins xs) (pointwise nat_eq bins ys)

-- two blocks within the reach have as many projections in common as give a block back
pub common-enough : (s : Records) (g h : Grid) → inverse_of s.layout ≤ added s → IsWithinReach s g → IsWithinReach s h →
    inverse_of s.layout ≤ count_by (both s g h) (positions s)
common-enough s g h enough within within' =
    let all = count-le (has_bins s) (both s g h) (is_misfit s g) (is_misfit s h)
    (λ position. two-bins (projection_at s g position) (projection_at s h position) (bins_at s position)) (positions s) in
    let few = within.few in
    let few' = within'.few in
    let counted = length-filter (is_misfit s g) (positions s) in
    let counted' = length-filter (is_misfit s h) (positions s) in
    omega (arith, all, few, few', counted, counted', enough)

-- the bins that fit
pub fit-is : (xs : List ℕ) (o : Option (List ℕ)) → are_same xs o ≡ true → o ≡ Some xs
fit-is xs None h = absurd (false≢true h)
fit-is xs (Some bins) h = ap (λ (ys : List ℕ). Some ys) ((bytes_eq-Decides bins xs).0 h)

pub fit-none : (xs : List ℕ) (o : Option (List ℕ)) → is_some o ≡ false → are_same xs o ≡ false
fit-none xs None h = refl
fit-none xs (Some bins) h = cc

pub misfit-none : (xs : List ℕ) (o : Option (List ℕ)) → is_some o ≡ false → are_other xs o ≡ false
misfit-none xs None h = refl
misfit-none xs (Some bins) h = cc

pub same-projections : (s : Records) (g h : Grid) (position : ℕ) → both s g h position ≡ true → projection_at s g position ≡ projection_at s h position
same-projections s g h position fit =
    let parts = and_parts (is_fit s g position) (is_fit s h position) fit in
    same_Some (projection_at s g position) (projection_at s h position)
    (sym (fit-is (projection_at s g position) (bins_at s position) parts.0) ∙ fit-is (projection_at s h position) (bins_at s position) parts.1)

-- a misfit is a position with bins
pub misfit-has : (s : Records) (g : Grid) (position : ℕ) → is_misfit s g position ≡ true → has_bins s position ≡ true
misfit-has s g position h =
    elim (cases_Bool (has_bins s position)) [
      | inl has ↦ has
      | inr none ↦ absurd (false≢true (sym (misfit-none (projection_at s g position) (bins_at s position) none) ∙ h))
    ]
