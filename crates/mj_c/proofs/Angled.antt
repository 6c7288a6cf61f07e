-- Projections at the angles of positions.
use Rattle.std.proofs.Common.{◌≡◌, ◌≢◌, ℕ, zero, suc, ◌+◌, ◌-◌, ◌*◌, ◌<◌, ◌≤◌, arith, refl, sym, ap, ◌∙◌, List, [], ◌∷◌, length, map, take, drop, ℤ}
use Rattle.std.specs.Prelude.{true, All, unsigned_abs, nat_lt}
use Rattle.std.specs.List.{list_all, sum_by}
use Rattle.mj_angles.specs.declared.layout.Layout.{Layout}
use Rattle.mj_angles.specs.Projection.{bins}
use Rattle.mj_angles.specs.Layout.{inverse_of, cols_of, safe_of, angle_of, bins_at_of}
use Rattle.mj_angles.proofs.Numbers.{angle_of-distinct, angle_of-small}
use Rattle.mj_inverse.specs.Fits.{Pair, Search, AnglesDiffer, total_bins, pairs_from, search_from}
use Rattle.mj_c.specs.Layouts.{pairs_with, eight_search}
use Rattle.mj_c.specs.Answers.{is_ascending_from}
use Rattle.std.proofs.lemmas.List.Sums.{sum_by-cons}
use Rattle.std.proofs.lemmas.Bool.{ltb-true}
use Rattle.std.proofs.Math.Nat.{mul-le-mul_right}
use Rattle.mj_c.proofs.Ascending.{both, all_above, others_above}

pub pairs_angled : (y : Layout) (positions bins : List ℕ) → pairs_from (inverse_of y) (cols_of y) (map (angle_of y) positions) bins ≡ pairs_with (λ i. 8 * bins_at_of y i) y positions bins
pairs_angled y [] bins = refl
pairs_angled y (i ∷ others) bins = ap (λ (ps : List Pair). (let q : Pair = (angle_of y i, take (8 * bins_at_of y i) bins) in q ∷ ps)) (pairs_angled y others (drop (8 * bins_at_of y i) bins))

pub search_angled : (y : Layout) (positions bins : List ℕ) (angles : List ℤ) → angles ≡ map (angle_of y) positions → search_from (inverse_of y) (cols_of y) angles bins ≡ eight_search y positions bins
search_angled y positions bins angles is =
    ap (λ (ps : List Pair). let s : Search = record { rows = inverse_of y; cols = cols_of y; pairs = ps } in s) (ap (λ xs. pairs_from (inverse_of y) (cols_of y) xs bins) is ∙ pairs_angled y positions bins)

pub total_angled : (y : Layout) (positions : List ℕ) → 8 * total_bins (inverse_of y) (cols_of y) (map (angle_of y) positions) ≡ sum_by (λ i. 8 * bins_at_of y i) positions
total_angled y [] = refl
total_angled y (i ∷ others) =
    let rest = total_angled y others in
    let e : 8 * (bins_at_of y i + total_bins (inverse_of y) (cols_of y) (map (angle_of y) others)) ≡ 8 * bins_at_of y i + sum_by (λ i. 8 * bins_at_of y i) others = omega arith in
    e ∙ sym (sum_by-cons (λ i. 8 * bins_at_of y i) i others)

small_angle : (y : Layout) (i : ℕ) → i < safe_of y → unsigned_abs (angle_of y i) ≤ 16
small_angle y i h = let k = angle_of-small y i h in omega arith

pub angles_small : (y : Layout) (positions : List ℕ) → list_all (λ i. nat_lt i (safe_of y)) positions ≡ true → All (λ p. unsigned_abs p ≤ 16) (map (angle_of y) positions)
angles_small y [] known k d h = absurd (omega arith)
angles_small y (i ∷ others) known zero d h = small_angle y i (ltb-true i (safe_of y) (both (nat_lt i (safe_of y)) (list_all (λ i. nat_lt i (safe_of y)) others) known).0)
angles_small y (i ∷ others) known (suc k) d h =
    angles_small y others (both (nat_lt i (safe_of y)) (list_all (λ i. nat_lt i (safe_of y)) others) known).1 k d (let z : suc k < suc (length (map (angle_of y) others)) = h in omega arith)

pub angles_near : (y : Layout) (positions : List ℕ) → list_all (λ i. nat_lt i (safe_of y)) positions ≡ true → All (λ p. unsigned_abs p ≤ 8) (map (angle_of y) positions)
angles_near y [] known k d h = absurd (omega arith)
angles_near y (i ∷ others) known zero d h = angle_of-small y i (ltb-true i (safe_of y) (both (nat_lt i (safe_of y)) (list_all (λ i. nat_lt i (safe_of y)) others) known).0)
angles_near y (i ∷ others) known (suc k) d h =
    angles_near y others (both (nat_lt i (safe_of y)) (list_all (λ i. nat_lt i (safe_of y)) others) known).1 k d (let z : suc k < suc (length (map (angle_of y) others)) = h in omega arith)

pub near_all : (xs : List ℤ) (reach : ℕ) → 8 ≤ reach → All (λ p. unsigned_abs p ≤ 8) xs → All (λ p. unsigned_abs p ≤ reach) xs
near_all xs reach h near k d m = let n = near k d m in omega arith

pub reaches_all : (rows : ℕ) (xs : List ℤ) (reach : ℕ) → reach ≡ 8 * (rows - 1) → All (λ p. unsigned_abs p ≤ 8) xs → All (λ p. unsigned_abs p * (rows - 1) ≤ reach) xs
reaches_all rows xs reach is near k d m = let n = mul-le-mul_right (rows - 1) (near k d m) in omega arith

other_angles : (y : Layout) (n i : ℕ) (others : List ℕ) → i < n → is_ascending_from n others ≡ true → All (λ q. q ≢ angle_of y i) (map (angle_of y) others)
other_angles y n i [] less rises k d h same = absurd (omega arith)
other_angles y n i (x ∷ others) less rises zero d h same =
    let le = all_above n (x ∷ others) 0 rises (let z : 0 < suc (length others) = omega arith in z) in
    let e = angle_of-distinct y x i same in
    absurd (omega arith)
other_angles y n i (x ∷ others) less rises (suc k) d h same =
    let le = all_above n (x ∷ others) 0 rises (let z : 0 < suc (length others) = omega arith in z) in
    other_angles y (x + 1) i others (omega arith) (others_above n x others rises) k d (let z : suc k < suc (length (map (angle_of y) others)) = h in omega arith) same

pub angles_differ : (y : Layout) (n : ℕ) (positions : List ℕ) → is_ascending_from n positions ≡ true → AnglesDiffer (map (angle_of y) positions)
angles_differ y n [] rises = tt
angles_differ y n (i ∷ others) rises =
    let rest = others_above n i others rises in
    (other_angles y (i + 1) i others (omega arith) rest, angles_differ y (i + 1) others rest)
