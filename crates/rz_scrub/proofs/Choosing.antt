-- What the positions that were chosen say of the blocks that are left.
use Rattle.std.proofs.Common.{◌≡◌, ◌≢◌, ℕ, ◌+◌, ◌-◌, ◌<◌, ◌≤◌, Bool, true, false, List, [], ◌∷◌, ◌++◌, length, map, get_or, take, set, ℤ, refl, sym, arith, ap, ◌∙◌, subst, Option}
use Rattle.std.specs.Prelude.{All, count_by, unwrap_or, IsTrue}
use Rattle.std.specs.List.{range_with_len}
use Rattle.std.proofs.lemmas.List.{length_push, length-take, get_or-take, get_or_default, take-take, take-set, take_more_set}
use Rattle.std.proofs.lemmas.List.Elements.{All-nil, All-push, All-weaker, All-map}
use Rattle.std.proofs.lemmas.List.Quantifiers.{all_pairs_push}
use Rattle.mj_angles.specs.Layout.{inverse_of, angle_of}
use Rattle.rz_words.specs.Grid.{Grid, word}
use Rattle.mj_angles.specs.Projection.{projection}
use Rattle.mj_inverse.specs.Fits.{Pair, IsFound}
use Rattle.rz_scrub.specs.Records.{Records, bins_at, has_bins, added}
use Rattle.rz_scrub.specs.Misfits.{IsBlock, IsWithinReach, is_fit, projection_at}
use Rattle.rz_scrub.specs.Choice.{IsChoice, IsNoneLeft, FitsAll, pair_at, search_for}
use Rattle.rz_scrub.proofs.Counting.{one, count-from, count-few}
use Rattle.rz_scrub.proofs.Fitting.{fit-is, fit-none, enough-fit}

-- one more position is chosen
pub choice-more : (s : Records) (from : ℕ) (chosen : List ℕ) → IsChoice s from chosen → has_bins s from ≡ true → IsChoice s (from + 1) (chosen ++ from ∷ [])
choice-more s from chosen is has = record {
  distinct = all_pairs_push (λ (p q : ℕ). p ≢ q) chosen from is.distinct (λ k d h. (let low = is.below k d h in omega (arith, low)));
  below = All-push (λ (p : ℕ). p < from + 1) chosen from (All-weaker (λ (p : ℕ). p < from) (λ (p : ℕ). p < from + 1) (λ p low. omega (arith, low)) chosen is.below) (omega arith);
  there = All-push (λ (p : ℕ). IsTrue (has_bins s p)) chosen from is.there has;
}

-- a position is passed over, or some
pub choice-later : (s : Records) (from later : ℕ) (chosen : List ℕ) → from ≤ later → IsChoice s from chosen → IsChoice s later chosen
choice-later s from later chosen h is = record {
  distinct = is.distinct;
  below = All-weaker (λ (p : ℕ). p < from) (λ (p : ℕ). p < later) (λ p low. omega (arith, low, h)) chosen is.below;
  there = is.there;
}

-- nothing is chosen
pub choice-none : (s : Records) (from : ℕ) → IsChoice s from []
choice-none s from = record {
  distinct = λ i j d h h'. absurd (omega (arith, h'));
  below = All-nil (λ (p : ℕ). p < from);
  there = All-nil (λ (p : ℕ). IsTrue (has_bins s p));
}

-- no block within the reach has the bins at the chosen positions
pub none-here : (s : Records) (chosen : List ℕ) (from : ℕ) → ((g : Grid) → FitsAll s g chosen → ¬ IsWithinReach s g) → IsNoneLeft s chosen from
none-here s chosen from none g within fits = absurd (none g fits within)

-- too few positions are left
pub none-short : (s : Records) (chosen : List ℕ) (from : ℕ) → length chosen + (length s.bins - from) < inverse_of s.layout → IsNoneLeft s chosen from
none-short s chosen from short g within fits =
    let few = count-few (is_fit s g) from (length s.bins - from) in
    omega (arith, few, short)

-- a position without bins is passed over
pub none-absent : (s : Records) (chosen : List ℕ) (from : ℕ) → from < length s.bins → has_bins s from ≡ false → IsNoneLeft s chosen (from + 1) → IsNoneLeft s chosen from
none-absent s chosen from within has later g near fits =
    let off : one (is_fit s g from) ≡ 0 = ap one (fit-none (projection_at s g from) (bins_at s from) has) in
    let rest = later g near fits in
    omega (arith, off, rest, count-from (is_fit s g) from (length s.bins) within)

-- a position is chosen, or passed over
pub none-either : (s : Records) (chosen : List ℕ) (from : ℕ) → from < length s.bins → IsNoneLeft s (chosen ++ from ∷ []) (from + 1) →
    IsNoneLeft s chosen (from + 1) → IsNoneLeft s chosen from
none-either s chosen from within taken passed g near fits = by_test (is_fit s g from) refl
  where
    by_test : (b : Bool) → is_fit s g from ≡ b → length chosen + count_by (is_fit s g) (range_with_len from (length s.bins - from)) < inverse_of s.layout
    by_test true e =
        let on : one (is_fit s g from) ≡ 1 = ap one e in
        let rest = taken g near (All-push (λ (p : ℕ). IsTrue (is_fit s g p)) chosen from fits e) in
        omega (arith, on, rest, length_push chosen from, count-from (is_fit s g) from (length s.bins) within)
    by_test false e =
        let off : one (is_fit s g from) ≡ 0 = ap one e in
        let rest = passed g near fits in
        omega (arith, off, rest, count-from (is_fit s g) from (length s.bins) within)

-- the whole search found none
pub none-at-all : (s : Records) → inverse_of s.layout ≤ added s → IsNoneLeft s [] 0 → (g : Grid) → ¬ IsWithinReach s g
none-at-all s enough none g within =
    let few = none g within (All-nil (λ (p : ℕ). IsTrue (is_fit s g p))) in
    let many = enough-fit s g enough within in
    let whole : count_by (is_fit s g) (range_with_len 0 (length s.bins - 0)) ≡ count_by (is_fit s g) (range_with_len 0 (length s.bins)) =
    ap (λ (n : ℕ). count_by (is_fit s g) (range_with_len 0 n)) (let e : length s.bins - 0 ≡ length s.bins = omega arith in e) in
    omega (arith, few, many, whole)

-- a block that fits the chosen positions is one that is searched for
pub fits-found : (s : Records) (g : Grid) (chosen : List ℕ) → IsBlock s.layout g → FitsAll s g chosen → IsFound (search_for s chosen) g
fits-found s g chosen block fits = record {
  grid = block.grid;
  rows = block.rows;
  cols = block.cols;
  fits = All-map (λ (pair : Pair). pair.1 ≡ projection (word g) g.rows g.cols pair.0) (pair_at s) chosen
      (All-weaker (λ (p : ℕ). IsTrue (is_fit s g p)) (λ (p : ℕ). unwrap_or (bins_at s p) [] ≡ projection (word g) g.rows g.cols (angle_of s.layout p))
      (λ p fit. ap (λ (o : Option (List ℕ)). unwrap_or o []) (fit-is (projection_at s g p) (bins_at s p) fit)) chosen fits);
}

pub found-block : (s : Records) (g : Grid) (chosen : List ℕ) → IsFound (search_for s chosen) g → IsBlock s.layout g
found-block s g chosen found = record { grid = found.grid; rows = found.rows; cols = found.cols }

-- the angle of the next position is none of those before it
pub other-angle : (s : Records) (from : ℕ) (chosen : List ℕ) (i : ℕ) (angle : ℤ) → i < length chosen → IsChoice s from chosen →
    ((other : ℕ) → angle_of s.layout other ≡ angle → other ≡ get_or chosen i 0) → All (λ (pair : Pair). pair.0 ≢ angle) (map (pair_at s) (take i chosen))
other-angle s from chosen i angle within is only =
    All-map (λ (pair : Pair). pair.0 ≢ angle) (pair_at s) (take i chosen) (λ k d h same.
    (let long = length-take i chosen in
    let earlier : k < i = omega (arith, long, h) in
    let there : get_or (take i chosen) k d ≡ get_or chosen k d = get_or-take i chosen k d earlier in
    let here : get_or (take i chosen) k d ≡ get_or chosen i 0 = only (get_or (take i chosen) k d) same in
    is.distinct k i d earlier within (sym there ∙ here ∙ get_or_default chosen i 0 d within)))

-- a position is written behind those that were chosen
pub choice-written : (s : Records) (from : ℕ) (choice : List ℕ) (count : ℕ) → count < length choice → IsChoice s from (take count choice) → has_bins s from ≡ true →
    IsChoice s (from + 1) (take (count + 1) (set choice count from))
choice-written s from choice count within is has =
    subst (λ (xs : List ℕ). IsChoice s (from + 1) xs) (sym (take_more_set choice count from within)) (choice-more s from (take count choice) is has)

-- what comes behind them is free
pub choice-kept : (choice : List ℕ) (count from : ℕ) (new : List ℕ) → take (count + 1) new ≡ take (count + 1) (set choice count from) → take count new ≡ take count choice
choice-kept choice count from new same =
    sym (take-take count (count + 1) new (omega arith)) ∙ ap (take count) same ∙ take-take count (count + 1) (set choice count from) (omega arith)
    ∙ take-set choice count from
