-- No two blocks are within the reach.
use Rattle.std.proofs.Common.{◌≡◌, ◌≢◌, ℕ, ◌/◌, ◌<◌, ◌≤◌, true, List, length, map, take, get_or, sym, arith, ◌∙◌, ℤ, pos}
use Rattle.std.specs.Prelude.{filter, ◌-ℤ◌}
use Rattle.std.specs.List.{AllPairs, range_with_len}
use Rattle.std.proofs.lemmas.Int.{ints}
use Rattle.std.proofs.lemmas.List.{length-map, length-take, length-take-le, get_or-take, get_or-map}
use Rattle.std.proofs.lemmas.List.FromFn.{get_or-range_with_len, length-range_with_len}
use Rattle.std.proofs.lemmas.List.Elements.{All-map, All-weaker, All-take, filter_passes}
use Rattle.std.proofs.lemmas.List.Kept.{AllPairs-filter}
use Rattle.std.proofs.lemmas.List.Sums.{length-filter}
use Rattle.mj_angles.specs.declared.layout.Layout.{Layout}
use Rattle.mj_angles.specs.Layout.{inverse_of, safe_of, angle_of}
use Rattle.rz_words.specs.Grid.{Grid, IsGrid}
use Rattle.mj_forward.specs.Forward.{projection_of}
use Rattle.mj_katz.specs.Unique.{AreDistinct, HaveSameProjections}
use Rattle.rz_scrub.specs.Records.{Records, positions, added}
use Rattle.rz_scrub.specs.Misfits.{IsWithinReach, projection_at}
use Rattle.rz_scrub.proofs.Fitting.{both, common-enough, same-projections}

-- angles of distinct positions
by_half : (half i j : ℕ) → pos i -ℤ pos half ≡ pos j -ℤ pos half → i ≡ j
by_half half i j same = omega (arith, ints, same)

pub angle-distinct : (layout : Layout) (i j : ℕ) → i < j → angle_of layout i ≢ angle_of layout j
angle-distinct layout i j less same = let e = by_half (safe_of layout / 2) i j same in omega (arith, e)

-- numbers in a row rise
rising-range : (a n : ℕ) → AllPairs (λ (x y : ℕ). x < y) (range_with_len a n)
rising-range a n i j d less within =
    let long = length-range_with_len a n in
    let first = get_or-range_with_len a n i d (omega (arith, long, within, less)) in
    let second = get_or-range_with_len a n j d (omega (arith, long, within)) in
    omega (arith, first, second, less)

rising-take : (n : ℕ) (xs : List ℕ) → AllPairs (λ (x y : ℕ). x < y) xs → AllPairs (λ (x y : ℕ). x < y) (take n xs)
rising-take n xs rise i j d less within =
    let long = length-take n xs in
    let first = get_or-take n xs i d (omega (arith, long, within, less)) in
    let second = get_or-take n xs j d (omega (arith, long, within)) in
    let both' = rise i j d less (omega (arith, long, within)) in
    omega (arith, first, second, both')

angles-distinct : (layout : Layout) (xs : List ℕ) → AllPairs (λ (x y : ℕ). x < y) xs → AreDistinct (map (angle_of layout) xs)
angles-distinct layout xs rise i j d less within same =
    let long = length-map xs (angle_of layout) in
    let first = get_or-map (angle_of layout) xs i 0 d (omega (arith, long, within, less)) in
    let second = get_or-map (angle_of layout) xs j 0 d (omega (arith, long, within)) in
    angle-distinct layout (get_or xs i 0) (get_or xs j 0) (rise i j 0 less (omega (arith, long, within))) (sym first ∙ same ∙ second)

-- the law that projections determine a block
abbrev pub Determine : Type 0
Determine = (a b : Grid) (angles : List ℤ) → IsGrid a → IsGrid b → a.rows ≡ b.rows → a.cols ≡ b.cols →
    length angles ≡ a.rows → AreDistinct angles → HaveSameProjections angles a b → a ≡ b

pub only-one : Determine → (s : Records) (g h : Grid) → inverse_of s.layout ≤ added s → IsWithinReach s g → IsWithinReach s h → g ≡ h
only-one law s g h enough within within' =
    law g h (map (angle_of s.layout) chosen) within.block.grid within'.block.grid (within.block.rows ∙ sym within'.block.rows)
    (within.block.cols ∙ sym within'.block.cols) (length-map chosen (angle_of s.layout) ∙ count ∙ sym within.block.rows) distinct same
  where
    fitting : List ℕ
    fitting = filter (both s g h) (positions s)

    chosen : List ℕ
    chosen = take (inverse_of s.layout) fitting

    count : length chosen ≡ inverse_of s.layout
    count = length-take-le (inverse_of s.layout) fitting
        (let common = common-enough s g h enough within within' in omega (arith, common, length-filter (both s g h) (positions s)))

    distinct : AreDistinct (map (angle_of s.layout) chosen)
    distinct = angles-distinct s.layout chosen
        (rising-take (inverse_of s.layout) fitting (AllPairs-filter (λ (x y : ℕ). x < y) (both s g h) (positions s) (rising-range 0 (length s.bins))))

    same : HaveSameProjections (map (angle_of s.layout) chosen) g h
    same = All-map (λ (p : ℤ). projection_of g p ≡ projection_of h p) (angle_of s.layout) chosen
        (All-weaker (λ (x : ℕ). both s g h x ≡ true) (λ (x : ℕ). projection_at s g x ≡ projection_at s h x) (same-projections s g h) chosen
        (All-take (λ (x : ℕ). both s g h x ≡ true) (inverse_of s.layout) fitting (filter_passes (both s g h) (positions s))))
