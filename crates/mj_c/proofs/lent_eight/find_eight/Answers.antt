use Rattle.std.proofs.Common.{◌≡◌, ◌*◌, ◌-◌, ◌/◌, ◌%◌, ◌^◌, ◌≤◌, ◌↔◌, List, ap, sym, subst, ◌∙◌, ℤ}
use Rattle.std.specs.Prelude.{All, unsigned_abs}
use Rattle.rz_words.specs.Grid.{Grid}
use Rattle.mj_angles.specs.Layout.{inverse_of, cols_of}
use Rattle.mj_inverse.specs.Fits.{Search, IsFound, AnglesDiffer, total_bins, search_from}
use Rattle.mj_inverse.specs.Store.{lane_search, lane_grid}
use Rattle.mj_c.specs.Layouts.{eight_search}
use Rattle.mj_c.proofs.Angled.{angles_small, angles_near, near_all, reaches_all, angles_differ, total_angled, search_angled}
use Rattle.mj_c.proofs.lent_eight.find_eight.Goals as goal

pub solve_beside-requires-clause-small : goal.solve_beside-requires-clause-small
solve_beside-requires-clause-small c =
    let P : List ℤ → Type 0 = λ xs. All (λ p. unsigned_abs p ≤ 16) xs in
    subst P (sym c.requires.angles) (angles_small c.args.layout c.args.positions.now c.requires.positions)

pub solve_beside-requires-clause-near : goal.solve_beside-requires-clause-near
solve_beside-requires-clause-near c =
    let P : List ℤ → Type 0 = λ xs. All (λ p. unsigned_abs p ≤ c.frame_of.result.reach) xs in
    subst P (sym c.requires.angles) (near_all _ c.frame_of.result.reach c.frame_of.ensures.least (angles_near c.args.layout c.args.positions.now c.requires.positions))

pub solve_beside-requires-clause-reaches : goal.solve_beside-requires-clause-reaches
solve_beside-requires-clause-reaches c =
    let P : List ℤ → Type 0 = λ xs. All (λ p. unsigned_abs p * (c.frame_of.result.rows - 1) ≤ c.frame_of.result.reach) xs in
    let is : c.frame_of.result.reach ≡ 8 * (c.frame_of.result.rows - 1) = c.frame_of.ensures.reach ∙ sym (ap (λ r. 8 * (r - 1)) c.frame_of.ensures.rows) in
    subst P (sym c.requires.angles) (reaches_all c.frame_of.result.rows _ c.frame_of.result.reach is (angles_near c.args.layout c.args.positions.now c.requires.positions))

pub solve_beside-requires-clause-differ : goal.solve_beside-requires-clause-differ
solve_beside-requires-clause-differ c = subst AnglesDiffer (sym c.requires.angles) (angles_differ c.args.layout 0 c.args.positions.now c.requires.ascending)

pub solve_beside-requires-clause-size : goal.solve_beside-requires-clause-size
solve_beside-requires-clause-size c =
    c.requires.bins ∙ sym (total_angled c.args.layout c.args.positions.now)
    ∙ sym (ap (λ r. 8 * total_bins r c.frame_of.result.cols c.args.angles.now) c.frame_of.ensures.rows ∙ ap (λ k. 8 * total_bins (inverse_of c.args.layout) k c.args.angles.now) c.frame_of.ensures.cols
    ∙ ap (λ xs. 8 * total_bins (inverse_of c.args.layout) (cols_of c.args.layout) xs) c.requires.angles)

pub returns : goal.returns
returns c = λ j h.
    let y = c.args.layout in
    let rows = c.frame_of.ensures.rows in
    let cols = c.frame_of.ensures.cols in
    let is = ap (λ r. search_from r c.frame_of.result.cols c.args.angles.now c.args.bins.now) rows ∙ ap (λ k. search_from (inverse_of y) k c.args.angles.now c.args.bins.now) cols
    ∙ search_angled y c.args.positions.now c.args.bins.now c.args.angles.now c.requires.angles in
    let grid : lane_grid 8 j c.frame_of.result.rows c.frame_of.result.cols c.solve_beside.new.out ≡ lane_grid 8 j (inverse_of y) (cols_of y) c.solve_beside.new.out =
    ap (λ r. lane_grid 8 j r c.frame_of.result.cols c.solve_beside.new.out) rows ∙ ap (λ k. lane_grid 8 j (inverse_of y) k c.solve_beside.new.out) cols in
    let P : Search → Type 0 = λ s. (c.solve_beside.result / 2 ^ j % 2 ≡ 0) ↔ ((g : Grid) × IsFound (lane_search 8 j s) g) in
    let Q : Search → Type 0 = λ s. c.solve_beside.result / 2 ^ j % 2 ≡ 0 → IsFound (lane_search 8 j s) (lane_grid 8 j c.frame_of.result.rows c.frame_of.result.cols c.solve_beside.new.out) in
    let Q' : Grid → Type 0 = λ g. c.solve_beside.result / 2 ^ j % 2 ≡ 0 → IsFound (lane_search 8 j (eight_search y c.args.positions.now c.args.bins.now)) g in
    let R : Search → Type 0 = λ s. (g : Grid) → IsFound (lane_search 8 j s) g → g ≡ lane_grid 8 j c.frame_of.result.rows c.frame_of.result.cols c.solve_beside.new.out in
    record {
      exact = subst P is (c.solve_beside.ensures.exact j h);
      found = subst Q' grid (subst Q is (c.solve_beside.ensures.found j h));
      only = λ g f. (subst R is (λ g f. c.solve_beside.ensures.only j g h f)) g f ∙ grid;
    }
