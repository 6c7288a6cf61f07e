use Rattle.std.proofs.Common.{◌≡◌, ◌*◌, ◌/◌, ◌%◌, ◌^◌, ◌≤◌, ◌↔◌, List, ap, sym, subst, ◌∙◌, ℤ}
use Rattle.std.specs.Prelude.{All, unsigned_abs}
use Rattle.rz_words.specs.Grid.{Grid}
use Rattle.mj_angles.specs.Layout.{inverse_of, cols_of}
use Rattle.mj_inverse.specs.Fits.{Search, IsFound, AnglesDiffer, total_bins, search_from}
use Rattle.mj_inverse.specs.Store.{lane_search, lane_grid}
use Rattle.mj_c.specs.Layouts.{eight_search}
use Rattle.mj_c.proofs.Angled.{angles_small, angles_differ, total_angled, search_angled}
use Rattle.mj_c.proofs.eight.find_eight.Goals as goal

pub solve_from-requires-clause-small : goal.solve_from-requires-clause-small
solve_from-requires-clause-small c =
    let P : List ℤ → Type 0 = λ xs. All (λ p. unsigned_abs p ≤ 16) xs in
    subst P (sym c.requires.angles) (angles_small c.args.layout c.args.positions.now c.requires.positions)

pub solve_from-requires-clause-differ : goal.solve_from-requires-clause-differ
solve_from-requires-clause-differ c = subst AnglesDiffer (sym c.requires.angles) (angles_differ c.args.layout 0 c.args.positions.now c.requires.ascending)

pub solve_from-requires-clause-size : goal.solve_from-requires-clause-size
solve_from-requires-clause-size c =
    let rows : c.args.work.now.rows ≡ inverse_of c.args.layout = ap (λ (s : Search). s.rows) c.requires.empty in
    let cols : c.args.work.now.cols ≡ cols_of c.args.layout = ap (λ (s : Search). s.cols) c.requires.empty in
    c.requires.bins ∙ sym (total_angled c.args.layout c.args.positions.now)
    ∙ sym (ap (λ r. 8 * total_bins r c.args.work.now.cols c.args.angles.now) rows ∙ ap (λ k. 8 * total_bins (inverse_of c.args.layout) k c.args.angles.now) cols
    ∙ ap (λ xs. 8 * total_bins (inverse_of c.args.layout) (cols_of c.args.layout) xs) c.requires.angles)

pub returns-clause-solved : goal.returns-clause-solved
returns-clause-solved c = λ j h.
    let y = c.args.layout in
    let rows : c.args.work.now.rows ≡ inverse_of y = ap (λ (s : Search). s.rows) c.requires.empty in
    let cols : c.args.work.now.cols ≡ cols_of y = ap (λ (s : Search). s.cols) c.requires.empty in
    let is = ap (λ r. search_from r c.args.work.now.cols c.args.angles.now c.args.bins.now) rows ∙ ap (λ k. search_from (inverse_of y) k c.args.angles.now c.args.bins.now) cols
    ∙ search_angled y c.args.positions.now c.args.bins.now c.args.angles.now c.requires.angles in
    let grid : lane_grid 8 j c.args.work.now.rows c.args.work.now.cols c.solve_from.new.out ≡ lane_grid 8 j (inverse_of y) (cols_of y) c.solve_from.new.out =
    ap (λ r. lane_grid 8 j r c.args.work.now.cols c.solve_from.new.out) rows ∙ ap (λ k. lane_grid 8 j (inverse_of y) k c.solve_from.new.out) cols in
    let P : Search → Type 0 = λ s. (c.solve_from.result / 2 ^ j % 2 ≡ 0) ↔ ((g : Grid) × IsFound (lane_search 8 j s) g) in
    let Q : Search → Type 0 = λ s. c.solve_from.result / 2 ^ j % 2 ≡ 0 → IsFound (lane_search 8 j s) (lane_grid 8 j c.args.work.now.rows c.args.work.now.cols c.solve_from.new.out) in
    let Q' : Grid → Type 0 = λ g. c.solve_from.result / 2 ^ j % 2 ≡ 0 → IsFound (lane_search 8 j (eight_search y c.args.positions.now c.args.bins.now)) g in
    let R : Search → Type 0 = λ s. (g : Grid) → IsFound (lane_search 8 j s) g → g ≡ lane_grid 8 j c.args.work.now.rows c.args.work.now.cols c.solve_from.new.out in
    record {
      exact = subst P is (c.solve_from.ensures.exact j h);
      found = subst Q' grid (subst Q is (c.solve_from.ensures.found j h));
      only = λ g f. (subst R is (λ g f. c.solve_from.ensures.only j g h f)) g f ∙ grid;
    }
