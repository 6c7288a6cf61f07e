use Rattle.std.proofs.Common.{rules, arith, true, ◌≡◌, ◌*◌, ℕ, List, length, refl, sym, ap, ◌∙◌, subst}
use Rattle.rz_words.specs.Grid.{Grid, grid_of}
use Rattle.mj_inverse.specs.Fits.{Search, IsFound}
use Rattle.mj_inverse.specs.declared.series.Series.{Series}
use Rattle.mj_inverse.specs.Rows.{Differ}
use Rattle.mj_inverse.specs.Series.{angle}
use Rattle.mj_inverse.specs.Store.{IsStore, IsFilled, pairs_in, search_in, lane_search, lane_grid}
use Rattle.mj_inverse.proofs.Stores.{length-pairs_in, differ_from_pairs, lane_grid-one, lane_search-one}
use Rattle.mj_inverse.proofs.work.Work.solve_words.Goals as goal

pub solve_all-solved-requires-clause-filled : goal.solve_all-solved-requires-clause-filled
solve_all-solved-requires-clause-filled c =
    let s = c.self.inside in
    let i = c.self.invariant in
    let few = i.few in
    let count = i.count in
    let n : length (pairs_in 1 s.count s.all.items) ≡ s.count = length-pairs_in 1 s.count s.all.items (omega arith) in
    let rows : s.rows ≡ c.args.self.now.rows = ap (λ (v : Search). v.rows) c.self.view_is in
    let pairs : length (pairs_in 1 s.count s.all.items) ≡ length c.args.self.now.pairs = ap (λ (v : Search). length v.pairs) c.self.view_is in
    let full : s.count ≡ s.rows = sym n ∙ pairs ∙ c.requires.full ∙ sym rows in
    let P : ℕ → Type 0 = λ n. IsFilled 1 s.rows s.cols n s.all.items in
    let Q : List Series → Type 0 = λ xs. IsFilled 1 s.rows s.cols s.rows xs in
    subst Q (sym c.deref_mut.ensures.value) (subst P full i.filled)

pub solve_all-solved-requires-clause-differ : goal.solve_all-solved-requires-clause-differ
solve_all-solved-requires-clause-differ c =
    let s = c.self.inside in
    let i = c.self.invariant in
    let few = i.few in
    let count = i.count in
    let n : length (pairs_in 1 s.count s.all.items) ≡ s.count = length-pairs_in 1 s.count s.all.items (omega arith) in
    let rows : s.rows ≡ c.args.self.now.rows = ap (λ (v : Search). v.rows) c.self.view_is in
    let pairs : length (pairs_in 1 s.count s.all.items) ≡ length c.args.self.now.pairs = ap (λ (v : Search). length v.pairs) c.self.view_is in
    let full : s.count ≡ s.rows = sym n ∙ pairs ∙ c.requires.full ∙ sym rows in
    let Q : List Series → Type 0 = λ xs. Differ angle xs in
    subst Q (sym c.deref_mut.ensures.value) (differ_from_pairs 1 s.rows s.cols s.count s.all.items (full ∙ sym count) i.filled i.differ)

-- what is looked for
looked : (rows cols count : ℕ) (now : Search) (xs ys : List Series) → IsStore 1 rows cols count xs → search_in 1 rows cols count xs ≡ now → length now.pairs ≡ now.rows → ys ≡ xs →
    lane_search 1 0 (search_in 1 rows cols rows ys) ≡ now
looked rows cols count now xs ys store seen full same =
    let few = store.few in
    let long = store.count in
    let n : length (pairs_in 1 count xs) ≡ count = length-pairs_in 1 count xs (omega arith) in
    let k : rows ≡ count = ap (λ (v : Search). v.rows) seen ∙ sym full ∙ sym (ap (λ (v : Search). length v.pairs) seen) ∙ n in
    ap (λ ys. lane_search 1 0 (search_in 1 rows cols rows ys)) same ∙ ap (λ k. lane_search 1 0 (search_in 1 rows cols k xs)) k ∙ lane_search-one rows cols count xs store.filled ∙ seen

pub returns-then-not-solved-clause-exact : goal.returns-then-not-solved-clause-exact
returns-then-not-solved-clause-exact c =
    let s = c.self.inside in
    let l = looked s.rows s.cols s.count c.args.self.now s.all.items c.deref_mut.result.now c.self.invariant c.self.view_is c.requires.full c.deref_mut.ensures.value in (
      λ e. absurd (cc e),
      λ x.
          let no = c.if-not-solved.true in
          let P : Search → Type 0 = λ v. IsFound v x.0 in
          let yes = c.solve_all-solved.ensures.complete (λ j h.
          let Q : ℕ → Type 0 = λ j. (g : Grid) × IsFound (lane_search 1 j (search_in 1 s.rows s.cols s.rows c.deref_mut.result.now)) g in
          let first : Q 0 = (x.0, subst P (sym l) x.1) in
          let e : 0 ≡ j = omega arith in
          subst Q e first) in
          absurd (search rules),
    )

pub returns-clause-found : goal.returns-clause-found
returns-clause-found c =
    let s = c.self.inside in
    let l = looked s.rows s.cols s.count c.args.self.now s.all.items c.deref_mut.result.now c.self.invariant c.self.view_is c.requires.full c.deref_mut.ensures.value in
    let long : length c.solve_all-solved.new.out ≡ s.rows * s.cols = search rules in
    let rows : s.rows ≡ c.args.self.now.rows = ap (λ (v : Search). v.rows) c.self.view_is in
    let cols : s.cols ≡ c.args.self.now.cols = ap (λ (v : Search). v.cols) c.self.view_is in
    let out : lane_grid 1 0 s.rows s.cols c.solve_all-solved.new.out ≡ grid_of c.args.self.now.rows c.args.self.now.cols c.solve_all-solved.new.out =
    lane_grid-one s.rows s.cols c.solve_all-solved.new.out long
    ∙ ap (λ r. grid_of r s.cols c.solve_all-solved.new.out) rows ∙ ap (λ k. grid_of c.args.self.now.rows k c.solve_all-solved.new.out) cols in
    let yes : c.solve_all-solved.result ≡ true = (let no = c.if-not-solved.false in search rules) in
    let found = c.solve_all-solved.ensures.found yes 0 (omega arith) in
    let P : Search → Type 0 = λ v. IsFound v (lane_grid 1 0 s.rows s.cols c.solve_all-solved.new.out) in
    let Q : Grid → Type 0 = λ g. IsFound c.args.self.now g in
    subst Q out (subst P l found)

pub returns-clause-only : goal.returns-clause-only
returns-clause-only c = λ g found.
    let s = c.self.inside in
    let l = looked s.rows s.cols s.count c.args.self.now s.all.items c.deref_mut.result.now c.self.invariant c.self.view_is c.requires.full c.deref_mut.ensures.value in
    let long : length c.solve_all-solved.new.out ≡ s.rows * s.cols = search rules in
    let rows : s.rows ≡ c.args.self.now.rows = ap (λ (v : Search). v.rows) c.self.view_is in
    let cols : s.cols ≡ c.args.self.now.cols = ap (λ (v : Search). v.cols) c.self.view_is in
    let out : lane_grid 1 0 s.rows s.cols c.solve_all-solved.new.out ≡ grid_of c.args.self.now.rows c.args.self.now.cols c.solve_all-solved.new.out =
    lane_grid-one s.rows s.cols c.solve_all-solved.new.out long
    ∙ ap (λ r. grid_of r s.cols c.solve_all-solved.new.out) rows ∙ ap (λ k. grid_of c.args.self.now.rows k c.solve_all-solved.new.out) cols in
    let yes : c.solve_all-solved.result ≡ true = (let no = c.if-not-solved.false in search rules) in
    let P : Search → Type 0 = λ v. IsFound v g in
    c.solve_all-solved.ensures.only yes 0 g (omega arith) (subst P (sym l) found) ∙ out

pub returns-clause-exact : goal.returns-clause-exact
returns-clause-exact c = (λ _. (grid_of c.args.self.now.rows c.args.self.now.cols c.solve_all-solved.new.out, returns-clause-found c), λ _. refl)
