use Rattle.std.proofs.Common.{rules, arith, ◌≡◌, ◌+◌, ◌*◌, ℕ, get_or, length, sym, ap, ◌∙◌, subst}
use Rattle.rz_words.specs.Grid.{Grid}
use Rattle.mj_inverse.specs.declared.series.Series.{Series}
use Rattle.mj_inverse.specs.Rows.{Every, HaveValues, block_rows, value}
use Rattle.mj_inverse.specs.Series.{seq, angle, angles}
use Rattle.mj_inverse.specs.Store.{IsGiven}
use Rattle.mj_inverse.proofs.Exchanged.{arranged-back, every-arranged, every_given, length-arranged, differ-arranged, filled-arranged}
use Rattle.mj_inverse.proofs.Levels.{same_room}
use Rattle.mj_inverse.proofs.Stores.{every_to, every_angle, can_spread, spread_at, spread_angles, spread_length, spread_keeps, spread_differ, spread_values, values_spread, found_from_values, values_from_found, same_grid, filled_blank}
use Rattle.mj_inverse.proofs.store.solve_all.Goals as goal

pub total_angle-total-requires-clause-angles : goal.total_angle-total-requires-clause-angles
total_angle-total-requires-clause-angles c =
    every_angle c.args.unit c.args.rows c.args.cols c.sort.new.all
    (every-arranged (IsGiven c.args.unit c.args.rows c.args.cols) c.sort.ensures (every_given c.args.unit c.args.rows c.args.cols c.args.rows c.args.all.now (sym c.requires.full) c.requires.filled))

pub total_angle-total-requires-clause-few : goal.total_angle-total-requires-clause-few
total_angle-total-requires-clause-few c =
    let long : length c.sort.new.all ≡ c.args.rows = length-arranged c.sort.ensures ∙ c.requires.full in
    let few = c.requires.shape.few_rows in
    omega arith

pub reach-high-requires-clause-within : goal.reach-high-requires-clause-within
reach-high-requires-clause-within c =
    every_to c.args.unit c.args.rows c.args.cols c.sort.new.all c.requires.shape
    (every-arranged (IsGiven c.args.unit c.args.rows c.args.cols) c.sort.ensures (every_given c.args.unit c.args.rows c.args.cols c.args.rows c.args.all.now (sym c.requires.full) c.requires.filled))

pub reach-high-requires-clause-order : goal.reach-high-requires-clause-order
reach-high-requires-clause-order c =
    let long : length c.sort.new.all ≡ c.args.rows = length-arranged c.sort.ensures ∙ c.requires.full in
    let few = c.total_angle-total.ensures.few in
    let shape = c.requires.shape in
    let some = shape.some_row in
    omega arith

pub spread_all-requires-clause-may : goal.spread_all-requires-clause-may
spread_all-requires-clause-may c =
    let u : ℕ = c.args.unit in
    let rows : ℕ = c.args.rows in
    let cols : ℕ = c.args.cols in
    let long : length c.sort.new.all ≡ rows = length-arranged c.sort.ensures ∙ c.requires.full in
    let given : Every (IsGiven u rows cols) c.sort.new.all =
    every-arranged (IsGiven u rows cols) c.sort.ensures (every_given u rows cols rows c.args.all.now (sym c.requires.full) c.requires.filled) in
    let few = c.total_angle-total.ensures.few in
    let most = c.reach-high.ensures.most in
    let sum : c.total_angle-total.result ≡ angles c.sort.new.all = c.total_angle-total.ensures.value in
    can_spread u rows cols c.reach-high.result c.reach-high.result c.sort.new.all (omega arith) (omega arith) c.reach-high.ensures.each given

pub spread_all-requires-clause-limit : goal.spread_all-requires-clause-limit
spread_all-requires-clause-limit c =
    let long : length c.sort.new.all ≡ c.args.rows = length-arranged c.sort.ensures ∙ c.requires.full in
    let few = c.total_angle-total.ensures.few in
    let most = c.reach-high.ensures.most in
    let sum : c.total_angle-total.result ≡ angles c.sort.new.all = c.total_angle-total.ensures.value in
    let rows = c.requires.shape.few_rows in
    let cols = c.requires.shape.few_columns in
    omega arith

pub solve-requires-clause-at : goal.solve-requires-clause-at
solve-requires-clause-at c =
    let u : ℕ = c.args.unit in
    let rows : ℕ = c.args.rows in
    let cols : ℕ = c.args.cols in
    let high : ℕ = c.reach-high.result in
    let given : Every (IsGiven u rows cols) c.sort.new.all =
    every-arranged (IsGiven u rows cols) c.sort.ensures (every_given u rows cols rows c.args.all.now (sym c.requires.full) c.requires.filled) in
    spread_at u rows cols high 0 high c.sort.new.all c.spread_all.new.all (omega arith) given c.reach-high.ensures.each c.spread_all.ensures.spread c.spread_all.ensures.room

pub solve-requires-clause-differ : goal.solve-requires-clause-differ
solve-requires-clause-differ c =
    spread_differ c.args.unit c.sort.new.all c.spread_all.new.all (differ-arranged c.sort.ensures c.requires.differ) c.spread_all.ensures.spread

pub solve-requires-clause-high : goal.solve-requires-clause-high
solve-requires-clause-high c =
    let sum : c.total_angle-total.result ≡ angles c.spread_all.new.all =
    c.total_angle-total.ensures.value ∙ sym (spread_angles c.args.unit c.sort.new.all c.spread_all.new.all c.spread_all.ensures.spread) in
    let least = c.reach-high.ensures.least in
    omega arith

pub solve-requires-clause-columns : goal.solve-requires-clause-columns
solve-requires-clause-columns c =
    let long : length c.spread_all.new.all ≡ c.args.rows =
    spread_length c.args.unit c.sort.new.all c.spread_all.new.all c.spread_all.ensures.spread ∙ length-arranged c.sort.ensures ∙ c.requires.full in
    let least = c.reach-high.ensures.least in
    omega arith

pub solve-requires-clause-out : goal.solve-requires-clause-out
solve-requires-clause-out c =
    let long : length c.spread_all.new.all ≡ c.args.rows =
    spread_length c.args.unit c.sort.new.all c.spread_all.new.all c.spread_all.ensures.spread ∙ length-arranged c.sort.ensures ∙ c.requires.full in
    let e : c.args.cols * length c.spread_all.new.all ≡ c.args.rows * c.args.cols = ap (λ n. c.args.cols * n) long ∙ (let k : c.args.cols * c.args.rows ≡ c.args.rows * c.args.cols = omega arith in k) in
    c.requires.out ∙ ap (λ n. c.args.unit * n) (sym e)

pub returns-clause-filled : goal.returns-clause-filled
returns-clause-filled c =
    let u : ℕ = c.args.unit in
    let filled = filled-arranged u c.args.rows c.args.cols c.args.rows c.args.all.now c.sort.new.all c.sort.ensures (sym c.requires.full) c.requires.filled in
    let keeps = spread_keeps u c.sort.new.all c.spread_all.new.all c.spread_all.ensures.spread in
    filled_blank u c.args.rows c.args.cols c.args.rows c.sort.new.all c.solve.new.all filled c.solve.ensures.blank
    (same_room c.sort.new.all c.spread_all.new.all c.solve.new.all keeps c.solve.ensures.same)

pub returns-clause-found : goal.returns-clause-found
returns-clause-found c = λ yes j h.
    let u : ℕ = c.args.unit in
    let w : ℕ → ℕ = λ i. get_or c.solve.new.out (u * i + j) 0 in
    let P : ℕ → Type 0 = λ n. HaveValues angle (seq u j) (block_rows c.args.cols 0 n w) c.spread_all.new.all in
    let spread : length c.spread_all.new.all ≡ c.args.rows =
    spread_length u c.sort.new.all c.spread_all.new.all c.spread_all.ensures.spread ∙ length-arranged c.sort.ensures ∙ c.requires.full in
    let has : Series → Type 0 = λ s. value (angle s) (block_rows c.args.cols 0 c.args.rows w) ≡ seq u j s in
    let long : length c.solve.new.out ≡ u * (c.args.rows * c.args.cols) = search rules in
    found_from_values u c.args.rows c.args.cols j c.args.all.now c.requires.shape h c.requires.full c.requires.filled c.solve.new.out long
    (every-arranged has (arranged-back c.sort.ensures)
    (values_spread u j (block_rows c.args.cols 0 c.args.rows w) c.sort.new.all c.spread_all.new.all c.spread_all.ensures.spread (subst P spread (c.solve.ensures.exact yes j h))))

pub returns-clause-only : goal.returns-clause-only
returns-clause-only c = λ yes j g h found.
    let u : ℕ = c.args.unit in
    let w : ℕ → ℕ = λ i. get_or g.words i 0 in
    let v : ℕ → ℕ = λ i. get_or c.solve.new.out (u * i + j) 0 in
    let P : ℕ → Type 0 = λ n. HaveValues angle (seq u j) (block_rows c.args.cols 0 n w) c.spread_all.new.all in
    let Q : ℕ → Type 0 = λ n. block_rows c.args.cols 0 n w ≡ block_rows c.args.cols 0 n v in
    let spread : length c.spread_all.new.all ≡ c.args.rows =
    spread_length u c.sort.new.all c.spread_all.new.all c.spread_all.ensures.spread ∙ length-arranged c.sort.ensures ∙ c.requires.full in
    let has : Series → Type 0 = λ s. value (angle s) (block_rows c.args.cols 0 c.args.rows w) ≡ seq u j s in
    let values = every-arranged has c.sort.ensures (values_from_found u c.args.rows c.args.cols j c.args.all.now c.requires.shape h c.requires.full c.requires.filled g found) in
    let same = c.solve.ensures.only yes j w h
    (subst P (sym spread) (spread_values u j (block_rows c.args.cols 0 c.args.rows w) c.sort.new.all c.spread_all.new.all c.spread_all.ensures.spread values)) in
    let long : length c.solve.new.out ≡ u * (c.args.rows * c.args.cols) = search rules in
    same_grid u c.args.rows c.args.cols j c.args.all.now c.requires.shape h c.requires.full c.requires.filled g c.solve.new.out long found (subst Q spread same)

pub returns-clause-complete : goal.returns-clause-complete
returns-clause-complete c = λ each. c.solve.ensures.complete (λ j h.
    let u : ℕ = c.args.unit in
    let g : Grid = (each j h).0 in
    let w : ℕ → ℕ = λ i. get_or g.words i 0 in
    let P : ℕ → Type 0 = λ n. HaveValues angle (seq u j) (block_rows c.args.cols 0 n w) c.spread_all.new.all in
    let spread : length c.spread_all.new.all ≡ c.args.rows =
    spread_length u c.sort.new.all c.spread_all.new.all c.spread_all.ensures.spread ∙ length-arranged c.sort.ensures ∙ c.requires.full in
    let has : Series → Type 0 = λ s. value (angle s) (block_rows c.args.cols 0 c.args.rows w) ≡ seq u j s in
    let values = every-arranged has c.sort.ensures (values_from_found u c.args.rows c.args.cols j c.args.all.now c.requires.shape h c.requires.full c.requires.filled g (each j h).1) in
    (w, subst P (sym spread) (spread_values u j (block_rows c.args.cols 0 c.args.rows w) c.sort.new.all c.spread_all.new.all c.spread_all.ensures.spread values)))
