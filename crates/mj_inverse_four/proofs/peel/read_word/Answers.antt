use Rattle.std.proofs.Common.{arith, ◌≡◌, ◌<◌, ◌≤◌, ◌+◌, ◌-◌, ◌*◌, ℕ, ℤ, List, ◌∙◌, get_or, subst}
use Rattle.mj_angles.specs.Projection.{bins, bin, offset, row_start}
use Rattle.mj_angles.proofs.Sums.{row_within}
use Rattle.mj_inverse_four.specs.Rows.{direction_of, inner, width_of}
use Rattle.mj_inverse_four.proofs.Crossed.{line-is, line_fits, own_fits, other_words, still_padded}
use Rattle.mj_inverse_four.proofs.peel.read_word.Goals as goal

line_at : (at reach off start k : ℕ) → at ≡ 4 * (reach - off + start) → at + 4 * k ≡ 4 * (reach - off + (start + k))
line_at at reach off start k e = omega arith

own_at : (own n v reach k : ℕ) → own ≡ 4 * (n * v + reach) → own + 4 * k ≡ 4 * (n * v + (reach + k))
own_at own n v reach k e = omega arith

pub sum_of_line-sum-requires : goal.sum_of_line-sum-requires
sum_of_line-sum-requires c = λ j h.
    let rows : ℕ = c.args.frame.rows in
    let cols : ℕ = c.args.frame.cols in
    let reach : ℕ = c.args.frame.reach in
    let p : ℤ = direction_of rows c.args.angles.now c.args.n in
    let b : ℕ = row_start (direction_of rows c.args.angles.now c.args.n) rows c.args.n + c.args.k in
    let at = line_at _ reach (offset (direction_of rows c.args.angles.now c.args.n) rows) (row_start (direction_of rows c.args.angles.now c.args.n) rows c.args.n) c.args.k (c.requires.lines.ats c.args.n c.requires.row) in
    let within : b < bins (direction_of rows c.args.angles.now c.args.n) rows cols = (let r = row_within (direction_of rows c.args.angles.now c.args.n) rows cols c.args.n c.requires.row in let m = c.requires.column in omega arith) in
    let fits = line_fits rows cols reach p b j _ _ at (c.requires.lines.steps c.args.n c.requires.row)
    (c.requires.angles.near (rows - 1 - c.args.n) (let r = c.requires.row in omega arith)) (c.requires.angles.reaches (rows - 1 - c.args.n) (let r = c.requires.row in omega arith)) within h in
    rw c.requires.room fits

pub put_four-requires : goal.put_four-requires
put_four-requires c =
    let own = own_at _ c.args.n (width_of c.args.frame.cols c.args.frame.reach) c.args.frame.reach c.args.k (c.requires.lines.owns c.args.n c.requires.row) in
    rw (own, c.requires.room) (own_fits c.args.frame.rows c.args.frame.cols c.args.frame.reach c.args.n c.args.k c.requires.row c.requires.column)

pub returns-clause-here : goal.returns-clause-here
returns-clause-here c = λ i small.
    let rows : ℕ = c.args.frame.rows in
    let cols : ℕ = c.args.frame.cols in
    let reach : ℕ = c.args.frame.reach in
    let p : ℤ = direction_of rows c.args.angles.now c.args.n in
    let b : ℕ = row_start (direction_of rows c.args.angles.now c.args.n) rows c.args.n + c.args.k in
    let v : ℕ = width_of cols reach in
    let own = own_at _ c.args.n (width_of c.args.frame.cols c.args.frame.reach) c.args.frame.reach c.args.k (c.requires.lines.owns c.args.n c.requires.row) in
    let at = line_at _ reach (offset (direction_of rows c.args.angles.now c.args.n) rows) (row_start (direction_of rows c.args.angles.now c.args.n) rows c.args.n) c.args.k (c.requires.lines.ats c.args.n c.requires.row) in
    let within : b < bins (direction_of rows c.args.angles.now c.args.n) rows cols = (let r = row_within (direction_of rows c.args.angles.now c.args.n) rows cols c.args.n c.requires.row in let m = c.requires.column in omega arith) in
    let sum = line-is c.args.grid.now i rows cols reach c.requires.padded small p b _ _ at (c.requires.lines.steps c.args.n c.requires.row)
    (c.requires.angles.near (rows - 1 - c.args.n) (let r = c.requires.row in omega arith)) (c.requires.angles.reaches (rows - 1 - c.args.n) (let r = c.requires.row in omega arith)) within in
    let P : ℕ → Type 0 = λ x. get_or c.put_four.new.out (x + i) 0 ≡ bin (inner c.args.grid.now v reach i) rows cols p b in
    subst P own (c.put_four.ensures.here i small ∙ c.sum_of_line-sum.ensures i small ∙ sum)

below_own : (old new : List ℕ) (x y : ℕ) → x ≡ y → ((k : ℕ) → k < x → get_or new k 0 ≡ get_or old k 0) → (k : ℕ) → k < y → get_or new k 0 ≡ get_or old k 0
below_own old new x y e below k h = below k (omega arith)

above_own : (old new : List ℕ) (x y : ℕ) → x ≡ y → ((k : ℕ) → x + 4 ≤ k → get_or new k 0 ≡ get_or old k 0) → (k : ℕ) → y + 4 ≤ k → get_or new k 0 ≡ get_or old k 0
above_own old new x y e above k h = above k (omega arith)

pub returns-clause-other : goal.returns-clause-other
returns-clause-other c =
    let e = own_at _ c.args.n (width_of c.args.frame.cols c.args.frame.reach) c.args.frame.reach c.args.k (c.requires.lines.owns c.args.n c.requires.row) in
    other_words c.args.frame.rows c.args.frame.cols c.args.frame.reach c.args.grid.now c.put_four.new.out c.args.n c.args.k c.requires.row c.requires.column
    (below_own c.args.grid.now c.put_four.new.out _ _ e c.put_four.ensures.below) (above_own c.args.grid.now c.put_four.new.out _ _ e c.put_four.ensures.above)

pub returns-clause-padded : goal.returns-clause-padded
returns-clause-padded c =
    let e = own_at _ c.args.n (width_of c.args.frame.cols c.args.frame.reach) c.args.frame.reach c.args.k (c.requires.lines.owns c.args.n c.requires.row) in
    still_padded c.args.frame.rows c.args.frame.cols c.args.frame.reach c.args.grid.now c.put_four.new.out c.args.n c.args.k c.requires.row c.requires.column
    (below_own c.args.grid.now c.put_four.new.out _ _ e c.put_four.ensures.below) (above_own c.args.grid.now c.put_four.new.out _ _ e c.put_four.ensures.above) (c.args.frame.rows + 1) c.requires.padded
