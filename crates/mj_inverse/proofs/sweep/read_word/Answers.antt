use Rattle.std.proofs.Common.{arith, ◌≡◌, ◌<◌, ◌≤◌, ◌+◌, ◌-◌, ◌*◌, ℕ, ℤ, List, ◌∙◌, get_or, subst}
use Rattle.mj_angles.specs.Projection.{bins, bin, offset, row_start}
use Rattle.std.proofs.Math.Nat.{add_assoc}
use Rattle.mj_angles.proofs.Sums.{row_within}
use Rattle.mj_inverse_sums.specs.Line.{line_sum}
use Rattle.mj_inverse.specs.Padded.{inner, width_of}
use Rattle.mj_inverse.proofs.Crossed.{line-is, line_fits, own_fits, other_words, still_padded}
use Rattle.mj_inverse.proofs.sweep.read_word.Goals as goal

pub write_sum-requires-clause-line : goal.write_sum-requires-clause-line
write_sum-requires-clause-line c = λ j h.
    let p : ℤ = c.args.s.now.direction in
    let b : ℕ = row_start p c.args.frame.rows c.args.n + c.args.k in
    let within : b < bins p c.args.frame.rows c.args.frame.cols = (let r = row_within p c.args.frame.rows c.args.frame.cols c.args.n c.requires.row in let m = c.requires.column in omega arith) in
    rw (c.requires.at, c.requires.step, c.requires.room, add_assoc (c.args.frame.reach - offset p c.args.frame.rows) (row_start p c.args.frame.rows c.args.n) c.args.k)
    (line_fits c.args.frame.rows c.args.frame.cols c.args.frame.reach p b j c.requires.lined.near c.requires.lined.reaches within h)

pub write_sum-requires-clause-own : goal.write_sum-requires-clause-own
write_sum-requires-clause-own c =
    rw (c.requires.own, c.requires.room, add_assoc (c.args.n * width_of c.args.frame.cols c.args.frame.reach) c.args.frame.reach c.args.k)
    (own_fits c.args.frame.rows c.args.frame.cols c.args.frame.reach c.args.n c.args.k c.requires.row c.requires.column)

pub returns-clause-here : goal.returns-clause-here
returns-clause-here c = λ i small.
    let rows : ℕ = c.args.frame.rows in
    let cols : ℕ = c.args.frame.cols in
    let reach : ℕ = c.args.frame.reach in
    let s = c.args.s.now in
    let p : ℤ = s.direction in
    let b : ℕ = row_start p rows c.args.n + c.args.k in
    let v : ℕ = width_of cols reach in
    let own : c.args.line.own + c.args.k ≡ c.args.n * v + (reach + c.args.k) = (let o = c.requires.own in omega arith) in
    let within : b < bins p rows cols = (let r = row_within p rows cols c.args.n c.requires.row in let m = c.requires.column in omega arith) in
    let sum : line_sum c.args.grid.now i rows (c.args.line.at + c.args.k) c.args.line.step ≡ bin (inner c.args.grid.now v reach i) rows cols p b =
    rw (c.requires.at, c.requires.step, add_assoc (reach - offset p rows) (row_start p rows c.args.n) c.args.k)
    (line-is c.args.grid.now i rows cols reach c.requires.padded small p b c.requires.lined.near c.requires.lined.reaches within) in
    let P : ℕ → Type 0 = λ x. get_or c.write_sum.new.grid (8 * x + i) 0 ≡ bin (inner c.args.grid.now v reach i) rows cols p b in
    subst P own (c.write_sum.ensures.here i small ∙ sum)

own_at : (own n v reach k : ℕ) → own ≡ n * v + reach → own + k ≡ n * v + (reach + k)
own_at own n v reach k e = omega arith

below_own : (old new : List ℕ) (x y : ℕ) → x ≡ y → ((k : ℕ) → k < 8 * x → get_or new k 0 ≡ get_or old k 0) → (k : ℕ) → k < 8 * y → get_or new k 0 ≡ get_or old k 0
below_own old new x y e below k h = below k (omega arith)

above_own : (old new : List ℕ) (x y : ℕ) → x ≡ y → ((k : ℕ) → 8 * x + 8 ≤ k → get_or new k 0 ≡ get_or old k 0) → (k : ℕ) → 8 * y + 8 ≤ k → get_or new k 0 ≡ get_or old k 0
above_own old new x y e above k h = above k (omega arith)

pub returns-clause-other : goal.returns-clause-other
returns-clause-other c =
    let e = own_at c.args.line.own c.args.n (width_of c.args.frame.cols c.args.frame.reach) c.args.frame.reach c.args.k c.requires.own in
    other_words c.args.frame.rows c.args.frame.cols c.args.frame.reach c.args.grid.now c.write_sum.new.grid c.args.n c.args.k c.requires.row c.requires.column
    (below_own c.args.grid.now c.write_sum.new.grid _ _ e c.write_sum.ensures.below) (above_own c.args.grid.now c.write_sum.new.grid _ _ e c.write_sum.ensures.above)

pub returns-clause-padded : goal.returns-clause-padded
returns-clause-padded c =
    let e = own_at c.args.line.own c.args.n (width_of c.args.frame.cols c.args.frame.reach) c.args.frame.reach c.args.k c.requires.own in
    still_padded c.args.frame.rows c.args.frame.cols c.args.frame.reach c.args.grid.now c.write_sum.new.grid c.args.n c.args.k c.requires.row c.requires.column
    (below_own c.args.grid.now c.write_sum.new.grid _ _ e c.write_sum.ensures.below) (above_own c.args.grid.now c.write_sum.new.grid _ _ e c.write_sum.ensures.above) c.requires.padded
