use Rattle.std.proofs.Common.{arith, ◌≡◌, ◌≤◌, ◌<◌, ◌+◌, ◌*◌, ◌/◌, ℕ, get_or, ap, ◌∙◌}
use Rattle.std.proofs.lemmas.Nat.{row_fits}
use Rattle.mj_inverse_four.specs.Rows.{width_of}
use Rattle.mj_inverse_four.proofs.Crossed.{row_padded, row_kept}
use Rattle.mj_inverse_four.proofs.fill.fill_row.Goals as goal

pub bring_together-requires-clause-within : goal.bring_together-requires-clause-within
bring_together-requires-clause-within c = λ i small. let w = c.requires.within i small in omega arith

pub bring_together-requires-clause-out : goal.bring_together-requires-clause-out
bring_together-requires-clause-out c =
    let v : ℕ = width_of c.args.frame.cols c.args.frame.reach in
    let room = c.requires.room in
    let row : c.args.n * v + v ≤ c.args.frame.rows * v = row_fits c.args.n v c.args.frame.rows v c.requires.row (omega arith) in
    rw c.width.ensures (omega arith)

below_own : (n w v reach m : ℕ) → w ≡ v → m < 4 * (n * v + reach) → m < 4 * (n * w + reach)
below_own n w v reach m e h = let d : n * w ≡ n * v = ap (λ x. n * x) e in omega arith

above_own : (n w v reach cols m : ℕ) → w ≡ v → cols / 8 * 8 ≡ cols → 4 * (n * v + reach) + 4 * cols ≤ m → 4 * (n * w + reach) + 8 * (cols / 2) ≤ m
above_own n w v reach cols m e eights h = let d : n * w ≡ n * v = ap (λ x. n * x) e in omega arith

pub returns-clause-here : goal.returns-clause-here
returns-clause-here c = λ i k small near.
    let v : ℕ = width_of c.args.frame.cols c.args.frame.reach in
    let d : c.args.n * c.width.result ≡ c.args.n * v = ap (λ x. c.args.n * x) c.width.ensures in
    let to : 4 * (c.args.n * v + (c.args.frame.reach + k)) + i ≡ 4 * (c.args.n * c.width.result + c.args.frame.reach) + 4 * k + i = omega arith in
    let eights = c.requires.eights in
    ap (λ x. get_or c.bring_together.new.out x 0) to ∙ c.bring_together.ensures.inside k i (omega arith) small

pub returns-clause-before : goal.returns-clause-before
returns-clause-before c =
    row_kept c.args.frame.rows c.args.frame.cols c.args.frame.reach c.args.grid.now c.bring_together.new.out c.args.n c.requires.row
    (λ m h. c.bring_together.ensures.below m (below_own c.args.n c.width.result _ c.args.frame.reach m c.width.ensures h))
    (λ m h. c.bring_together.ensures.above m (above_own c.args.n c.width.result _ c.args.frame.reach c.args.frame.cols m c.width.ensures c.requires.eights h))

pub returns-clause-padded : goal.returns-clause-padded
returns-clause-padded c =
    row_padded c.args.frame.rows c.args.frame.cols c.args.frame.reach c.args.grid.now c.bring_together.new.out c.args.n c.requires.row
    (λ m h. c.bring_together.ensures.below m (below_own c.args.n c.width.result _ c.args.frame.reach m c.width.ensures h))
    (λ m h. c.bring_together.ensures.above m (above_own c.args.n c.width.result _ c.args.frame.reach c.args.frame.cols m c.width.ensures c.requires.eights h)) (c.args.frame.rows + 1) c.requires.padded
