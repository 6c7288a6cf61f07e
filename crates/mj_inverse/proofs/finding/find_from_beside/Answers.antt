use Rattle.std.proofs.Common.{rules, ◌≡◌, ◌*◌, ℕ, length}
use Rattle.mj_inverse.specs.Store.{lane_of}
use Rattle.mj_inverse.proofs.Found.{lane_taken}
use Rattle.mj_inverse.proofs.finding.find_from_beside.Goals as goal

pub returns-clause-exact : goal.returns-clause-exact
returns-clause-exact c = λ j h.
    let rows : ℕ = c.args.frame.rows in
    let cols : ℕ = c.args.frame.cols in
    let long : length c.copy_rows.new.out ≡ 8 * (rows * cols) = search rules in
    let taken = lane_taken rows cols c.args.frame.reach j c.find_from-answer.new.grid c.copy_rows.new.out h long c.copy_rows.ensures in
    (λ z. (_, c.find_from-answer.ensures.found j (lane_of 8 j (rows * cols) c.copy_rows.new.out) h z taken), λ g. (c.find_from-answer.ensures.complete j g.0 h g.1).0)

pub returns-clause-found : goal.returns-clause-found
returns-clause-found c = λ j h z.
    let rows : ℕ = c.args.frame.rows in
    let cols : ℕ = c.args.frame.cols in
    let long : length c.copy_rows.new.out ≡ 8 * (rows * cols) = search rules in
    c.find_from-answer.ensures.found j (lane_of 8 j (rows * cols) c.copy_rows.new.out) h z (lane_taken rows cols c.args.frame.reach j c.find_from-answer.new.grid c.copy_rows.new.out h long c.copy_rows.ensures)

pub returns-clause-only : goal.returns-clause-only
returns-clause-only c = λ j g h found.
    let rows : ℕ = c.args.frame.rows in
    let cols : ℕ = c.args.frame.cols in
    let long : length c.copy_rows.new.out ≡ 8 * (rows * cols) = search rules in
    (c.find_from-answer.ensures.complete j g h found).1 (lane_of 8 j (rows * cols) c.copy_rows.new.out) (lane_taken rows cols c.args.frame.reach j c.find_from-answer.new.grid c.copy_rows.new.out h long c.copy_rows.ensures)
