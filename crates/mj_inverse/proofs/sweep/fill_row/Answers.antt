use Rattle.std.proofs.Common.{arith, ◌≡◌, ◌≤◌, ◌+◌, ◌*◌, ℕ, get_or, ap, sym, ◌∙◌}
use Rattle.std.proofs.lemmas.Nat.{row_fits}
use Rattle.mj_angles.specs.Projection.{row_start}
use Rattle.mj_angles.proofs.Sums.{row_within}
use Rattle.mj_inverse.specs.Padded.{width_of}
use Rattle.mj_inverse.proofs.Crossed.{row_padded, row_kept}
use Rattle.mj_inverse.proofs.sweep.fill_row.Goals as goal

pub copy_words-requires-clause-from : goal.copy_words-requires-clause-from
copy_words-requires-clause-from c =
    let within = c.requires.given.within in
    let start = c.first_bin.ensures.value in
    let row = row_within c.args.s.now.direction c.args.frame.rows c.args.frame.cols c.args.n c.requires.row in
    omega arith

pub copy_words-requires-clause-to : goal.copy_words-requires-clause-to
copy_words-requires-clause-to c =
    let v : ℕ = width_of c.args.frame.cols c.args.frame.reach in
    let room = c.requires.room in
    let is = c.width.ensures in
    let row : c.args.n * v + v ≤ c.args.frame.rows * v = row_fits c.args.n v c.args.frame.rows v c.requires.row (omega arith) in
    rw is (omega arith)

pub returns-clause-here : goal.returns-clause-here
returns-clause-here c = λ i k small near.
    let v : ℕ = width_of c.args.frame.cols c.args.frame.reach in
    let s = c.args.s.now in
    let to : 8 * (c.args.n * v + c.args.frame.reach) + (8 * k + i) ≡ 8 * (c.args.n * v + (c.args.frame.reach + k)) + i = omega arith in
    let start = c.first_bin.ensures.value in
    let from : 8 * (s.from + c.first_bin.result) + (8 * k + i) ≡ 8 * (s.from + (row_start s.direction c.args.frame.rows c.args.n + k)) + i = omega arith in
    ap (λ x. get_or c.copy_words.new.out x 0) (sym to) ∙ ap (λ x. get_or c.copy_words.new.out (8 * (c.args.n * x + c.args.frame.reach) + (8 * k + i)) 0) (sym c.width.ensures)
    ∙ c.copy_words.ensures.inside (8 * k + i) (omega arith) ∙ ap (λ x. get_or c.args.words.now x 0) from

pub returns-clause-before : goal.returns-clause-before
returns-clause-before c =
    let is = c.width.ensures in
    row_kept c.args.frame.rows c.args.frame.cols c.args.frame.reach c.args.grid.now c.copy_words.new.out c.args.n c.requires.row (rw (sym is) c.copy_words.ensures.below) (rw (sym is) c.copy_words.ensures.above)

pub returns-clause-padded : goal.returns-clause-padded
returns-clause-padded c =
    let is = c.width.ensures in
    row_padded c.args.frame.rows c.args.frame.cols c.args.frame.reach c.args.grid.now c.copy_words.new.out c.args.n c.requires.row (rw (sym is) c.copy_words.ensures.below) (rw (sym is) c.copy_words.ensures.above) c.requires.padded
