use Rattle.std.proofs.Common.{arith, ◌<◌, ◌+◌, ◌-◌, ℕ, length, get_or, ap, ◌∙◌}
use Rattle.mj_angles.specs.Projection.{offset, row_start}
use Rattle.mj_inverse.specs.declared.placed.Placed.{Placed}
use Rattle.mj_inverse.specs.Padded.{IsLined, step_of, width_of}
use Rattle.mj_inverse.proofs.Falling.{angles_fall, every_at, direction_here, default_free, no_projection}
use Rattle.mj_inverse.proofs.Swept.{swept_more}
use Rattle.mj_inverse.proofs.sweep.read_next.Goals as goal

pub read_word-requires-clause-lined : goal.read_word-requires-clause-lined
read_word-requires-clause-lined c =
    let s : Placed = get_or c.args.all.now c.args.n no_projection in
    let long : c.args.n < length c.args.all.now = (let count = c.requires.count in let h = c.requires.row in omega arith) in
    every_at (IsLined c.args.frame.rows c.args.frame.reach) c.args.all.now c.args.n s long (default_free c.args.all.now c.args.n no_projection s long) c.requires.lined

pub read_word-requires-clause-at : goal.read_word-requires-clause-at
read_word-requires-clause-at c =
    let s : Placed = get_or c.args.all.now c.args.n no_projection in
    let long : c.args.n < length c.args.all.now = (let count = c.requires.count in let h = c.requires.row in omega arith) in
    c.requires.lines.ats c.args.n c.requires.row
    ∙ ap (λ p. c.args.frame.reach - offset p c.args.frame.rows + row_start p c.args.frame.rows c.args.n) (direction_here c.args.all.now c.args.n s long (default_free c.args.all.now c.args.n no_projection s long))

pub read_word-requires-clause-step : goal.read_word-requires-clause-step
read_word-requires-clause-step c =
    let s : Placed = get_or c.args.all.now c.args.n no_projection in
    let long : c.args.n < length c.args.all.now = (let count = c.requires.count in let h = c.requires.row in omega arith) in
    c.requires.lines.steps c.args.n c.requires.row ∙ ap (λ p. step_of (width_of c.args.frame.cols c.args.frame.reach) p) (direction_here c.args.all.now c.args.n s long (default_free c.args.all.now c.args.n no_projection s long))

pub read_word-requires-clause-own : goal.read_word-requires-clause-own
read_word-requires-clause-own c = c.requires.lines.owns c.args.n c.requires.row

pub returns-clause-swept : goal.returns-clause-swept
returns-clause-swept c = λ ws t is before.
    let rows : ℕ = c.args.frame.rows in
    let s : Placed = get_or c.args.all.now c.args.n no_projection in
    let long : c.args.n < length c.args.all.now = (let count = c.requires.count in let h = c.requires.row in omega arith) in
    let here = default_free c.args.all.now c.args.n no_projection s long in
    swept_more rows c.args.frame.cols c.args.frame.reach ws c.args.all.now c.args.grid.now c.read_word.new.grid t c.args.n c.args.k s.direction (angles_fall rows c.args.frame.reach c.args.all.now c.requires.count c.requires.lined c.requires.falls)
    c.requires.row c.requires.column is (direction_here c.args.all.now c.args.n s long here) c.read_word.ensures.here c.read_word.ensures.other before
