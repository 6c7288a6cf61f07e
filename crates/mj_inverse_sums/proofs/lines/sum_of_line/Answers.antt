use Rattle.std.proofs.Common.{arith, ◌≡◌, ap, ◌∙◌}
use Rattle.mj_inverse_sums.specs.Line.{line_sum}
use Rattle.mj_inverse_sums.proofs.Lined.{line_more}
use Rattle.mj_inverse_sums.proofs.lines.sum_of_line.Goals as goal

pub loop-j-preserved : goal.loop-j-preserved
loop-j-preserved c = λ i small.
    line_more c.args.grid.now c.loop-j.sum c.args.at c.args.step c.loop-j.j i c.loop-j.auto.sum.0 (c.requires c.loop-j.j c.loop-j-test.true) small (c.loop-j.invariant i small)

pub returns : goal.returns
returns c = λ i small.
    let all : c.loop-j.j ≡ c.args.n = omega arith in
    c.loop-j.invariant i small ∙ ap (λ n. line_sum c.args.grid.now i n c.args.at c.args.step) all
