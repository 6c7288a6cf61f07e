use Rattle.std.proofs.Common.{rules, ◌≡◌, length}
use Rattle.mj_inverse_sums.proofs.Lined.{added}
use Rattle.mj_inverse_sums.proofs.lines.add_difference.Goals as goal

pub returns : goal.returns
returns c = λ i small.
    let long : length c.sum_of_line-sum.result ≡ 8 = search rules in
    let rest : length c.args.rest ≡ 8 = search rules in
    added c.args.rest c.args.given.now c.sum_of_line-sum.result c.args.bin i _ c.requires.given rest long small (c.sum_of_line-sum.ensures i small)
