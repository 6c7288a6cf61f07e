use Rattle.std.proofs.Common.{rules, arith, ◌≡◌, ◌+◌, ◌*◌, ap, ◌∙◌, sym, length, get_or}
use Rattle.std.specs.Prelude.{bit_xor}
use Rattle.std.proofs.lemmas.Simd.{get_or-zip2}
use Rattle.mj_angles.proofs.Sums.{xor_below-more}
use Rattle.mj_inverse_four.specs.Rows.{line_sum}
use Rattle.mj_inverse_four.proofs.peel.sum_of_line.Goals as goal

pub loop-j-preserved : goal.loop-j-preserved
loop-j-preserved c = λ i small.
    let long : length c.loop-j.sum ≡ 4 = c.loop-j.auto.sum.0 in
    let four : length c.four_at-sum.result ≡ 4 = search rules in
    get_or-zip2 bit_xor c.loop-j.sum c.four_at-sum.result i 0 0 0 (omega arith) (omega arith)
    ∙ ap (λ w. bit_xor w (get_or c.four_at-sum.result i 0)) (c.loop-j.invariant i small)
    ∙ ap (bit_xor (line_sum c.args.grid.now i c.loop-j.j c.args.at c.args.step)) (c.four_at-sum.ensures i small)
    ∙ sym (xor_below-more c.loop-j.j (λ j. get_or c.args.grid.now (c.args.at + j * c.args.step + i) 0))

pub returns : goal.returns
returns c = λ i small.
    let all : c.loop-j.j ≡ c.args.n = omega arith in
    c.loop-j.invariant i small ∙ ap (λ n. line_sum c.args.grid.now i n c.args.at c.args.step) all
