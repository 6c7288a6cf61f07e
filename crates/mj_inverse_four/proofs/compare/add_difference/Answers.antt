use Rattle.std.proofs.Common.{rules, arith, ◌≡◌, ap, ◌∙◌, ℕ, List, length, get_or}
use Rattle.std.specs.Prelude.{bit_or, bit_xor}
use Rattle.std.specs.Simd.Lanes.{zip2}
use Rattle.std.proofs.lemmas.Simd.{get_or-zip2, length-zip2}
use Rattle.mj_inverse_four.proofs.compare.add_difference.Goals as goal

pub returns : goal.returns
returns c = λ i small.
    let sum : List ℕ = c.sum_of_line.result in
    let long : length c.sum_of_line.result ≡ 4 = search rules in
    let four : length c.args.four ≡ 4 = search rules in
    let rest : length c.args.rest ≡ 4 = search rules in
    let both : length (zip2 bit_xor c.args.four c.sum_of_line.result) ≡ 4 = length-zip2 bit_xor c.args.four c.sum_of_line.result (omega arith) ∙ four in
    get_or-zip2 bit_or c.args.rest (zip2 bit_xor c.args.four c.sum_of_line.result) i 0 0 0 (omega arith) (omega arith)
    ∙ ap (bit_or (get_or c.args.rest i 0)) (get_or-zip2 bit_xor c.args.four c.sum_of_line.result i 0 0 0 (omega arith) (omega arith) ∙ ap (bit_xor (get_or c.args.four i 0)) (c.sum_of_line.ensures i small))
