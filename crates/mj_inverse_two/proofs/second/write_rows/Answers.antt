use Rattle.std.proofs.Common.{rules, arith, ◌≡◌, ◌+◌, ◌-◌, ◌∙◌, ℕ, length, get_or, ap}
use Rattle.std.specs.Prelude.{bit_xor, slice_range}
use Rattle.std.proofs.lemmas.List.{places}
use Rattle.mj_inverse_two.proofs.Written.{first_is}
use Rattle.mj_inverse_two.proofs.second.write_rows.Goals as goal

pub returns-clause-first : goal.returns-clause-first
returns-clause-first c =
    let cols : ℕ = c.args.cols in
    let q0 : ℕ = c.args.q.first in
    let q1 : ℕ = c.args.q.second in
    let n : ℕ = c.args.cols - c.args.q.first - c.args.q.second in
    let few = c.requires.few in
    let wide = c.requires.wide in
    let long_b = c.requires.b in
    let long_row = c.requires.row in
    let long : length (slice_range c.args.b.now (q0 + q1) (q0 + q1 + n)) ≡ n = search (rules, places) in
    first_is c.args.cols c.args.q c.args.b.now c.args.row.now c.copy_words-3.new.out c.requires.one c.requires.few c.requires.wide
    (λ k h. c.copy_words-3.ensures.below k (omega arith) ∙ c.copy_words-2.ensures.below k (omega arith) ∙ c.add_words.ensures.below k h ∙ ap (λ x. get_or c.copy_words.new.out x 0) (let e : k ≡ 0 + k = omega arith in e) ∙ c.copy_words.ensures.inside k h)
    (λ k h. c.copy_words-3.ensures.below (q1 + k) (omega arith) ∙ c.copy_words-2.ensures.below (q1 + k) (omega arith) ∙ c.add_words.ensures.inside k (omega arith)
    ∙ ap (λ x. bit_xor x (get_or (slice_range c.args.row.now (32 + q0) (32 + q0 + n)) k 0))
    (let at : get_or (slice_range c.args.b.now (q0 + q1) (q0 + q1 + n)) k 0 ≡ get_or c.args.b.now (q0 + q1 + k) 0 = search (rules, places) in at)
    ∙ ap (bit_xor (get_or c.args.b.now (q0 + q1 + k) 0))
    (let at : get_or (slice_range c.args.row.now (32 + q0) (32 + q0 + n)) k 0 ≡ get_or c.args.row.now (32 + q0 + k) 0 = search (rules, places) in at))
    (λ k h. c.copy_words-3.ensures.below (cols - q0 + k) (omega arith) ∙ c.copy_words-2.ensures.inside k h)
