use Rattle.std.proofs.Common.{rules, arith, ◌≡◌, ◌+◌, ◌-◌, ◌∙◌, ℕ, length, get_or, ap}
use Rattle.std.specs.Prelude.{bit_xor, slice_range}
use Rattle.std.proofs.lemmas.List.{places}
use Rattle.mj_inverse_two.proofs.Written.{second_is}
use Rattle.mj_inverse_two.proofs.second.read_second.Goals as goal

pub returns-clause-second : goal.returns-clause-second
returns-clause-second c =
    let cols : ℕ = c.args.cols in
    let p0 : ℕ = c.args.p.first in
    let p1 : ℕ = c.args.p.second in
    let q0 : ℕ = c.args.q.first in
    let n : ℕ = c.args.cols - c.args.p.first - c.args.p.second in
    let p_few = c.requires.p_few in
    let q_few = c.requires.q_few in
    let wide = c.requires.wide in
    let long_a = c.requires.a in
    let long_b = c.requires.b in
    let order = c.requires.order in
    let long : length (slice_range c.args.a.now (p0 + p1) (p0 + p1 + n)) ≡ n = search (rules, places) in
    second_is c.args.cols c.args.p c.args.q c.args.a.now c.args.b.now c.run.new.row c.requires.p_one c.requires.p_few c.requires.q_few c.requires.order c.requires.wide
    (λ k h. c.run.ensures.below k (omega arith) ∙ c.copy_words-2.ensures.below k (omega arith) ∙ c.copy_words.ensures.below k h ∙ c.requires.zero k h)
    (λ k h. c.run.ensures.below (32 + k) (omega arith) ∙ c.copy_words-2.ensures.below (32 + k) (omega arith) ∙ c.copy_words.ensures.inside k h)
    (λ k h. c.run.ensures.sums k (omega arith)
    ∙ ap (λ x. bit_xor (bit_xor x (get_or (slice_range c.args.b.now (q0 + p1) (q0 + p1 + n)) k 0)) (get_or c.run.new.row (32 + p0 + k - (p0 + c.args.q.second - p1 - q0)) 0))
    (let at : get_or (slice_range c.args.a.now (p0 + p1) (p0 + p1 + n)) k 0 ≡ get_or c.args.a.now (p0 + p1 + k) 0 = search (rules, places) in at)
    ∙ ap (λ x. bit_xor (bit_xor (get_or c.args.a.now (p0 + p1 + k) 0) x) (get_or c.run.new.row (32 + p0 + k - (p0 + c.args.q.second - p1 - q0)) 0))
    (let at : get_or (slice_range c.args.b.now (q0 + p1) (q0 + p1 + n)) k 0 ≡ get_or c.args.b.now (q0 + p1 + k) 0 = search (rules, places) in at))
    (λ k h. c.run.ensures.above (32 + (cols - p1) + k) (omega arith) ∙ c.copy_words-2.ensures.inside k h)
