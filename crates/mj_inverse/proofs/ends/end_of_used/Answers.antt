use Rattle.std.proofs.Common.{rules, arith, ◌≡◌, ◌-◌, get_or}
use Rattle.mj_inverse.proofs.Trimmed.{zero_down}
use Rattle.mj_inverse.proofs.ends.end_of_used.Goals as goal

pub loop-n-init : goal.loop-n-init
loop-n-init c = λ t j low high small. absurd (omega arith)

pub loop-n-preserved : goal.loop-n-preserved
loop-n-preserved c =
    let less = c.loop-n-test.true in
    zero_down c.args.unit c.args.to c.loop-n.n (c.args.to - 1 - c.loop-n.n) (λ i. get_or c.args.words.now.items i 0) (omega arith) c.loop-n.invariant (c.if-not-is_zero_place.ensures (search rules))

pub returns-then-not-is_zero_place-clause-zero : goal.returns-then-not-is_zero_place-clause-zero
returns-then-not-is_zero_place-clause-zero c = λ t j low high small.
    let less = c.loop-n-test.true in
    c.loop-n.invariant t j (omega arith) high small

pub returns-clause-zero : goal.returns-clause-zero
returns-clause-zero c = λ t j low high small.
    let order = c.requires.order in
    let all : c.loop-n.n ≡ c.args.to - c.args.from = omega arith in
    c.loop-n.invariant t j (omega arith) high small
