use Rattle.std.proofs.Common.{rules, arith, ◌≡◌, get_or}
use Rattle.mj_inverse.proofs.Trimmed.{zero_up}
use Rattle.mj_inverse.proofs.ends.first_used.Goals as goal

pub loop-t-preserved : goal.loop-t-preserved
loop-t-preserved c =
    zero_up c.args.unit c.args.from c.loop-t.t (λ i. get_or c.args.words.now.items i 0) c.loop-t.invariant (c.if-not-is_zero_place.ensures (search rules))

pub returns-then-not-is_zero_place-clause-zero : goal.returns-then-not-is_zero_place-clause-zero
returns-then-not-is_zero_place-clause-zero c = c.loop-t.invariant

pub returns-clause-zero : goal.returns-clause-zero
returns-clause-zero c = λ t j low high small.
    let order = c.requires.order in
    let all : c.loop-t.t ≡ c.args.to = omega arith in
    c.loop-t.invariant t j low (omega arith) small
