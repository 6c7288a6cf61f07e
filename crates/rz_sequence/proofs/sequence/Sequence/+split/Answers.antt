use Rattle.std.proofs.Common.{◌-◌, arith}
use Rattle.rz_sequence.proofs.Places.{take_behind, drop_behind}
use Rattle.rz_sequence.proofs.sequence.Sequence.+split.Goals as goal

pub returns-else-at-before-clause-front : goal.returns-else-at-before-clause-front
returns-else-at-before-clause-front g t c =
    let top = c.in-Some.ensures in
    take_behind _ _ _ _ _ (c.args.at - c.len-before.result - 1) _ _ top.0 top.1 (omega (arith, c.len-before.ensures, c.if-at-before.false)) c.split-front-else-at-before.ensures.front c.joined-else-at-before.ensures

pub returns-else-at-before-clause-back : goal.returns-else-at-before-clause-back
returns-else-at-before-clause-back g t c =
    let p = c.in-Some.parts in
    let top = c.in-Some.ensures in
    drop_behind _ p.left p.middle.value p.right _ (c.args.at - c.len-before.result - 1) _ top.0 top.1 (omega (arith, c.len-before.ensures, c.if-at-before.false)) c.split-front-else-at-before.ensures.back
