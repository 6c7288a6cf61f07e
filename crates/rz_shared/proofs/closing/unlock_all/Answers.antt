use Rattle.std.proofs.Common.{arith}
use Rattle.rz_shared.proofs.closing.unlock_all.Goals as goal

pub push_reserved-requires : goal.push_reserved-requires
push_reserved-requires g c =
    let popped = c.in-Some.ensures.cases in
    let count = c.loop-lock.invariant.0 in let room = c.loop-lock.invariant.1 in
    omega (arith, count, popped, room)

pub loop-lock-preserved : goal.loop-lock-preserved
loop-lock-preserved g c =
    let popped = c.in-Some.ensures.cases in
    let count = c.loop-lock.invariant.0 in let room = c.loop-lock.invariant.1 in
    let more = c.push_reserved.ensures.len in let same = c.push_reserved.ensures.capacity in
    (omega (arith, count, popped, more), omega (arith, room, same))
