use Rattle.std.proofs.Common.{arith, ◌≤◌, ◌-◌, ◌<◌, ◌^◌, length, drop}
use Rattle.std.proofs.lemmas.List.{length-drop}
use Rattle.rz_writer.proofs.Masks.{mask_of-small, mask_of-more, bit-of}
use Rattle.rz_writer.proofs.outcomes.mask_of.Goals as goal

below : (c : goal.In-loop-i) → c.loop-i.mask < 2 ^ 15
below c =
    let rest : length (drop c.loop-i.i c.args.why.now) ≤ 15 = omega (arith, length-drop c.loop-i.i c.args.why.now) in
    omega (arith, c.loop-i.invariant, mask_of-small (drop c.loop-i.i c.args.why.now) rest)

pub overflow_mul-mask : goal.overflow_mul-mask
overflow_mul-mask c = omega (arith, below c)

pub overflow_add-mask : goal.overflow_add-mask
overflow_add-mask c =
    let rest : length (drop c.loop-i.i c.args.why.now) ≤ 15 = omega (arith, length-drop c.loop-i.i c.args.why.now) in
    let small = mask_of-small (drop c.loop-i.i c.args.why.now) rest in
    let bit : c.from.result ≤ 1 = bit-of _ c.is_kept.result c.from.ensures in
    omega (arith, c.loop-i.invariant, small, bit)

pub loop-i-preserved : goal.loop-i-preserved
loop-i-preserved c = mask_of-more c.args.why.now (c.loop-i.i - 1) c.loop-i.mask c.from.result c.loop-i.i c.is_kept.result (omega arith) c.from.ensures c.is_kept.ensures c.loop-i.invariant (omega arith)
