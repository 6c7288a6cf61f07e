use Rattle.std.proofs.Common.{arith, ◌≡◌, ◌≢◌, ◌<◌, refl, length, below_more, get_or-set_same, get_or-set_other}
use Rattle.mj_inverse_four.proofs.take.take_each_fourth.Goals as goal

pub loop-k-preserved : goal.loop-k-preserved
loop-k-preserved c =
    let same : length c.loop-k.out ≡ length c.args.out.now = c.loop-k.auto.out in
    let within : c.loop-k.k < length c.loop-k.out = omega arith in
    below_more _ _ (λ k h. let ne : k ≢ c.loop-k.k = omega arith in rw get_or-set_other (c.loop-k.invariant k h)) (rw get_or-set_same refl)
