use Rattle.std.proofs.Common.{arith, refl, ◌+◌}
use Rattle.mj_inverse_two.proofs.Running.{run_more}
use Rattle.mj_inverse_two.proofs.run.run_on.Goals as goal

pub loop-n-init : goal.loop-n-init
loop-n-init c = record { sums = c.requires.sums; below = λ k h. refl; above = λ k h. refl }

pub loop-n-preserved : goal.loop-n-preserved
loop-n-preserved c =
    run_more c.args.from c.args.step c.loop-n.n (c.args.from + c.loop-n.n) (c.loop-n.n + 1) c.args.a.now c.args.b.now c.args.row.now c.loop-n.row _ refl refl
    c.requires.some c.requires.before (omega arith) (omega arith) refl c.loop-n.invariant
