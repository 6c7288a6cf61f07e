use Rattle.std.proofs.Common.{arith, sym}
use Rattle.mj_inverse.proofs.Crossed.{copied_more}
use Rattle.mj_inverse.proofs.finding.copy_rows.Goals as goal

pub loop-l-preserved : goal.loop-l-preserved
loop-l-preserved c =
    copied_more c.args.frame.rows c.args.frame.cols c.args.frame.reach c.args.grid.now c.loop-l.out c.copy_words.new.out c.loop-l.l (omega arith) (rw (sym c.width.ensures) c.copy_words.ensures.inside) c.copy_words.ensures.below c.loop-l.invariant
