use Rattle.mj_inverse_four.specs.Rows.{IsPadded}
use Rattle.mj_inverse_four.proofs.frame.clear_between.Given as goal

abbrev pub invariant-loop-l : goal.invariant-loop-l
invariant-loop-l v = IsPadded v.l v.frame.cols v.frame.reach v.grid
