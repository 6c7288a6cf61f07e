use Rattle.mj_inverse.specs.Padded.{IsPadded}
use Rattle.mj_inverse.proofs.lent.clear_beside.Given as goal

abbrev pub invariant-loop-l : goal.invariant-loop-l
invariant-loop-l v = IsPadded v.l v.frame.cols v.frame.reach v.grid
