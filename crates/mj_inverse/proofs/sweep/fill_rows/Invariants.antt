use Rattle.mj_inverse.specs.Padded.{AreBins, IsPadded}
use Rattle.mj_inverse.proofs.sweep.fill_rows.Given as goal

abbrev pub invariant-loop-n : goal.invariant-loop-n
invariant-loop-n l = record {
  padded : IsPadded l.frame.rows l.frame.cols l.frame.reach l.grid;
  filled : AreBins l.frame.rows l.frame.cols l.frame.reach l.words l.all l.grid l.n;
}
