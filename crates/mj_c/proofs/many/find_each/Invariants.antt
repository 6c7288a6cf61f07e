use Rattle.std.proofs.Common.{◌≡◌, ◌<◌, ℕ}
use Rattle.mj_angles.specs.Layout.{inverse_of, cols_of}
use Rattle.mj_inverse.specs.Fits.{empty_search}
use Rattle.mj_c.specs.Layouts.{IsAnswered}
use Rattle.mj_c.proofs.many.find_each.Given as goal

abbrev pub invariant-loop-i : goal.invariant-loop-i
invariant-loop-i l = record {
  empty : l.work ≡ empty_search (inverse_of l.layout) (cols_of l.layout);
  found : (k : ℕ) → k < l.i → IsAnswered l.layout l.positions l.bins l.out k;
}
