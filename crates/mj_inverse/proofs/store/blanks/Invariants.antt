use Rattle.std.proofs.Common.{◌≡◌, length}
use Rattle.mj_inverse.specs.Store.{IsFilled}
use Rattle.mj_inverse.proofs.store.blanks.Given as goal

abbrev pub invariant-loop-i : goal.invariant-loop-i
invariant-loop-i l = record {
  filled : IsFilled l.unit l.rows l.cols 0 l.all.items;
  count : length l.all.items ≡ l._i;
}
