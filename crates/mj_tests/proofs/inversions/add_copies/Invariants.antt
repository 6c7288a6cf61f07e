use Rattle.std.proofs.Common.{◌≡◌, ◌<◌, ◌+◌, ℕ, get_or, length}
use Rattle.mj_angles.specs.Layout.{angle_of}
use Rattle.mj_angles.specs.declared.layout.Layout.TheVariants.{L2}
use Rattle.mj_inverse.specs.Fits.{Pair}
use Rattle.mj_tests.proofs.inversions.add_copies.Given as goal

abbrev pub invariant-loop-i : goal.invariant-loop-i
invariant-loop-i g l = record {
  rows : l.work.rows ≡ 8;
  cols : l.work.cols ≡ 64;
  count : length l.work.pairs ≡ l.i;
  angles : (j : ℕ) (d : Pair) → j < l.i → (get_or l.work.pairs j d).0 ≡ angle_of L2 (l.first + j);
}
