use Rattle.std.proofs.Common.{◌≡◌, ◌≤◌, ◌*◌, ◌-◌}
use Rattle.mj_angles.proofs.Order.{lifted, slope_sum}
use Rattle.mj_inverse_four.specs.Rows.{AreLines, direction_of}
use Rattle.mj_inverse_four.proofs.lines.fill_lines.Given as goal

abbrev pub invariant-loop-l : goal.invariant-loop-l
invariant-loop-l v = record {
  sum : v.sum ≡ slope_sum (λ j. lifted 16 (direction_of v.frame.rows v.angles j)) (v.l - 1);
  small : v.sum ≤ 32 * v.l;
  are : AreLines v.frame.rows v.frame.cols v.frame.reach (direction_of v.frame.rows v.angles) v.lines v.l;
}
