use Rattle.std.proofs.Common.{◌≡◌, ◌≤◌, ◌*◌, ◌-◌}
use Rattle.mj_angles.proofs.Order.{lifted, slope_sum}
use Rattle.mj_inverse.specs.Padded.{AreLines, direction_at}
use Rattle.mj_inverse.proofs.lines.fill_lines.Given as goal

abbrev pub invariant-loop-l : goal.invariant-loop-l
invariant-loop-l v = record {
  sum : v.sum ≡ slope_sum (λ j. lifted 16 (direction_at v.all j)) (v.l - 1);
  small : v.sum ≤ 32 * v.l;
  are : AreLines v.frame.rows v.frame.cols v.frame.reach (direction_at v.all) v.lines v.l;
}
