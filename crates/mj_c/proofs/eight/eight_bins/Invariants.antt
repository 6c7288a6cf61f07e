use Rattle.std.proofs.Common.{◌≡◌, ◌≤◌, ◌*◌, take}
use Rattle.std.specs.List.{sum_by}
use Rattle.mj_angles.specs.Layout.{bins_at_of}
use Rattle.mj_c.proofs.eight.eight_bins.Given as goal

abbrev pub invariant-loop-position : goal.invariant-loop-position
invariant-loop-position l = record {
  sum : l.total ≡ sum_by (λ i. 8 * bins_at_of l.layout i) (take l.position-index l.positions);
  small : l.total ≤ 16832 * l.position-index;
}
