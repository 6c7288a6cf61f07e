use Rattle.std.proofs.Common.{◌≤◌, ◌-◌, length, map}
use Rattle.mj_angles.specs.Layout.{inverse_of, cols_of, angle_of}
use Rattle.mj_inverse_four.specs.Fragments.{fragment_search}
use Rattle.mj_c.specs.Layouts.{IsDone, block_known}
use Rattle.mj_c.proofs.fragments.find_in.Given as goal

abbrev pub invariant-groups : goal.invariant-groups
invariant-groups l = record {
  within : l.first ≤ length l.fn.lost;
  done : IsDone l.layout (block_known l.layout (fragment_search (inverse_of l.layout) (cols_of l.layout) (map (angle_of l.layout) l.positions) l.parts l.strides) l.fn.out) (length l.fn.lost) l.first l.fn.out l.out l.lost;
}

abbrev pub decreases-groups : goal.decreases-groups
decreases-groups l = length l.initial.lost - l.first
