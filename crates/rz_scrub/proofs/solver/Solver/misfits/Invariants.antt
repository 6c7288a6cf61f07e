use Rattle.std.proofs.Common.{◌≡◌}
use Rattle.std.specs.Prelude.{count_by}
use Rattle.std.specs.List.{range_with_len}
use Rattle.rz_scrub.specs.Misfits.{is_misfit}
use Rattle.rz_scrub.proofs.solver.Solver.misfits.Given as goal

abbrev pub invariant-loop-position : goal.invariant-loop-position
invariant-loop-position l = record {
  layout : l.self ≡ l.initial.self;
  count : l.count ≡ count_by (is_misfit l.records l.block) (range_with_len 0 l.position);
}
