use Rattle.std.proofs.Common.{arith}
use Rattle.std.specs.Ordering.{is_gt}
use Rattle.rz_export_model.specs.Paths.{path_cmp}
use Rattle.rz_names.proofs.Sorted.{run_le}
use Rattle.rz_names.proofs.entries.place_of.Goals as goal

pub returns-clause-within : goal.returns-clause-within
returns-clause-within c = omega (arith, c.place.ensures.place, run_le (λ k. is_gt (path_cmp c.args.names.now k)) c.args.entries.now)
