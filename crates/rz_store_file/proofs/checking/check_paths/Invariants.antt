use Rattle.std.proofs.Common.{◌≡◌}
use Rattle.rz_store_file.proofs.Paths.{rest_of}
use Rattle.rz_store_file.proofs.checking.check_paths.Given as goal

abbrev pub invariant-loop-i : goal.invariant-loop-i
invariant-loop-i l = rest_of l.paths l.i ≡ rest_of l.paths 0
