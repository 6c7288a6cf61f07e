use Rattle.std.proofs.Common.{◌≡◌, length}
use Rattle.rz_file.proofs.plan.blank.Given as goal

abbrev pub invariant-loop-i : goal.invariant-loop-i
invariant-loop-i l = length l.places ≡ l.i
