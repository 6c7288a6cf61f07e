use Rattle.std.proofs.Common.{◌≡◌}
use Rattle.mj_tests.proofs.verdicts.alters.Given as goal

abbrev pub invariant-loop-number : goal.invariant-loop-number
invariant-loop-number g l = l.scrub.layout ≡ l.layout
