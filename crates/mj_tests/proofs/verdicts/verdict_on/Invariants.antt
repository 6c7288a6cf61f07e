use Rattle.std.proofs.Common.{◌≡◌}
use Rattle.mj_tests.proofs.verdicts.verdict_on.Given as goal

abbrev pub invariant-loop-position : goal.invariant-loop-position
invariant-loop-position g l = l.scrub.layout ≡ l.layout
