use Rattle.std.proofs.Common.{◌≡◌}
use Rattle.rz_node_tests.proofs.rot.verdict_on.Given as goal

abbrev pub invariant-loop-position : goal.invariant-loop-position
invariant-loop-position g l = l.scrub.layout ≡ l.layout
