use Rattle.std.proofs.Common.{◌≡◌}
use Rattle.mj_angles.specs.declared.layout.Layout.TheVariants.{L0}
use Rattle.rz_client_tests.proofs.reads.play.Given as goal

abbrev pub invariant-loop-ask : goal.invariant-loop-ask
invariant-loop-ask g l = l.reader.state.layout ≡ L0
