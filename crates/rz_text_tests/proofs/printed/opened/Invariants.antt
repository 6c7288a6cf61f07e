use Rattle.std.proofs.Common.{◌≡◌, length}
use Rattle.rz_text_tests.proofs.printed.opened.Given as goal

abbrev pub invariant-loop-node : goal.invariant-loop-node
invariant-loop-node g l = length l.places ≡ l.node
