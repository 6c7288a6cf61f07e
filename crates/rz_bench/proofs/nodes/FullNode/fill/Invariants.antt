use Rattle.std.proofs.Common.{◌≡◌}
use Rattle.rz_bench.proofs.nodes.FullNode.fill.Given as goal

abbrev pub invariant-loop-number : goal.invariant-loop-number
invariant-loop-number l = l.tally.calls ≡ l.number
