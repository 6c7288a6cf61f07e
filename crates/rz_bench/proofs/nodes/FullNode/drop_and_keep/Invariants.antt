use Rattle.std.proofs.Common.{◌≡◌}
use Rattle.rz_bench.proofs.nodes.FullNode.drop_and_keep.Given as goal

abbrev pub invariant-loop-call : goal.invariant-loop-call
invariant-loop-call l = l.tally.calls ≡ l.call
