use Rattle.std.proofs.Common.{◌≡◌}
use Rattle.rz_bench.proofs.exports.FilledExport.come_and_go.Given as goal

abbrev pub invariant-loop-round : goal.invariant-loop-round
invariant-loop-round l = l.tally.calls ≡ l.round
