use Rattle.std.proofs.Common.{◌≡◌}
use Rattle.rz_bench.proofs.exports.FilledExport.published.Given as goal

abbrev pub invariant-loop-call : goal.invariant-loop-call
invariant-loop-call l = l.tally.calls ≡ l.call
