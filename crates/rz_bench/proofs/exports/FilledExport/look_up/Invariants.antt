use Rattle.std.proofs.Common.{◌≡◌}
use Rattle.rz_bench.proofs.exports.FilledExport.look_up.Given as goal

abbrev pub invariant-loop-lookup : goal.invariant-loop-lookup
invariant-loop-lookup l = l.tally.calls ≡ l.lookup-index
