use Rattle.std.proofs.Common.{◌≡◌, ◌≤◌, vec_len, vec_capacity}
use Rattle.rz_bench.proofs.exports.FilledExport.add_calls.Given as goal

abbrev pub invariant-loop-number : goal.invariant-loop-number
invariant-loop-number l = (vec_len l.calls ≡ l.number) × (l.count ≤ vec_capacity l.calls)
