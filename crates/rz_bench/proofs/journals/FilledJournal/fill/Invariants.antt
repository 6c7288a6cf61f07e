use Rattle.std.proofs.Common.{◌≡◌, ◌+◌}
use Rattle.rz_bench.proofs.journals.FilledJournal.fill.Given as goal

abbrev pub invariant-loop-number : goal.invariant-loop-number
invariant-loop-number l = l.tally.calls + l.files ≡ l.number
