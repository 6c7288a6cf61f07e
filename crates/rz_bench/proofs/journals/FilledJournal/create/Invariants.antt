use Rattle.std.proofs.Common.{◌≡◌}
use Rattle.rz_bench.proofs.journals.FilledJournal.create.Given as goal

abbrev pub invariant-loop-file : goal.invariant-loop-file
invariant-loop-file l = l.tally.calls ≡ l.file
