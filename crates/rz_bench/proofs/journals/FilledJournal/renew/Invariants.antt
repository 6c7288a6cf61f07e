use Rattle.std.proofs.Common.{◌≡◌}
use Rattle.rz_bench.proofs.journals.FilledJournal.renew.Given as goal

abbrev pub invariant-loop-call : goal.invariant-loop-call
invariant-loop-call g l = l.tally.calls ≡ l.call
