use Rattle.std.proofs.Common.{◌≡◌, take}
use Rattle.rz_report.specs.Summary.{counts_of}
use Rattle.rz_report.proofs.counts.counts_of.Given as goal

abbrev pub invariant-events : goal.invariant-events
invariant-events l = l.counts ≡ counts_of (take l.event-index l.log)
