use Rattle.std.proofs.Common.{◌-◌, length}
use Rattle.rz_journal.proofs.Openings.{GoSoFar}
use Rattle.rz_journal.proofs.rebuilding.Rebuilt.add_all.Given as goal

abbrev pub invariant-loop-step : goal.invariant-loop-step
invariant-loop-step l = GoSoFar l.initial.self.export.volume l.half l.at l.count l.self.stage l.self.export

abbrev pub decreases-loop-step : goal.decreases-loop-step
decreases-loop-step l = length l.half - l.at
