use Rattle.mj_inverse_two.proofs.Running.{IsRun}
use Rattle.mj_inverse_two.proofs.run.run_on.Given as goal

abbrev pub invariant-loop-n : goal.invariant-loop-n
invariant-loop-n l = IsRun l.from l.step l.n l.a l.b l.fn.row l.row
