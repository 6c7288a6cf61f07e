use Rattle.std.proofs.Common.{◌≤◌, ◌-◌, ◌+◌, length}
use Rattle.mj_inverse_sums.proofs.Delayed.{IsDelayed}
use Rattle.mj_inverse_sums.proofs.Columns.{IsCarried}
use Rattle.mj_inverse_sums.proofs.run.run_columns.Given as goal

abbrev pub invariant-rows : goal.invariant-rows
invariant-rows g l = record {
  within : l.at ≤ length l.c;
  delayed : IsDelayed l.step l.at l.initial.c l.c l.d;
  front : IsCarried l.step g.row.A l.at l.c l.front;
  back : IsCarried l.step g.row.B (l.at + (l.step - g.row.B)) l.c l.back;
}

abbrev pub decreases-rows : goal.decreases-rows
decreases-rows g l = length l.c - l.at

abbrev pub invariant-rest : goal.invariant-rest
invariant-rest g l = IsDelayed l.step l.t l.fn.c l.c l.d
