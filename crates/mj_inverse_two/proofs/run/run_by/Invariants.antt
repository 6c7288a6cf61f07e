use Rattle.std.proofs.Common.{◌≡◌, ◌≤◌, ◌+◌, ◌-◌, length}
use Rattle.mj_inverse_two.proofs.Running.{IsKept, IsRun}
use Rattle.mj_inverse_two.proofs.run.run_by.Given as goal

abbrev pub invariant-groups : goal.invariant-groups
invariant-groups g l = record {
  within : l.at ≤ length l.a;
  run : IsRun l.from g.row.N l.at l.a l.b l.fn.row l.row;
  kept : IsKept l.from g.row.N l.at 0 l.last l.row;
  long : length l.last ≡ g.row.N;
}

abbrev pub decreases-groups : goal.decreases-groups
decreases-groups g l = length l.a - l.at

abbrev pub invariant-loop-j : goal.invariant-loop-j
invariant-loop-j g l = record {
  run : IsRun l.from g.row.N (l.at + l.j) l.a l.b l.fn.row l.row;
  kept : IsKept l.from g.row.N l.at l.j l.last l.row;
  long : length l.last ≡ g.row.N;
}
