use Rattle.std.proofs.Common.{ℕ, List}
use Rattle.mj_inverse.specs.Padded.{IsPadded, IsSwept}
use Rattle.mj_inverse.proofs.sweep.peel_each.Given as goal

abbrev pub invariant-turns : goal.invariant-turns
invariant-turns l = record {
  padded : IsPadded l.frame.rows l.frame.cols l.frame.reach l.grid;
  swept : (ws : List ℕ) → IsSwept l.frame.rows l.frame.cols l.frame.reach ws l.all l.fn.grid l.from 0 → IsSwept l.frame.rows l.frame.cols l.frame.reach ws l.all l.grid l.t 0;
}

abbrev pub invariant-rows : goal.invariant-rows
invariant-rows l = record {
  padded : IsPadded l.frame.rows l.frame.cols l.frame.reach l.grid;
  swept : (ws : List ℕ) → IsSwept l.frame.rows l.frame.cols l.frame.reach ws l.all l.fn.grid l.from 0 → IsSwept l.frame.rows l.frame.cols l.frame.reach ws l.all l.grid l.t l.n;
}
