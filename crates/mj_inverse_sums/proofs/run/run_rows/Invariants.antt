use Rattle.std.proofs.Common.{◌≡◌, ◌<◌, ◌≤◌, ◌+◌, ◌-◌, ℕ, get_or, length}
use Rattle.std.specs.Prelude.{bit_xor}
use Rattle.mj_inverse_sums.proofs.run.run_rows.Given as goal

abbrev pub invariant-loop-at : goal.invariant-loop-at
invariant-loop-at l = record {
  low : l.step ≤ l.at;
  next : (k : ℕ) → k + l.step < l.at → k + l.step < length l.c → get_or l.c (k + l.step) 0 ≡ bit_xor (get_or l.initial.c (k + l.step) 0) (get_or l.c k 0);
  first : (k : ℕ) → k < l.step → get_or l.c k 0 ≡ get_or l.initial.c k 0;
  left : (k : ℕ) → l.at ≤ k → get_or l.c k 0 ≡ get_or l.initial.c k 0;
}

abbrev pub decreases-loop-at : goal.decreases-loop-at
decreases-loop-at l = length l.c - l.at
