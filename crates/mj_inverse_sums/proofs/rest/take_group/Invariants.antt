use Rattle.std.proofs.Common.{◌≡◌, ◌<◌, ◌≤◌, ℕ, get_or}
use Rattle.mj_inverse_sums.proofs.rest.take_group.Given as goal

abbrev pub invariant-loop-j : goal.invariant-loop-j
invariant-loop-j l = record {
  zero : (k : ℕ) → k < l.j → get_or l.group k 0 ≡ 0;
  left : (k : ℕ) → l.j ≤ k → get_or l.group k 0 ≡ get_or l.initial.group k 0;
  marked : (k : ℕ) → k < l.j → get_or l.bad k 0 ≡ 0 → (get_or l.initial.bad k 0 ≡ 0) × (get_or l.initial.group k 0 ≡ 0);
  unmarked : (k : ℕ) → k < l.j → get_or l.initial.bad k 0 ≡ 0 → get_or l.initial.group k 0 ≡ 0 → get_or l.bad k 0 ≡ 0;
  bad : (k : ℕ) → l.j ≤ k → get_or l.bad k 0 ≡ get_or l.initial.bad k 0;
}
