use Rattle.std.proofs.Common.{◌≡◌, ◌<◌, ◌≤◌, ◌-◌, ◌+◌, ℕ, length, get_or}
use Rattle.mj_inverse_sums.proofs.Delayed.{IsDelayed}
use Rattle.mj_inverse_sums.proofs.Fours.{IsTwice}
use Rattle.mj_inverse_sums.proofs.run.run_two.Given as goal

abbrev pub invariant-fours : goal.invariant-fours
invariant-fours l = record {
  within : l.place ≤ length l.c;
  delayed : IsDelayed 2 l.place l.initial.c l.c l.d;
  four : IsTwice l.words l.last;
  start : (j : ℕ) → l.place < 2 → j < 2 → get_or l.last (2 + j) 0 ≡ 0;
  back : (k j : ℕ) → k + 2 ≡ l.place + j → j < 2 → get_or l.last (2 + j) 0 ≡ get_or l.c k 0;
}

abbrev pub decreases-fours : goal.decreases-fours
decreases-fours l = length l.c - l.place

abbrev pub invariant-rest : goal.invariant-rest
invariant-rest l = IsDelayed 2 l.t l.fn.c l.c l.d
