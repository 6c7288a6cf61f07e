use Rattle.std.proofs.Common.{◌≡◌, ◌<◌, ◌≤◌, ◌-◌, ◌+◌, ℕ, length, get_or}
use Rattle.mj_inverse_sums.proofs.Delayed.{IsDelayed}
use Rattle.mj_inverse_sums.proofs.Fours.{IsFour}
use Rattle.mj_inverse_sums.proofs.run.run_one.Given as goal

abbrev pub invariant-fours : goal.invariant-fours
invariant-fours l = record {
  within : l.place ≤ length l.c;
  delayed : IsDelayed 1 l.place l.initial.c l.c l.d;
  four : IsFour l.words l.pairs l.last;
  start : l.place < 1 → get_or l.last 3 0 ≡ 0;
  back : (k : ℕ) → k + 1 ≡ l.place → get_or l.last 3 0 ≡ get_or l.c k 0;
}

abbrev pub decreases-fours : goal.decreases-fours
decreases-fours l = length l.c - l.place

abbrev pub invariant-rest : goal.invariant-rest
invariant-rest l = IsDelayed 1 l.t l.fn.c l.c l.d
