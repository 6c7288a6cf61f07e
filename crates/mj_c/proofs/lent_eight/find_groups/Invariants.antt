use Rattle.std.proofs.Common.{◌<◌, ℕ, get_or}
use Rattle.mj_c.specs.Layouts.{group_search, group_at, IsSolved}
use Rattle.mj_c.proofs.lent_eight.find_groups.Given as goal

abbrev pub invariant-loop-i : goal.invariant-loop-i
invariant-loop-i l = (k j : ℕ) → k < l.i → j < 8 → IsSolved l.layout (group_search l.layout l.positions l.bins k) (group_at l.layout l.out k) (get_or l.answers k 0) j
