use Rattle.std.proofs.Common.{◌≡◌, ◌++◌, ◌-◌, length, take, drop, map}
use Rattle.rz_names.proofs.entries.moved_entries.Given as goal

-- those up to `at` were moved
abbrev pub invariant-loop-at : goal.invariant-loop-at
invariant-loop-at l = l.moved ≡ map (λ e. (l.to ++ drop (length l.names) e.0, e.1)) (take (l.at - l.start) (drop l.start l.entries))
