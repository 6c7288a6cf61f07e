-- No place so far has a lock that conflicts.
use Rattle.std.proofs.Common.{◌<◌, ℕ}
use Rattle.rz_locks.specs.Places.{IsInTheWay}
use Rattle.rz_locks.proofs.table.first_in_the_way.Given as goal

abbrev pub invariant-loop-place : goal.invariant-loop-place
invariant-loop-place l = (k : ℕ) → k < l.place → ¬ IsInTheWay l.places l.lock k
