use Rattle.std.proofs.Common.{◌≡◌}
use Rattle.rz_bench.proofs.work.add.Given as goal

-- it is still the same actor's pass
abbrev pub invariant-loop : goal.invariant-loop
invariant-loop g l = l.pass.actor ≡ l.fn.pass.actor
