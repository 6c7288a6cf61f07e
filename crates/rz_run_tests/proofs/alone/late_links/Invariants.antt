use Rattle.std.proofs.Common.{◌≡◌, length}
use Rattle.rz_run_tests.proofs.alone.late_links.Given as goal

-- as many links as rounds so far
abbrev pub invariant-loop : goal.invariant-loop
invariant-loop g l = length l.links.items ≡ l.counter
