use Rattle.std.proofs.Common.{◌≡◌, length}
use Rattle.rz_run_tests.proofs.alone.links.Given as goal

-- as many links as rounds so far
abbrev pub invariant-loop-place : goal.invariant-loop-place
invariant-loop-place g l = length l.links.items ≡ l.place
