use Rattle.std.proofs.Common.{◌≡◌, length}
use Rattle.rz_run_tests.proofs.beside.links.Given as goal

-- as many links as rounds so far
abbrev pub invariant-loop-number : goal.invariant-loop-number
invariant-loop-number g l = length l.links.items ≡ l.number
