use Rattle.std.specs.Prelude.{◌≤◌}
use Rattle.rz_threads.proofs.beside.up_to_last.Given as goal

-- the last that has something to do stands before this place
abbrev pub invariant-loop-place : goal.invariant-loop-place
invariant-loop-place g l = l.count ≤ l.place
