use Rattle.std.proofs.Common.{◌≡◌, take}
use Rattle.rz_play_locks.specs.Operations.{given}
use Rattle.rz_threads_workers.proofs.roster.operations_of.Given as goal

-- the operations of the lines so far
abbrev pub invariant-loop-line : goal.invariant-loop-line
invariant-loop-line l = l.operations.items ≡ given l.by (take l.line-index l.lines)
