use Rattle.std.proofs.Common.{◌≡◌, ◌+◌, ◌≤◌, vec_len}
use Rattle.std.specs.Vec.{vec_capacity}
use Rattle.rz_shared.proofs.closing.unlock_all.Given as goal

-- there is room for those that are still locked
abbrev pub invariant-loop-lock : goal.invariant-loop-lock
invariant-loop-lock g l = (vec_len l.locked_nodes + vec_len l.locks ≡ vec_len l.fn.locks) × (vec_len l.fn.locks ≤ vec_capacity l.locked_nodes)

abbrev pub decreases-loop-lock : goal.decreases-loop-lock
decreases-loop-lock g l = vec_len l.locks
