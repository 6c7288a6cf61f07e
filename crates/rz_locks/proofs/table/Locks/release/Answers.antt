-- The place of the owner is emptied, if there is one.
use Rattle.std.proofs.Common.{◌-◌, arith, inl, inr}
use Rattle.rz_locks.proofs.Places.{by_owner-clear, remove_nobody}
use Rattle.rz_locks.proofs.Apart.{IsApart-remove}
use Rattle.rz_locks.proofs.table.Locks.release.Goals as goal
use Rattle.rz_locks.proofs.table.Locks.release.Goals.{else-owner-ge1-via-then-owner-ge1+else-from-le-OWNERS, else-owner-ge1-via-else-owner-ge1}

pub invariant_of-self : goal.invariant_of-self
invariant_of-self c =
    rw (by_owner-clear c.self.inside.places (c.from-then-from-le-OWNERS.result - 1) c.args.owner (omega arith) (omega arith))
    (IsApart-remove _ c.args.owner c.self.invariant)

pub returns-then-from-le-OWNERS-clause-after : goal.returns-then-from-le-OWNERS-clause-after
returns-then-from-le-OWNERS-clause-after c =
    rw (← c.self.view_is) (by_owner-clear c.self.inside.places (c.from-then-from-le-OWNERS.result - 1) c.args.owner (omega arith) (omega arith))

pub returns-then-from-le-OWNERS-clause-apart : goal.returns-then-from-le-OWNERS-clause-apart
returns-then-from-le-OWNERS-clause-apart c =
    rw (by_owner-clear c.self.inside.places (c.from-then-from-le-OWNERS.result - 1) c.args.owner (omega arith) (omega arith))
    (IsApart-remove _ c.args.owner c.self.invariant)

pub returns-else-owner-ge1-clause-after : goal.returns-else-owner-ge1-clause-after
returns-else-owner-ge1-clause-after c =
    rw (← c.self.view_is) (remove_nobody c.self.inside.places c.args.owner
    (elim c.else-owner-ge1.branch [
      | else-owner-ge1-via-then-owner-ge1+else-from-le-OWNERS w ↦ inr (omega arith)
      | else-owner-ge1-via-else-owner-ge1 w ↦ inl (omega arith)
    ]))
