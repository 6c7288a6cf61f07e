-- The lock goes to the owner's place, unless another is in the way.
use Rattle.std.proofs.Common.{◌-◌, arith}
use Rattle.rz_locks.proofs.Places.{by_owner-set}
use Rattle.rz_locks.proofs.Apart.{IsApart-insert}
use Rattle.rz_locks.proofs.Ways.{blocked, unblocked, unblocked_below}
use Rattle.rz_locks.proofs.table.Locks.take.Goals as goal

pub invariant_of-self : goal.invariant_of-self
invariant_of-self c =
    rw (by_owner-set c.self.inside.places (c.from.result - 1) _ c.args.owner (omega arith) (omega arith))
    (IsApart-insert _ c.args.owner _ c.self.invariant (unblocked c.self.inside.places _ c.in-None.ensures.free))

pub returns-in-Some-clause-answer : goal.returns-in-Some-clause-answer
returns-in-Some-clause-answer c = rw (← c.self.view_is) (
  blocked c.self.inside.places _ c.in-Some.place _ (omega arith) c.in-Some.ensures.blocks,
  unblocked_below c.self.inside.places _ c.in-Some.place c.in-Some.ensures.least,
)

pub returns-in-None-clause-answer : goal.returns-in-None-clause-answer
returns-in-None-clause-answer c = rw (← c.self.view_is) (unblocked c.self.inside.places _ c.in-None.ensures.free)

pub returns-in-None-clause-granted : goal.returns-in-None-clause-granted
returns-in-None-clause-granted c is =
    rw (← c.self.view_is) (by_owner-set c.self.inside.places (c.from.result - 1) _ c.args.owner (omega arith) (omega arith))

pub returns-in-None-clause-apart : goal.returns-in-None-clause-apart
returns-in-None-clause-apart c =
    rw (by_owner-set c.self.inside.places (c.from.result - 1) _ c.args.owner (omega arith) (omega arith))
    (IsApart-insert _ c.args.owner _ c.self.invariant (unblocked c.self.inside.places _ c.in-None.ensures.free))
