-- No lock is held.
use Rattle.rz_locks.proofs.Apart.{IsApart-empty}
use Rattle.rz_locks.proofs.table.Locks.new.Goals as goal

pub invariant_of-result : goal.invariant_of-result
invariant_of-result c = IsApart-empty
