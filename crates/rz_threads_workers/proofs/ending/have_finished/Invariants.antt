use Rattle.std.proofs.Common.{take}
use Rattle.std.specs.List.{AllByRecursion}
use Rattle.rz_threads_workers.specs.WorkerPool.{WantsNothing}
use Rattle.rz_threads_workers.proofs.ending.have_finished.Given as goal

-- none of the workers so far wants anything
abbrev pub invariant-loop-pool_worker : goal.invariant-loop-pool_worker
invariant-loop-pool_worker g l = AllByRecursion WantsNothing (take l.pool_worker-index l.workers)
