use Rattle.std.proofs.Common.{subst, take_all}
use Rattle.std.specs.List.{AllByRecursion}
use Rattle.rz_threads_workers.specs.WorkerPool.{WantsNothing}
use Rattle.rz_threads_workers.proofs.Taken.{all-next}
use Rattle.rz_threads_workers.proofs.ending.have_finished.Goals as goal

pub loop-pool_worker-preserved : goal.loop-pool_worker-preserved
loop-pool_worker-preserved g c = all-next WantsNothing c.args.workers.now c.loop-pool_worker.pool_worker-index c.pool_worker-item.result c.loop-pool_worker-test.true c.pool_worker-item.is c.loop-pool_worker.invariant c.if-pool_worker.false

pub returns-clause-all : goal.returns-clause-all
returns-clause-all g c = λ yes. subst (AllByRecursion WantsNothing) (take_all c.loop-pool_worker.pool_worker-index c.args.workers.now c.loop-pool_worker-test.false) c.loop-pool_worker.invariant
