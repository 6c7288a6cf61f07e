use Rattle.std.proofs.Common.{◌≤◌, length}
use Rattle.std.specs.Vec.{vec_capacity}
use Rattle.std.specs.Vec.Iter.{into_iter_items}
use Rattle.rz_threads_workers.specs.WorkerPool.{link_of, pass_of, shown_by}
use Rattle.rz_threads_workers.proofs.Taken.{Taken}
use Rattle.rz_threads_workers.proofs.ending.take_results.Given as goal

-- what the first workers gave, and room for the rest
abbrev pub invariant-loop-pool_worker : goal.invariant-loop-pool_worker
invariant-loop-pool_worker g l = record {
  links : Taken link_of l.fn.workers.items (into_iter_items l.pool_worker-iterator) l.links.items;
  passes : Taken pass_of l.fn.workers.items (into_iter_items l.pool_worker-iterator) l.passes.items;
  shown : Taken shown_by l.fn.workers.items (into_iter_items l.pool_worker-iterator) l.shown.items;
  room : length l.fn.workers.items ≤ vec_capacity l.links;
  places : length l.fn.workers.items ≤ vec_capacity l.passes;
  rows : length l.fn.workers.items ≤ vec_capacity l.shown;
}
