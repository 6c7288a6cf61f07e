use Rattle.std.proofs.Common.{List, ◌++◌, subst, sym}
use Rattle.std.specs.List.{AllZip}
use Rattle.rz_threads_workers.specs.WorkerPool.{HasWorked}
use Rattle.rz_threads_workers.specs.declared.pool_worker.PoolWorker.{PoolWorker}
use Rattle.rz_threads.proofs.Each.{zip-both}
use Rattle.rz_threads.proofs.beside.work_all.Goals as goal

pub returns : goal.returns
returns g c =
    let T : Type 0 = PoolWorker g.row.J.Denot g.row.L.Denot in
    let R : T → T → Type 0 = HasWorked g.L.Link.lost g.J.Naming.kind in
    let first = c.split_at_mut-idle in
    let second = c.split_at_mut-busy in
    let others : List T = c.work_each-2.new.workers ++ c.work_each-3.new.workers in
    let rest : AllZip R first.result.1.now others =
    subst (λ (xs : List T). AllZip R xs others) (sym second.ensures.value) (zip-both R second.result.0.now c.work_each-2.new.workers second.result.1.now c.work_each-3.new.workers c.work_each-2.ensures c.work_each-3.ensures) in
    subst (λ (xs : List T). AllZip R xs (c.work_each.new.workers ++ others)) (sym first.ensures.value) (zip-both R first.result.0.now c.work_each.new.workers first.result.1.now others c.work_each.ensures rest)
