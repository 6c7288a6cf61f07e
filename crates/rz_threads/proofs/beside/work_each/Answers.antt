use denote.Exit.{no}
use denote.Param.{param}
use denote.Param.Send.{arg_send, arg_sync, param_send, param_sync, shr_sync}
use Rattle.std.proofs.Common.{subst, sym, slice_index_or, List}
use Rattle.std.proofs.Crossing.{sync}
use Rattle.rz_threads_workers.specs.WorkerPool.{CanWork, HasWorked}
use Rattle.rz_threads_workers.specs.declared.pool_worker.PoolWorker.{PoolWorker}
use Rattle.rz_threads.proofs.Each.{all-zip, at-place}
use Rattle.rz_threads.proofs.Sending.{three-shared, store_sync}
use Rattle.rz_threads.proofs.beside.work_each.Goals as goal

pub for_each_mut-requires-sync-F : goal.for_each_mut-requires-sync-F
for_each_mut-requires-sync-F g c κs within = three-shared _ (shr_sync _ _ _ c.type_bounds.sync-R) sync
    (shr_sync _ _ _ (store_sync (param 1 g.row.D) (param 2 g.row.J) g.D.Disk g.J.Metering g.J.Naming c.type_bounds.send-D))

pub for_each_mut-requires-clause-accepts : goal.for_each_mut-requires-clause-accepts
for_each_mut-requires-clause-accepts g c κs within = λ i p lt is. (
  (c.requires.volume, subst (CanWork g.J.Naming.kind) (sym is) (at-place (CanWork g.J.Naming.kind) c.args.workers.now i p.now lt c.requires.ready)),
  (param_send 1 _ (arg_send _ no _ (param_send 1 _ c.type_bounds.send-D)), param_send 2 _ (arg_send _ no _ (param_send 2 _ c.type_bounds.send-J)), param_send 3 _ (arg_send _ no _ (param_send 3 _ c.type_bounds.send-L)), param_sync 0 _ (arg_sync _ no _ (param_sync 0 _ c.type_bounds.sync-R)), param_sync 2 _ (arg_sync _ no _ (param_sync 2 _ c.type_bounds.sync-J))),
)

pub returns : goal.returns
returns g c =
    let T : Type 0 = PoolWorker g.row.J.Denot g.row.L.Denot in
    let R : T → T → Type 0 = HasWorked g.L.Link.lost g.J.Naming.kind in
    let new : List T = c.for_each_mut.new.s in
    all-zip R c.args.workers.now new c.for_each_mut.auto.s
    (λ i d lt. let at = (c.for_each_mut.ensures i d lt).1 in
    subst (λ (m : T). R m (slice_index_or new i d)) at.argument_is (subst (λ (m : T). R at.argument.now m) at.left at.call))
