use denote.Param.{param}
use denote.Param.Send.{shr_send}
use Rattle.std.proofs.Crossing.{Vec-send, send}
use Rattle.rz_threads_workers.proofs.pool_worker.PoolWorker.TheSendSync as Member
use Rattle.rz_threads.proofs.Sending.{four-sent, store_sync}
use Rattle.rz_threads.proofs.beside.side_by_side.Goals as goal

pub join-requires-send-F : goal.join-requires-send-F
join-requires-send-F g c κs within = four-sent _ (shr_send _ _ _ c.type_bounds.sync-R) send
    (shr_send _ _ _ (store_sync (param 1 g.row.D) (param 2 g.row.J) g.D.Disk g.J.Metering g.J.Naming c.type_bounds.send-D)) (Vec-send _ (Member.the_send (param 2 g.row.J) (param 3 g.row.L) g.J.Naming c.type_bounds.send-L))
