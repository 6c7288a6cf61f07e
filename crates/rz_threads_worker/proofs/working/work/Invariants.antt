use Rattle.rz_chronicle.specs.Kinds.{is_honest, volume_in}
use Rattle.rz_threads_steps.specs.Adding.{PassLasts}
use Rattle.rz_threads_steps.specs.Turned.{AreLost}
use Rattle.rz_threads_worker.specs.Doing.{HasDone}
use Rattle.rz_threads_worker.specs.Workers.{IsWorkerReady, agenda_of}
use Rattle.rz_threads_worker.proofs.working.work.Given as goal

abbrev pub invariant-loop : goal.invariant-loop
invariant-loop g l = record {
  lasts : PassLasts l.fn.worker.pass l.worker.pass;
  ready : IsWorkerReady g.J.Naming.kind l.worker.pass l.worker.agenda l.worker.bins.items l.worker.shown.items;
  done : HasDone (is_honest g.J.Naming.kind) (volume_in g.J.Naming.kind).layout l.fn.worker.pass.actor (agenda_of l.fn.worker.agenda) (agenda_of l.worker.agenda) l.fn.worker.pass.log l.worker.pass.log;
  lost : AreLost l.fn.worker.pass.actor l.fn.worker.pass.log l.worker.pass.log (g.L.Link.lost l.fn.worker.link) (g.L.Link.lost l.worker.link);
}
