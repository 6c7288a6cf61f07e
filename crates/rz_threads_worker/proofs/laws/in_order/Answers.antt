use Rattle.rz_threads_worker.proofs.Doings.{done-on}
use Rattle.rz_threads_worker.proofs.laws.in_order.Goals as goal

pub returns : goal.returns
returns c = done-on
