use Rattle.rz_threads_worker.proofs.Doings.{turn-done}
use Rattle.rz_threads_worker.proofs.laws.turned.Goals as goal

pub returns : goal.returns
returns c = λ honest layout by from s old new m after at it. turn-done honest layout by from s m old new at.taken_up at.work at.layout_is after it
