use Rattle.rz_threads_worker.proofs.Doings.{cut-begun}
use Rattle.rz_threads_worker.proofs.laws.cut_off.Goals as goal

pub returns : goal.returns
returns c = λ honest layout by from s old new m at it. cut-begun honest layout by from s m old new at.taken_up at.work at.layout_is it
