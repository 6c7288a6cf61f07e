use Rattle.rz_threads_workers.proofs.Gathered.{held-still}
use Rattle.rz_threads_workers.proofs.laws.held_lasts.Goals as goal

pub returns : goal.returns
returns c = held-still
