use Rattle.rz_chronicle.proofs.Histories.{local-after}
use Rattle.rz_chronicle.proofs.laws.local_after.Goals as goal

pub returns : goal.returns
returns c = local-after c.local_in_runs.ensures c.next_run.ensures
