use Rattle.rz_core.proofs.Locality as laws
use Rattle.rz_core.proofs.local_in_runs.Goals as goal

pub returns : goal.returns
returns c = laws.local-in-runs
