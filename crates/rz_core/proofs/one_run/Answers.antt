use Rattle.rz_core.proofs.Locality as laws
use Rattle.rz_core.proofs.one_run.Goals as goal

pub returns : goal.returns
returns c = laws.one-run
