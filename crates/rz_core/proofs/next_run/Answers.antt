use Rattle.rz_core.proofs.Locality as laws
use Rattle.rz_core.proofs.next_run.Goals as goal

pub returns : goal.returns
returns c = laws.next-run
