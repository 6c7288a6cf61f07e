use Rattle.rz_log_laws.proofs.Changes as laws
use Rattle.rz_log_laws.proofs.deciding.Goals as goal

pub returns : goal.returns
returns c = laws.deciding
