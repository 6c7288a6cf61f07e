use Rattle.rz_log_laws.proofs.Places as laws
use Rattle.rz_log_laws.proofs.laid.Goals as goal

pub returns : goal.returns
returns c = laws.laid
