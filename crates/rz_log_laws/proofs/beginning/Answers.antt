use Rattle.rz_log_laws.proofs.Beside as laws
use Rattle.rz_log_laws.proofs.beginning.Goals as goal

pub returns : goal.returns
returns c = laws.beginning
