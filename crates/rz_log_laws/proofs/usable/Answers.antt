use Rattle.rz_log_laws.proofs.Calls as laws
use Rattle.rz_log_laws.proofs.usable.Goals as goal

pub returns : goal.returns
returns c = laws.usable
