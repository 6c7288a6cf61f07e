use Rattle.rz_restart_laws.proofs.Calls as laws
use Rattle.rz_restart_laws.proofs.told.Goals as goal

pub returns : goal.returns
returns c = laws.told
