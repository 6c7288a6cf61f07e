use Rattle.rz_restart_laws.proofs.Restarts as laws
use Rattle.rz_restart_laws.proofs.restarting.Goals as goal

pub returns : goal.returns
returns c = laws.restarting
