use Rattle.rz_restart_laws.proofs.Calls as laws
use Rattle.rz_restart_laws.proofs.exported.Goals as goal

pub returns : goal.returns
returns c = laws.exported c.built.ensures
