use Rattle.rz_restart_laws.proofs.Returns as laws
use Rattle.rz_restart_laws.proofs.returning.Goals as goal

pub returns : goal.returns
returns c = laws.returning
