use Rattle.rz_restart_laws.proofs.Returns as laws
use Rattle.rz_restart_laws.proofs.replacing.Goals as goal

pub returns : goal.returns
returns c = laws.replacing
