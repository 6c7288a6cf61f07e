use Rattle.rz_log_laws.proofs.Building as laws
use Rattle.rz_log_laws.proofs.built.Goals as goal

pub returns : goal.returns
returns c = laws.built
