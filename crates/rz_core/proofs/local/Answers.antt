use Rattle.rz_core.proofs.Locality as laws
use Rattle.rz_core.proofs.local.Goals as goal

pub returns : goal.returns
returns c = laws.local
