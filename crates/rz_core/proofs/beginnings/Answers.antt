use Rattle.rz_core.proofs.Locality as laws
use Rattle.rz_core.proofs.beginnings.Goals as goal

pub returns : goal.returns
returns c = λ v h more legal. laws.prefix v more h legal
