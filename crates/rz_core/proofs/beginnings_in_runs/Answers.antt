use Rattle.rz_core.proofs.Locality as laws
use Rattle.rz_core.proofs.beginnings_in_runs.Goals as goal

pub returns : goal.returns
returns c = λ v h more legal. laws.legal-rest v more h legal
