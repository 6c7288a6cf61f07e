use Rattle.rz_chronicle.proofs.Earlier as earlier
use Rattle.rz_chronicle.proofs.laws.roomy.Goals as goal

pub returns : goal.returns
returns c = earlier.roomy
