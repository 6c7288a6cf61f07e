use Rattle.std.proofs.Common.{refl}
use Rattle.rz_examples.proofs.Steps.{legal_ordinary}
use Rattle.rz_examples.proofs.honest.ordinary.Goals as goal

pub returns : goal.returns
returns c = record { legal = legal_ordinary; fourteen = refl }
