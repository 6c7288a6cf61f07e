use Rattle.std.proofs.Common.{refl}
use Rattle.rz_examples.proofs.Ranges.{legal_ranged}
use Rattle.rz_examples.proofs.honest.ranged.Goals as goal

pub returns : goal.returns
returns c = record { legal = legal_ranged; thirty_two = refl }
