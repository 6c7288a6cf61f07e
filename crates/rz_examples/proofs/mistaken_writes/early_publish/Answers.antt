use Rattle.rz_examples.proofs.Steps.{legal_keeps}
use Rattle.rz_examples.proofs.Refusals.{not_early}
use Rattle.rz_examples.proofs.mistaken_writes.early_publish.Goals as goal

pub returns : goal.returns
returns c = record { legal = legal_keeps.0; mistaken = not_early }
