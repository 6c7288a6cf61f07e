use Rattle.rz_examples.proofs.Steps.{legal_keeps}
use Rattle.rz_examples.proofs.Refusals.{not_thin}
use Rattle.rz_examples.proofs.mistaken_writes.thin_publish.Goals as goal

pub returns : goal.returns
returns c = record { legal = legal_keeps; mistaken = not_thin }
