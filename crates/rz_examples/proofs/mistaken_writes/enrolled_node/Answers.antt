use Rattle.rz_examples.proofs.Disks.{legal_spare}
use Rattle.rz_examples.proofs.Refusals.{not_enrolled_named}
use Rattle.rz_examples.proofs.mistaken_writes.enrolled_node.Goals as goal

pub returns : goal.returns
returns c = record { legal = legal_spare.0.0; mistaken = not_enrolled_named }
