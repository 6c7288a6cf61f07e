use Rattle.rz_examples.proofs.Disks.{legal_others}
use Rattle.rz_examples.proofs.Refusals.{not_under_fence}
use Rattle.rz_examples.proofs.mistaken_writes.keep_below_fence.Goals as goal

pub returns : goal.returns
returns c = record { legal = legal_others.0.0.0.0; mistaken = not_under_fence }
