use Rattle.rz_examples.proofs.Disks.{legal_fenced_write}
use Rattle.rz_examples.proofs.fences.fenced_write.Goals as goal

pub returns : goal.returns
returns c = legal_fenced_write
