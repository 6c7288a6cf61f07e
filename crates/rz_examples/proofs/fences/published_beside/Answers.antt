use Rattle.rz_examples.proofs.Disks.{legal_published_beside}
use Rattle.rz_examples.proofs.fences.published_beside.Goals as goal

pub returns : goal.returns
returns c = legal_published_beside
