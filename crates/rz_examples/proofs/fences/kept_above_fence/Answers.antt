use Rattle.rz_examples.proofs.Disks.{legal_mended_above}
use Rattle.rz_examples.proofs.fences.kept_above_fence.Goals as goal

pub returns : goal.returns
returns c = legal_mended_above
