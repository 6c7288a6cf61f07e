use Rattle.rz_examples.proofs.Mending.{legal_mended, mended_rebuilt}
use Rattle.rz_examples.proofs.honest.mended.Goals as goal

pub returns : goal.returns
returns c = record { legal = legal_mended; rebuilt = mended_rebuilt }
