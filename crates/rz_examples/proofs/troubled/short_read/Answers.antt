use Rattle.rz_examples.proofs.Trouble.{legal_short_read}
use Rattle.rz_examples.proofs.troubled.short_read.Goals as goal

pub returns : goal.returns
returns c = legal_short_read
