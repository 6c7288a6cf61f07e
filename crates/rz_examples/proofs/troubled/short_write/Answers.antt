use Rattle.rz_examples.proofs.Trouble.{legal_short_write}
use Rattle.rz_examples.proofs.troubled.short_write.Goals as goal

pub returns : goal.returns
returns c = legal_short_write
