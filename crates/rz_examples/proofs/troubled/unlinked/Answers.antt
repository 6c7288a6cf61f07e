use Rattle.rz_examples.proofs.Trouble.{legal_unlinked}
use Rattle.rz_examples.proofs.troubled.unlinked.Goals as goal

pub returns : goal.returns
returns c = legal_unlinked
