use Rattle.rz_examples.proofs.Clients.{legal_denied_write}
use Rattle.rz_examples.proofs.rivals.denied_write.Goals as goal

pub returns : goal.returns
returns c = legal_denied_write
