use Rattle.rz_examples.proofs.Clients.{legal_denied_read}
use Rattle.rz_examples.proofs.rivals.denied_read.Goals as goal

pub returns : goal.returns
returns c = legal_denied_read
