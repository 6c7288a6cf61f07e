use Rattle.rz_examples.proofs.Clients.{legal_revoked}
use Rattle.rz_examples.proofs.rivals.revoked.Goals as goal

pub returns : goal.returns
returns c = legal_revoked
