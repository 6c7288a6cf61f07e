use Rattle.rz_examples.proofs.Clients.{legal_moved}
use Rattle.rz_examples.proofs.rivals.moved.Goals as goal

pub returns : goal.returns
returns c = legal_moved
