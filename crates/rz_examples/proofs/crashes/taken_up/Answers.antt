use Rattle.rz_examples.proofs.Starts.{legal_taken_up}
use Rattle.rz_examples.proofs.crashes.taken_up.Goals as goal

pub returns : goal.returns
returns c = legal_taken_up
