use Rattle.rz_examples.proofs.Fronts.{legal_made}
use Rattle.rz_examples.proofs.Refusals.{not_made_by_rebuilder}
use Rattle.rz_examples.proofs.mistaken_answers.made_by_rebuilder.Goals as goal

pub returns : goal.returns
returns c = record { legal = legal_made; mistaken = not_made_by_rebuilder }
