use Rattle.rz_examples.proofs.Fronts.{legal_one_source}
use Rattle.rz_examples.proofs.Refusals.{not_thin_refill}
use Rattle.rz_examples.proofs.mistaken_rebuilds.thin_refill.Goals as goal

pub returns : goal.returns
returns c = record { legal = legal_one_source; mistaken = not_thin_refill }
