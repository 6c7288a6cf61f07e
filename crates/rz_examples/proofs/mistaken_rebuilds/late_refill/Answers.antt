use Rattle.rz_examples.proofs.Fronts.{legal_two_sources}
use Rattle.rz_examples.proofs.Refusals.{not_late_refill}
use Rattle.rz_examples.proofs.mistaken_rebuilds.late_refill.Goals as goal

pub returns : goal.returns
returns c = record { legal = legal_two_sources; mistaken = not_late_refill }
