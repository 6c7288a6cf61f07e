use Rattle.rz_examples.proofs.Fronts.{legal_lost_looked}
use Rattle.rz_examples.proofs.Refusals.{not_from_lost}
use Rattle.rz_examples.proofs.mistaken_reads.fetch_from_lost.Goals as goal

pub returns : goal.returns
returns c = record { legal = legal_lost_looked; mistaken = not_from_lost }
