use Rattle.rz_examples.proofs.Fronts.{legal_two_records}
use Rattle.rz_examples.proofs.Refusals.{not_joined}
use Rattle.rz_examples.proofs.mistaken_reads.joined_stamps.Goals as goal

pub returns : goal.returns
returns c = record { legal = legal_two_records; mistaken = not_joined }
