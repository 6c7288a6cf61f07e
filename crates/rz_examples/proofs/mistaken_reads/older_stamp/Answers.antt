use Rattle.rz_examples.proofs.Fronts.{legal_older_records}
use Rattle.rz_examples.proofs.Refusals.{not_older_stamp}
use Rattle.rz_examples.proofs.mistaken_reads.older_stamp.Goals as goal

pub returns : goal.returns
returns c = record { legal = legal_older_records; mistaken = not_older_stamp }
