use Rattle.rz_examples.proofs.Fronts.{legal_kept_by_rival}
use Rattle.rz_examples.proofs.Refusals.{not_smaller}
use Rattle.rz_examples.proofs.mistaken_writes.smaller_stamp.Goals as goal

pub returns : goal.returns
returns c = record { legal = legal_kept_by_rival; mistaken = not_smaller }
