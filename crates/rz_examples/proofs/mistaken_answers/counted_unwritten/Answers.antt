use Rattle.rz_examples.proofs.Fronts.{legal_part_short}
use Rattle.rz_examples.proofs.Refusals.{not_counted_unwritten}
use Rattle.rz_examples.proofs.mistaken_answers.counted_unwritten.Goals as goal

pub returns : goal.returns
returns c = record { legal = legal_part_short; mistaken = not_counted_unwritten }
