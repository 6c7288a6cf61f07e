use Rattle.rz_examples.proofs.Fronts.{legal_part_found}
use Rattle.rz_examples.proofs.Refusals.{not_read_elsewhere}
use Rattle.rz_examples.proofs.mistaken_answers.bytes_of_another_block.Goals as goal

pub returns : goal.returns
returns c = record { legal = legal_part_found; mistaken = not_read_elsewhere }
