use Rattle.rz_examples.proofs.Steps.{legal_records}
use Rattle.rz_examples.proofs.Refusals.{not_other_text}
use Rattle.rz_examples.proofs.mistaken_reads.text_of_another_write.Goals as goal

pub returns : goal.returns
returns c = record { legal = legal_records; mistaken = not_other_text }
