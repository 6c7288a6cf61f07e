use Rattle.rz_examples.proofs.Steps.{legal_write}
use Rattle.rz_examples.proofs.Refusals.{not_idle_miss}
use Rattle.rz_examples.proofs.mistaken_reads.idle_miss.Goals as goal

pub returns : goal.returns
returns c = record { legal = legal_write; mistaken = not_idle_miss }
