use Rattle.rz_examples.proofs.Steps.{legal_begin}
use Rattle.rz_examples.proofs.Refusals.{not_drawn_twice}
use Rattle.rz_examples.proofs.mistaken_writes.stamp_twice.Goals as goal

pub returns : goal.returns
returns c = record { legal = legal_begin; mistaken = not_drawn_twice }
