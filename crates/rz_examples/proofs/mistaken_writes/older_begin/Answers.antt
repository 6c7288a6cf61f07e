use Rattle.rz_examples.proofs.Fronts.{legal_outrun_keeps}
use Rattle.rz_examples.proofs.Refusals.{not_outrun}
use Rattle.rz_examples.proofs.mistaken_writes.older_begin.Goals as goal

pub returns : goal.returns
returns c = record { legal = legal_outrun_keeps; mistaken = not_outrun }
