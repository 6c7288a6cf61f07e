use Rattle.rz_examples.proofs.Fronts.{legal_both}
use Rattle.rz_examples.proofs.Refusals.{not_stale_look}
use Rattle.rz_examples.proofs.mistaken_reads.stale_look.Goals as goal

pub returns : goal.returns
returns c = record { legal = legal_both; mistaken = not_stale_look }
