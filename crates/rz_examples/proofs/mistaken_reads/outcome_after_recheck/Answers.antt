use Rattle.rz_examples.proofs.Fronts.{legal_late_loss}
use Rattle.rz_examples.proofs.Refusals.{not_late_outcome}
use Rattle.rz_examples.proofs.mistaken_reads.outcome_after_recheck.Goals as goal

pub returns : goal.returns
returns c = record { legal = legal_late_loss; mistaken = not_late_outcome }
