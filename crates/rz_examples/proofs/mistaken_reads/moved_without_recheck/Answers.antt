use Rattle.rz_examples.proofs.Steps.{legal_records}
use Rattle.rz_examples.proofs.Refusals.{not_unseen_move}
use Rattle.rz_examples.proofs.mistaken_reads.moved_without_recheck.Goals as goal

pub returns : goal.returns
returns c = record { legal = legal_records; mistaken = not_unseen_move }
