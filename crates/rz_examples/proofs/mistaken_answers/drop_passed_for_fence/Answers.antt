use Rattle.rz_examples.proofs.Fronts.{legal_refused_drop}
use Rattle.rz_examples.proofs.Refusals.{not_fenced_drop}
use Rattle.rz_examples.proofs.mistaken_answers.drop_passed_for_fence.Goals as goal

pub returns : goal.returns
returns c = record { legal = legal_refused_drop; mistaken = not_fenced_drop }
