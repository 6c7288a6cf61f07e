use Rattle.rz_examples.specs.Plain.{plain}
use Rattle.rz_examples.specs.Answers.{skipped}
use Rattle.rz_examples.proofs.Fronts.{legal_none_left}
use Rattle.rz_examples.proofs.Refusals.{not_skipped}
use Rattle.rz_examples.proofs.mistaken_answers.skipped_block.Goals as goal

pub returns : goal.returns
returns c = record { legal = legal_none_left; mistaken = λ legal. not_skipped (c.rebuilt.ensures plain skipped (c.one_run.ensures plain skipped legal)) }
