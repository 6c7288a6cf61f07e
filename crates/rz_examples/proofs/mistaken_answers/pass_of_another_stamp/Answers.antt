use Rattle.rz_examples.specs.Plain.{plain}
use Rattle.rz_examples.specs.Answers.{passed_other}
use Rattle.rz_examples.proofs.Fronts.{legal_pass}
use Rattle.rz_examples.proofs.Refusals.{not_passed_other}
use Rattle.rz_examples.proofs.mistaken_answers.pass_of_another_stamp.Goals as goal

pub returns : goal.returns
returns c = record { legal = legal_pass; mistaken = λ legal. not_passed_other (c.rebuilt.ensures plain passed_other (c.one_run.ensures plain passed_other legal)) }
