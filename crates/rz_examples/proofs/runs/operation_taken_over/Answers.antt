use Rattle.rz_examples.specs.Plain.{plain}
use Rattle.rz_examples.specs.Ordinary.{with_begin}
use Rattle.rz_examples.proofs.Steps.{legal_begin}
use Rattle.rz_examples.proofs.Twice.{not_taken_over}
use Rattle.rz_examples.proofs.runs.operation_taken_over.Goals as goal

pub returns : goal.returns
returns c = record { legal = c.one_run.ensures plain with_begin legal_begin; mistaken = not_taken_over }
