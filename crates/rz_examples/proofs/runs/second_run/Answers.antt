use Rattle.rz_examples.specs.Plain.{plain}
use Rattle.rz_examples.specs.Ordinary.{with_keeps}
use Rattle.rz_examples.proofs.Steps.{legal_keeps}
use Rattle.rz_examples.proofs.Twice.{legal_second}
use Rattle.rz_examples.proofs.runs.second_run.Goals as goal

pub returns : goal.returns
returns c = legal_second (c.one_run.ensures plain with_keeps legal_keeps)
