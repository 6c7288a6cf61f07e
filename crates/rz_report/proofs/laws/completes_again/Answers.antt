use Rattle.rz_report.proofs.Completing.{complete-again}
use Rattle.rz_report.proofs.laws.completes_again.Goals as goal

pub returns : goal.returns
returns c = complete-again
