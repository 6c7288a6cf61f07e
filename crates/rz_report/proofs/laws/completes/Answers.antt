use Rattle.rz_report.proofs.Completing.{complete}
use Rattle.rz_report.proofs.laws.completes.Goals as goal

pub returns : goal.returns
returns c = complete
