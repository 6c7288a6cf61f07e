use Rattle.rz_report.proofs.Begun.{losses_told}
use Rattle.rz_report.proofs.laws.told_losses.Goals as goal

pub returns : goal.returns
returns c = losses_told c.losses_over.ensures
