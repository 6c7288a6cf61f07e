use Rattle.rz_log_laws.proofs.Losses as laws
use Rattle.rz_log_laws.proofs.losses_enrolled.Goals as goal

pub returns : goal.returns
returns c = laws.enrolled-losses
