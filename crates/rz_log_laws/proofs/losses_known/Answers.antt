use Rattle.rz_log_laws.proofs.Losses as laws
use Rattle.rz_log_laws.proofs.losses_known.Goals as goal

pub returns : goal.returns
returns c = laws.known-losses
