use Rattle.rz_log_laws.proofs.Beside as laws
use Rattle.rz_log_laws.proofs.ask_kept.Goals as goal

pub returns : goal.returns
returns c = laws.ask-kept
