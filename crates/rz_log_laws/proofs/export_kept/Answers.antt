use Rattle.rz_log_laws.proofs.Beside as laws
use Rattle.rz_log_laws.proofs.export_kept.Goals as goal

pub returns : goal.returns
returns c = laws.export-kept
