use Rattle.rz_core.proofs.ExportCalls as laws
use Rattle.rz_core.proofs.export_enroll.Goals as goal

pub returns : goal.returns
returns c = laws.export-enroll
