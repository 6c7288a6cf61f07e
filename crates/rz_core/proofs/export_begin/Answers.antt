use Rattle.rz_core.proofs.BeginLaws as laws
use Rattle.rz_core.proofs.export_begin.Goals as goal

pub returns : goal.returns
returns c = laws.export-begin
