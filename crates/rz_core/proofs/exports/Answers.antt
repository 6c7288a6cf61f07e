use Rattle.rz_core.proofs.ExportLaws as laws
use Rattle.rz_core.proofs.exports.Goals as goal

pub returns : goal.returns
returns c = laws.export-law
