use Rattle.rz_export_laws.proofs.Stays as laws
use Rattle.rz_export_laws.proofs.exports.stays_whole.Goals as goal

pub returns : goal.returns
returns c = laws.stays-whole
