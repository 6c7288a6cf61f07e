use Rattle.rz_export_laws.proofs.Parts as laws
use Rattle.rz_export_laws.proofs.exports.parts_make_it.Goals as goal

pub returns : goal.returns
returns c = laws.parts-make-it
