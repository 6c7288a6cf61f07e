use Rattle.rz_export_laws.proofs.BuiltWhole as laws
use Rattle.rz_export_laws.proofs.exports.built.Goals as goal

pub returns : goal.returns
returns c = laws.parts-are-whole
