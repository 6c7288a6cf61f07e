use Rattle.rz_export_laws.proofs.Spelled as laws
use Rattle.rz_export_laws.proofs.trees.texts_plain.Goals as goal

pub returns : goal.returns
returns c = laws.long-plain
