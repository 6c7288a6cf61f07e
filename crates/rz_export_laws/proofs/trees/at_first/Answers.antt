use Rattle.rz_export_laws.proofs.Empty as laws
use Rattle.rz_export_laws.proofs.trees.at_first.Goals as goal

pub returns : goal.returns
returns c = laws.empty-whole
