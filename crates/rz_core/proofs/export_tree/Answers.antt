use Rattle.rz_core.proofs.ExportSteps as laws
use Rattle.rz_core.proofs.export_tree.Goals as goal

pub returns : goal.returns
returns c = laws.export-tree
