use Rattle.rz_export_laws.proofs.TreeKept as laws
use Rattle.rz_export_laws.proofs.trees.tree_kept.Goals as goal

pub returns : goal.returns
returns c = laws.tree-kept
