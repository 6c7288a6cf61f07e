use Rattle.rz_export_laws.proofs.TreeCalls as laws
use Rattle.rz_export_laws.proofs.trees.call_kept.Goals as goal

pub returns : goal.returns
returns c = laws.stays-whole
