use Rattle.rz_export_laws.proofs.Written as laws
use Rattle.rz_export_laws.proofs.trees.paths_written.Goals as goal

pub returns : goal.returns
returns c = laws.paths-written
