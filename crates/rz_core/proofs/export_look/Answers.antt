use Rattle.rz_core.proofs.ExportLooks as laws
use Rattle.rz_core.proofs.Naming.{naming}
use Rattle.rz_core.proofs.export_look.Goals as goal

pub returns : goal.returns
returns c v key = laws.export-look v (naming v) key
