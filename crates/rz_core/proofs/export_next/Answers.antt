use Rattle.rz_core.proofs.ExportNext as laws
use Rattle.rz_core.proofs.Naming.{naming}
use Rattle.rz_core.proofs.export_next.Goals as goal

pub returns : goal.returns
returns c v node after = laws.export-next v (naming v) node after
