use Rattle.rz_core.proofs.ExportPublish as laws
use Rattle.rz_core.proofs.Naming.{naming}
use Rattle.rz_core.proofs.export_publish.Goals as goal

pub returns : goal.returns
returns c v key stamp mask size = laws.export-publish v (naming v) key stamp mask size
