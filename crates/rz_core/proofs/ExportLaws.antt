-- Every call of the export after a legal log.
use Rattle.rz_events.specs.Volume.{Volume}
use Rattle.rz_events.specs.declared.export.Call.TheVariants as call
use Rattle.rz_core.specs.Tied.{IsExportLaw}
use Rattle.rz_core.proofs.ExportSteps.{export-tree}
use Rattle.rz_core.proofs.ExportCalls.{export-enroll}
use Rattle.rz_core.proofs.ExportLooks.{export-look, export-recheck}
use Rattle.rz_core.proofs.ExportPublish.{export-publish}
use Rattle.rz_core.proofs.ExportNext.{export-next}
use Rattle.rz_core.proofs.BeginLaws.{export-begin}
use Rattle.rz_core.proofs.Naming.{naming}

pub export-law : (v : Volume) → IsExportLaw v
export-law v (call.Tree c) = export-tree v c
export-law v (call.Begin key text) = export-begin v key text
export-law v (call.Publish key stamp mask size) = export-publish v (naming v) key stamp mask size
export-law v (call.Look key) = export-look v (naming v) key
export-law v (call.Enroll node loss) = export-enroll v node loss
export-law v (call.Next node after) = export-next v (naming v) node after
export-law v (call.Recheck key) = export-recheck v (naming v) key
