-- The names that the export keeps are those of the log.
use Rattle.rz_events.specs.Volume.{Volume}
use Rattle.rz_core.specs.History.{facts}
use Rattle.rz_core.proofs.Stamps.{export}
use Rattle.rz_core.proofs.EnrollLaws.{export-rows}
use Rattle.rz_core.proofs.NameTies.{live-file, file-places}
use Rattle.rz_core.proofs.ExportLooks.{IsNaming}

pub naming : (v : Volume) → IsNaming v
naming v h legal = record { live = live-file v (facts h) (export h) (export-rows v h legal); places = file-places v h legal }
