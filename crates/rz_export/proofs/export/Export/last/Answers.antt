use Rattle.std.proofs.Common.{ap}
use Rattle.rz_export_model.specs.Export.{Export}
use Rattle.rz_export.proofs.export.Export.last.Goals as goal

pub returns : goal.returns
returns c = ap (λ (s : Export). s.last) c.self.view_is
