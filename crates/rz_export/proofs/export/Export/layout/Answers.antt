use Rattle.std.proofs.Common.{ap, ◌∙◌}
use Rattle.rz_export_model.specs.Export.{Export}
use Rattle.rz_export.proofs.export.Export.layout.Goals as goal

pub returns : goal.returns
returns c = c.layout_of.ensures ∙ ap (λ (s : Export). s.volume.layout) c.self.view_is
