use Rattle.std.proofs.Common.{ap, ◌∙◌}
use Rattle.rz_export_model.specs.Export.{Export, latest_of}
use Rattle.rz_export.proofs.export.Export.latest.Goals as goal

pub returns : goal.returns
returns c = c.latest.ensures ∙ ap (λ (s : Export). latest_of s.blocks c.args.key) c.self.view_is
