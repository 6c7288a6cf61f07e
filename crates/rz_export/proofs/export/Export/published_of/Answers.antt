use Rattle.std.proofs.Common.{ap, ◌∙◌}
use Rattle.rz_export_model.specs.Export.{Export, published_of}
use Rattle.rz_export.proofs.export.Export.published_of.Goals as goal

pub returns : goal.returns
returns c = c.look.ensures ∙ ap (λ (s : Export). published_of s.blocks c.args.key) c.self.view_is
