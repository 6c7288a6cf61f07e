use Rattle.std.proofs.Common.{ap, ◌∙◌}
use Rattle.rz_export_model.specs.Export.{Export}
use Rattle.rz_export_model.specs.Tree.{file_of}
use Rattle.rz_export.proofs.export.Export.file.Goals as goal

pub returns : goal.returns
returns c = c.file.ensures ∙ ap (λ (s : Export). file_of s.tree c.args.fid) c.self.view_is
