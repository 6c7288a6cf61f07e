use Rattle.std.proofs.Common.{ap, ◌∙◌}
use Rattle.rz_export_model.specs.Tree.{file_after}
use Rattle.rz_tree.proofs.Tables.{file-past}
use Rattle.rz_tree.proofs.tree.Tree.file_after.Goals as goal

pub returns : goal.returns
returns c = c.file_past.ensures ∙ file-past c.self.inside.inodes c.args.fid ∙ ap (λ t. file_after t c.args.fid) c.self.view_is
