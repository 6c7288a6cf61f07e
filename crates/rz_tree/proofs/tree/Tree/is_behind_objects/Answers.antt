use Rattle.std.proofs.Common.{ap, ◌∙◌}
use Rattle.rz_export_model.specs.Tree.{Tree}
use Rattle.rz_names.specs.Names.{is_behind}
use Rattle.rz_tree.proofs.Allowed.{behind-objects}
use Rattle.rz_tree.proofs.tree.Tree.is_behind_objects.Goals as goal

pub returns : goal.returns
returns c = c.is_behind.ensures ∙ behind-objects c.args.fid c.self.inside.inodes ∙ ap (λ (t : Tree). is_behind t.objects c.args.fid) c.self.view_is
