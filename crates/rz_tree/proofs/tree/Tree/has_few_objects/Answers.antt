use Rattle.std.proofs.Common.{sym, ap, ◌∙◌}
use Rattle.std.specs.Prelude.{nat_le}
use Rattle.std.specs.FinMap as maps
use Rattle.rz_export_model.specs.Tree.{Tree}
use Rattle.rz_tree.proofs.Tables.{len-objects}
use Rattle.rz_tree.proofs.tree.Tree.has_few_objects.Goals as goal

pub returns : goal.returns
returns c = ap (λ n. nat_le n 65536) (c.len.ensures ∙ sym (len-objects c.self.inside.inodes) ∙ ap (λ (t : Tree). maps.len t.objects) c.self.view_is)
