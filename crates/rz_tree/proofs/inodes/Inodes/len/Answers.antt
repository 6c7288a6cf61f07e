use Rattle.std.proofs.Common.{sym, ap, ◌∙◌}
use Rattle.std.specs.FinMap as maps
use Rattle.rz_tree.proofs.Rows.{len-row}
use Rattle.rz_tree.proofs.inodes.Inodes.len.Goals as goal

pub returns : goal.returns
returns c = c.len.ensures.len ∙ sym (len-row c.self.inside.entries.entries c.len.ensures.ordered) ∙ ap maps.len c.self.view_is
