use Rattle.std.proofs.Common.{sym, ap, ◌∙◌}
use Rattle.std.specs.FinMap as maps
use Rattle.rz_tree.proofs.Rows.{get-row}
use Rattle.rz_tree.proofs.inodes.Inodes.get.Goals as goal

pub returns : goal.returns
returns c = c.get.ensures.value ∙ sym (get-row c.self.inside.entries.entries c.args.fid) ∙ ap (λ m. maps.get m c.args.fid) c.self.view_is
