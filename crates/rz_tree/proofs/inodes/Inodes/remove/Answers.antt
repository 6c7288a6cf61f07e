use Rattle.std.proofs.Common.{sym, ap, ◌∙◌, subst}
use Rattle.std.specs.FinMap as maps
use Rattle.rz_tree.specs.Inodes.{AreFilesOf}
use Rattle.rz_tree.proofs.Files.{gone-files}
use Rattle.rz_tree.proofs.Rows.{table_of, one-gone}
use Rattle.rz_tree.proofs.inodes.Inodes.remove.Goals as goal

pub invariant_of-self : goal.invariant_of-self
invariant_of-self c =
    subst (λ m. AreFilesOf m c.remove-2.new.self) (sym (one-gone c.self.inside.entries.entries c.remove.new.self.entries c.args.fid c.remove.ensures.updates.0))
    (gone-files (table_of c.self.inside.entries.entries) c.args.fid c.self.inside.files c.remove-2.new.self c.remove-2.ensures.updates.0 c.self.invariant)

pub returns : goal.returns
returns c = one-gone c.self.inside.entries.entries c.remove.new.self.entries c.args.fid c.remove.ensures.updates.0 ∙ ap (λ m. maps.remove m c.args.fid) c.self.view_is
