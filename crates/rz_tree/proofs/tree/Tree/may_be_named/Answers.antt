use Rattle.std.proofs.Common.{sym, ap, ◌∙◌}
use Rattle.std.specs.Prelude.{nat_lt}
use Rattle.rz_export_model.specs.Tree.{Tree}
use Rattle.rz_tree.specs.Allowed.{may_be_named}
use Rattle.rz_tree.proofs.Allowed.{none-named, some-named}
use Rattle.rz_tree.proofs.tree.Tree.may_be_named.Goals as goal

pub returns-in-None : goal.returns-in-None
returns-in-None c =
    let s = c.self.inside in
    none-named s.names s.inodes s.made c.args.fid (sym c.in-None.ensures) ∙ ap (λ (t : Tree). may_be_named t c.args.fid) c.self.view_is

pub returns-in-Some : goal.returns-in-Some
returns-in-Some c =
    let s = c.self.inside in
    ap (nat_lt c.in-Some.inode.now.links) c.most_names.ensures
    ∙ some-named s.names s.inodes s.made c.args.fid c.in-Some.inode.now c.self.invariant.counted (sym c.in-Some.ensures)
    ∙ ap (λ (t : Tree). may_be_named t c.args.fid) c.self.view_is
