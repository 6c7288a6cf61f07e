use Rattle.std.proofs.Common.{◌∙◌}
use Rattle.rz_tree.proofs.Allowed.{none-told, under-test}
use Rattle.rz_tree.proofs.tree.Tree.stands_under.Goals as goal

pub returns : goal.returns
returns c =
    none-told c.no_directory.result c.is_none.result c.is_none.ensures
    ∙ under-test c.args.self.now c.args.path.now c.names-count.result.now c.no_directory.result c.names-count.ensures c.if-count-eq0.false c.no_directory.ensures
