use Rattle.std.proofs.Common.{sym, ap, ◌∙◌}
use Rattle.std.specs.Option.{option_copied}
use Rattle.rz_export_model.specs.Refusals.{not_empty}
use Rattle.rz_tree.specs.Trees.{tree_of}
use Rattle.rz_tree.proofs.Names.{none-empty}
use Rattle.rz_tree.proofs.tree.Tree.not_empty.Goals as goal

pub returns-in-None : goal.returns-in-None
returns-in-None c =
    sym (ap (λ t. not_empty t c.args.path.now) (sym c.self.view_is)
    ∙ none-empty (tree_of c.self.inside.names c.self.inside.inodes c.self.inside.made) c.args.path.now (sym c.child.ensures ∙ ap option_copied c.in-None.is))
