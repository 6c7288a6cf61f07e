use Rattle.std.proofs.Common.{sym, ap, ◌∙◌, subst, refl}
use Rattle.rz_export_model.specs.Tree.{Tree, Object, with_object}
use Rattle.rz_tree.specs.Inodes.{with_attributes}
use Rattle.rz_tree.specs.Trees.{tree_of, IsKept}
use Rattle.rz_tree.proofs.Found.{changed-kept}
use Rattle.rz_tree.proofs.Rules.{changed-rules}
use Rattle.rz_tree.proofs.tree.Tree.change_attributes.Goals as goal

pub invariant_of-self : goal.invariant_of-self
invariant_of-self c =
    subst (λ m. IsKept c.self.inside.names m c.self.inside.made) (sym c.set_attributes.ensures)
    (changed-rules c.self.inside.names c.self.inside.inodes c.self.inside.made c.args.fid (with_attributes c.args.mode c.args.mtime) (λ _. refl) (λ _. refl) c.self.invariant)

pub returns : goal.returns
returns c =
    let change : Object → Object = λ o. record o { mode = c.args.mode; mtime = c.args.mtime } in
    ap (λ m. tree_of c.self.inside.names m c.self.inside.made) c.set_attributes.ensures
    ∙ changed-kept c.self.inside.names c.self.inside.inodes c.self.inside.made c.args.fid (with_attributes c.args.mode c.args.mtime) change (λ _. refl)
    ∙ ap (λ (t : Tree). with_object t c.args.fid change) c.self.view_is
