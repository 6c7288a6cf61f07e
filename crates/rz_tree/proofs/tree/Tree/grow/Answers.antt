use Rattle.std.proofs.Common.{ap, ◌∙◌, sym, subst, refl}
use Rattle.rz_export_model.specs.Tree.{Object, grown}
use Rattle.rz_tree.specs.Inodes.{with_size_of, greater_of}
use Rattle.rz_tree.specs.Trees.{tree_of, IsKept}
use Rattle.rz_tree.proofs.Found.{changed-kept}
use Rattle.rz_tree.proofs.Rules.{changed-rules}
use Rattle.rz_tree.proofs.tree.Tree.grow.Goals as goal

pub invariant_of-self : goal.invariant_of-self
invariant_of-self c =
    subst (λ m. IsKept c.self.inside.names m c.self.inside.made) (sym c.raise_size.ensures)
    (changed-rules c.self.inside.names c.self.inside.inodes c.self.inside.made c.args.fid (with_size_of c.args.size) (λ _. refl) (λ _. refl) c.self.invariant)

pub returns : goal.returns
returns c =
    ap (λ m. tree_of c.self.inside.names m c.self.inside.made) c.raise_size.ensures
    ∙ changed-kept c.self.inside.names c.self.inside.inodes c.self.inside.made c.args.fid (with_size_of c.args.size) (λ (o : Object). record o { size = greater_of o.size c.args.size }) (λ _. refl)
    ∙ ap (λ t. grown t c.args.fid c.args.size) c.self.view_is
