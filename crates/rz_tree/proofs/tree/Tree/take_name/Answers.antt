use Rattle.std.proofs.Common.{◌≡◌, [], Some, sym, ap, ◌∙◌, subst, inl, inr}
use Rattle.std.specs.FinMap as maps
use Rattle.rz_export_model.specs.Tree.{Tree, names_under, is_at, is_dir}
use Rattle.rz_export_model.specs.TreeCalls.{without_name}
use Rattle.rz_tree.specs.Trees.{tree_of, IsKept}
use Rattle.rz_tree.proofs.Keys.{true-or-false}
use Rattle.rz_tree.proofs.Names.{leaf-under}
use Rattle.rz_tree.proofs.Calls.{led}
use Rattle.rz_tree.proofs.Takes.{taken-kept, taken-tree}
use Rattle.rz_tree.proofs.tree.Tree.take_name.Goals as goal

pub remove-requires-clause-last : goal.remove-requires-clause-last
remove-requires-clause-last c =
    let t : Tree = tree_of c.self.inside.names c.self.inside.inodes c.self.inside.made in
    elim (true-or-false (is_at t c.args.path.now is_dir)) [
      | inl dir ↦ ap (λ (s : Tree). names_under s.names c.args.path.now) c.self.view_is ∙ c.requires.last (ap (λ s. is_at s c.args.path.now is_dir) (sym c.self.view_is) ∙ dir)
      | inr leaf ↦ leaf-under t c.self.invariant.tree c.args.path.now leaf
    ]

pub invariant_of-self : goal.invariant_of-self
invariant_of-self c =
    let t : Tree = tree_of c.self.inside.names c.self.inside.inodes c.self.inside.made in
    let last : names_under c.self.inside.names c.args.path.now ≡ [] = elim (true-or-false (is_at t c.args.path.now is_dir)) [
      | inl dir ↦ ap (λ (s : Tree). names_under s.names c.args.path.now) c.self.view_is ∙ c.requires.last (ap (λ s. is_at s c.args.path.now is_dir) (sym c.self.view_is) ∙ dir)
      | inr leaf ↦ leaf-under t c.self.invariant.tree c.args.path.now leaf
    ] in
    let at : maps.get c.self.inside.names c.args.path.now ≡ Some c.args.fid = ap (λ (s : Tree). maps.get s.names c.args.path.now) c.self.view_is ∙ c.requires.there in
    let object = led c.self.inside.names c.self.inside.inodes c.self.inside.made c.self.invariant c.args.path.now c.args.fid at in
    subst (λ n. IsKept n c.release.new.self c.self.inside.made) (sym c.remove.ensures)
    (subst (λ m. IsKept (maps.remove c.self.inside.names c.args.path.now) m c.self.inside.made) (sym c.release.ensures)
    (taken-kept c.self.inside.names c.self.inside.inodes c.self.inside.made c.self.invariant c.args.path.now c.args.fid object.0 at object.1 c.requires.below last))

pub returns : goal.returns
returns c =
    let t : Tree = tree_of c.self.inside.names c.self.inside.inodes c.self.inside.made in
    let last : names_under c.self.inside.names c.args.path.now ≡ [] = elim (true-or-false (is_at t c.args.path.now is_dir)) [
      | inl dir ↦ ap (λ (s : Tree). names_under s.names c.args.path.now) c.self.view_is ∙ c.requires.last (ap (λ s. is_at s c.args.path.now is_dir) (sym c.self.view_is) ∙ dir)
      | inr leaf ↦ leaf-under t c.self.invariant.tree c.args.path.now leaf
    ] in
    let at : maps.get c.self.inside.names c.args.path.now ≡ Some c.args.fid = ap (λ (s : Tree). maps.get s.names c.args.path.now) c.self.view_is ∙ c.requires.there in
    let object = led c.self.inside.names c.self.inside.inodes c.self.inside.made c.self.invariant c.args.path.now c.args.fid at in
    ap (λ n. tree_of n c.release.new.self c.self.inside.made) c.remove.ensures
    ∙ ap (λ m. tree_of (maps.remove c.self.inside.names c.args.path.now) m c.self.inside.made) c.release.ensures
    ∙ taken-tree c.self.inside.names c.self.inside.inodes c.self.inside.made c.self.invariant c.args.path.now c.args.fid object.0 at object.1 c.requires.below last
    ∙ ap (λ s. without_name s c.args.path.now) c.self.view_is
