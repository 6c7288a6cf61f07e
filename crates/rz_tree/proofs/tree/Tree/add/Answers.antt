use Rattle.std.proofs.Common.{◌≡◌, ◌+◌, None, sym, ap, ◌∙◌, subst}
use Rattle.std.specs.FinMap as maps
use Rattle.rz_export_model.specs.Firsts.{first_of}
use Rattle.rz_export_model.specs.Tree.{Tree}
use Rattle.rz_export_model.specs.Refusals.{can_not_make}
use Rattle.rz_export_model.specs.TreeCalls.{with_new}
use Rattle.rz_tree.specs.Inodes.{object_of}
use Rattle.rz_tree.specs.Trees.{tree_of, IsKept}
use Rattle.rz_tree.proofs.Adds.{above-there, free-root, free-walk, next-new, added-kept, added-tree, undone}
use Rattle.rz_tree.proofs.tree.Tree.add.Goals as goal

pub add-requires : goal.add-requires
add-requires c = next-new c.self.inside.names c.self.inside.inodes c.self.inside.made c.self.invariant

pub add-requires-2-clause-parent : goal.add-requires-2-clause-parent
add-requires-2-clause-parent c =
    let t : Tree = tree_of c.self.inside.names c.self.inside.inodes c.self.inside.made in
    let free : first_of (can_not_make t c.args.path.now) ≡ None = ap (λ s. first_of (can_not_make s c.args.path.now)) c.self.view_is ∙ c.requires.free in
    above-there t c.self.invariant.tree c.args.path.now (free-root t c.args.path.now free) (free-walk t c.args.path.now free)

pub invariant_of-self-in-Ok : goal.invariant_of-self-in-Ok
invariant_of-self-in-Ok c =
    let t : Tree = tree_of c.self.inside.names c.self.inside.inodes c.self.inside.made in
    let free : first_of (can_not_make t c.args.path.now) ≡ None = ap (λ s. first_of (can_not_make s c.args.path.now)) c.self.view_is ∙ c.requires.free in
    let fid = c.self.inside.made + 1 in
    subst (λ n. IsKept n c.add.new.self fid) (sym c.in-Ok.ensures.ok)
    (subst (λ m. IsKept (maps.insert c.self.inside.names c.args.path.now fid) m fid) (sym c.in_ok-add.ensures.ok)
    (added-kept c.self.inside.names c.self.inside.inodes c.self.inside.made c.self.invariant c.args.path.now c.args.inode free c.requires.one))

pub invariant_of-self-in-Err : goal.invariant_of-self-in-Err
invariant_of-self-in-Err c =
    let fid = c.self.inside.made + 1 in
    let same : c.remove.new.self ≡ c.self.inside.inodes =
    c.remove.ensures ∙ ap (λ m. maps.remove m fid) c.in_ok-add.ensures.ok
    ∙ undone c.self.inside.inodes fid c.args.inode (next-new c.self.inside.names c.self.inside.inodes c.self.inside.made c.self.invariant) in
    subst (λ n. IsKept n c.remove.new.self c.self.inside.made) (sym c.in-Err.ensures.err)
    (subst (λ m. IsKept c.self.inside.names m c.self.inside.made) (sym same) c.self.invariant)

pub returns-in-Ok-clause-ok : goal.returns-in-Ok-clause-ok
returns-in-Ok-clause-ok c =
    let t : Tree = tree_of c.self.inside.names c.self.inside.inodes c.self.inside.made in
    let free : first_of (can_not_make t c.args.path.now) ≡ None = ap (λ s. first_of (can_not_make s c.args.path.now)) c.self.view_is ∙ c.requires.free in
    let fid = c.self.inside.made + 1 in
    ap (λ n. tree_of n c.add.new.self fid) c.in-Ok.ensures.ok
    ∙ ap (λ m. tree_of (maps.insert c.self.inside.names c.args.path.now fid) m fid) c.in_ok-add.ensures.ok
    ∙ added-tree c.self.inside.names c.self.inside.inodes c.self.inside.made c.self.invariant c.args.path.now c.args.inode free c.requires.one
    ∙ ap (λ s. with_new s c.args.path.now (object_of c.args.inode)) c.self.view_is

pub returns-in-Err-clause-err : goal.returns-in-Err-clause-err
returns-in-Err-clause-err c =
    let fid = c.self.inside.made + 1 in
    let same : c.remove.new.self ≡ c.self.inside.inodes =
    c.remove.ensures ∙ ap (λ m. maps.remove m fid) c.in_ok-add.ensures.ok
    ∙ undone c.self.inside.inodes fid c.args.inode (next-new c.self.inside.names c.self.inside.inodes c.self.inside.made c.self.invariant) in
    ap (λ n. tree_of n c.remove.new.self c.self.inside.made) c.in-Err.ensures.err
    ∙ ap (λ m. tree_of c.self.inside.names m c.self.inside.made) same ∙ c.self.view_is
