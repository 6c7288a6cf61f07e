use Rattle.std.proofs.Common.{◌≡◌, Bool, true, ◌↔◌, sym, subst}
use Rattle.rz_export_model.specs.Tree.{Tree}
use Rattle.rz_tree.specs.Trees.{tree_of}
use Rattle.rz_tree.specs.Added.{AreNamed}
use Rattle.rz_tree.proofs.Named.{named-rules}
use Rattle.rz_tree.proofs.tree.Tree.is_named.Goals as goal

pub returns : goal.returns
returns c =
    let s = c.self.inside in
    subst (λ (t : Tree). (c.are_linked.result ≡ true) ↔ AreNamed t) c.self.view_is
    (subst (λ (b : Bool). (b ≡ true) ↔ AreNamed (tree_of s.names s.inodes s.made)) (sym c.are_linked.ensures) (named-rules s.names s.inodes s.made c.self.invariant.counted))
