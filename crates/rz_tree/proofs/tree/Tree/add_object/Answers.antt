use Rattle.std.proofs.Common.{◌⊎◌, sym, ap, ◌∙◌, subst, refl}
use Rattle.std.specs.Cmp.{nat_cmp_total}
use Rattle.rz_export_model.specs.Tree.{Tree, Object, with_object}
use Rattle.rz_tree.specs.Inodes.{object_of, with_attributes}
use Rattle.rz_tree.specs.Trees.{tree_of, IsKept}
use Rattle.rz_tree.specs.Added.{with_given, IsFirstObject, IsNextObject}
use Rattle.rz_tree.proofs.Adding.{first-object, next-object, root-given, given-kept, given-tree, no-inode}
use Rattle.rz_tree.proofs.Found.{changed-kept}
use Rattle.rz_tree.proofs.Lasts.{behind-none}
use Rattle.rz_tree.proofs.Rules.{changed-rules}
use Rattle.rz_tree.proofs.tree.Tree.add_object.Goals as goal

pub invariant_of-self : goal.invariant_of-self
invariant_of-self c =
    let s = c.self.inside in
    subst (λ m. IsKept s.names m s.made) (sym c.set_attributes.ensures)
    (changed-rules s.names s.inodes s.made c.args.fid (with_attributes c.args.inode.mode c.args.inode.mtime) (λ _. refl) (λ _. refl) c.self.invariant)

pub returns-then-fid-eq-ROOT-clause-ok : goal.returns-then-fid-eq-ROOT-clause-ok
returns-then-fid-eq-ROOT-clause-ok c =
    let s = c.self.inside in
    let t : Tree = tree_of s.names s.inodes s.made in
    let fid = c.args.fid in
    let o : Object = object_of c.args.inode in
    let change : Object → Object = λ x. record x { mode = o.mode; mtime = o.mtime } in
    let next = subst (λ (x : Tree). IsFirstObject x fid o ⊎ IsNextObject x fid o) (sym c.self.view_is) c.requires.next in
    let zero = c.if-fid-eq-ROOT.true in
    let first = first-object t c.self.invariant.tree fid o next zero in
    ap (λ m. tree_of s.names m s.made) c.set_attributes.ensures
    ∙ changed-kept s.names s.inodes s.made fid (with_attributes c.args.inode.mode c.args.inode.mtime) change (λ _. refl)
    ∙ ap (λ n. with_object t n change) zero ∙ root-given t o first ∙ ap (λ n. with_given t n o) (sym zero)
    ∙ ap (λ (x : Tree). with_given x fid o) c.self.view_is

pub add-requires : goal.add-requires
add-requires c =
    let s = c.self.inside in
    let t : Tree = tree_of s.names s.inodes s.made in
    let o : Object = object_of c.args.inode in
    let next = next-object t c.self.invariant.tree c.args.fid o (subst (λ (x : Tree). IsFirstObject x c.args.fid o ⊎ IsNextObject x c.args.fid o) (sym c.self.view_is) c.requires.next) c.if-fid-eq-ROOT.false in
    no-inode s.inodes c.args.fid (behind-none nat_cmp_total t.objects c.args.fid next.rising)

pub invariant_of-self-2 : goal.invariant_of-self-2
invariant_of-self-2 c =
    let s = c.self.inside in
    let t : Tree = tree_of s.names s.inodes s.made in
    let o : Object = object_of c.args.inode in
    let next = next-object t c.self.invariant.tree c.args.fid o (subst (λ (x : Tree). IsFirstObject x c.args.fid o ⊎ IsNextObject x c.args.fid o) (sym c.self.view_is) c.requires.next) c.if-fid-eq-ROOT.false in
    subst (λ m. IsKept s.names m s.made) (sym c.in_ok-add.ensures.ok)
    (given-kept s.names s.inodes s.made c.self.invariant c.args.fid c.args.inode (no-inode s.inodes c.args.fid (behind-none nat_cmp_total t.objects c.args.fid next.rising)) next.given c.requires.unnamed)

pub returns-clause-ok : goal.returns-clause-ok
returns-clause-ok c =
    let s = c.self.inside in
    let t : Tree = tree_of s.names s.inodes s.made in
    let o : Object = object_of c.args.inode in
    let next = next-object t c.self.invariant.tree c.args.fid o (subst (λ (x : Tree). IsFirstObject x c.args.fid o ⊎ IsNextObject x c.args.fid o) (sym c.self.view_is) c.requires.next) c.if-fid-eq-ROOT.false in
    ap (λ m. tree_of s.names m s.made) c.in_ok-add.ensures.ok
    ∙ given-tree s.names s.inodes s.made c.self.invariant c.args.fid c.args.inode (no-inode s.inodes c.args.fid (behind-none nat_cmp_total t.objects c.args.fid next.rising)) next.given c.requires.unnamed
    ∙ ap (λ (x : Tree). with_given x c.args.fid o) c.self.view_is
