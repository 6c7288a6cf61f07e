use Rattle.std.proofs.Common.{◌≡◌, ◌+◌, ◌<◌, is_some, sym, ap, ◌∙◌, subst, arith}
use Rattle.std.specs.Option.{option_map}
use Rattle.std.specs.FinMap as maps
use Rattle.rz_export_model.specs.Paths.{paths_total, above}
use Rattle.rz_export_model.specs.Tree.{Tree, paths_to}
use Rattle.rz_export_model.specs.TreeCalls.{with_name}
use Rattle.rz_tree.specs.declared.inodes.Inode.{Inode}
use Rattle.rz_tree.specs.Inodes.{changed_at, with_links}
use Rattle.rz_tree.specs.Trees.{tree_of, IsKept}
use Rattle.rz_tree.specs.Added.{IsNextName}
use Rattle.rz_tree.proofs.Adding.{next-kept, named-few}
use Rattle.rz_tree.proofs.Keys.{same_some, not_none}
use Rattle.rz_tree.proofs.Lasts.{behind-none}
use Rattle.rz_tree.proofs.Links.{linked-kept, linked-tree}
use Rattle.rz_tree.proofs.Rules.{dir-found, from-map}
use Rattle.rz_tree.proofs.tree.Tree.add_next_name.Goals as goal

pub returns-in_default-clause-ok : goal.returns-in_default-clause-ok
returns-in_default-clause-ok c =
    let s = c.self.inside in
    let next = subst (λ (t : Tree). IsNextName t c.args.path.now c.args.fid) (sym c.self.view_is) c.requires in
    let own = next-kept s.names s.inodes s.made c.args.path.now c.args.fid next in
    absurd (not_none own.0.links (sym (ap (option_map (λ (i : Inode). i.links)) own.1) ∙ sym c.links.ensures ∙ c.in_default.is))

pub add-requires-clause-absent : goal.add-requires-clause-absent
add-requires-clause-absent c =
    let next = subst (λ (t : Tree). IsNextName t c.args.path.now c.args.fid) (sym c.self.view_is) c.requires in
    behind-none paths_total c.self.inside.names c.args.path.now next.rising

pub add-requires-clause-parent : goal.add-requires-clause-parent
add-requires-clause-parent c =
    let s = c.self.inside in
    let next = subst (λ (t : Tree). IsNextName t c.args.path.now c.args.fid) (sym c.self.view_is) c.requires in
    let d = dir-found (tree_of s.names s.inodes s.made) (above c.args.path.now) next.under in
    ap is_some d.at

pub overflow_add-links : goal.overflow_add-links
overflow_add-links c =
    let s = c.self.inside in
    let next = subst (λ (t : Tree). IsNextName t c.args.path.now c.args.fid) (sym c.self.view_is) c.requires in
    let own = from-map (λ (i : Inode). i.links) (maps.get s.inodes c.args.fid) c.in-Some.links (sym c.links.ensures ∙ c.in-Some.is) in
    let count : own.0.links ≡ paths_to s.names c.args.fid = c.self.invariant.counted c.args.fid own.0 own.1 in
    let few : paths_to s.names c.args.fid < 65535 = named-few (tree_of s.names s.inodes s.made) c.args.path.now c.args.fid next in
    let same : own.0.links ≡ c.in-Some.links = own.2 in
    omega (arith, count, few, same)

pub invariant_of-self-2 : goal.invariant_of-self-2
invariant_of-self-2 c =
    let s = c.self.inside in
    let p = c.args.path.now in
    let fid = c.args.fid in
    let next = subst (λ (t : Tree). IsNextName t p fid) (sym c.self.view_is) c.requires in
    let own = next-kept s.names s.inodes s.made p fid next in
    let links = ap (option_map (λ (i : Inode). i.links)) (sym own.1) ∙ sym c.links.ensures ∙ c.in-Some.is in
    subst (λ n. IsKept n c.set_links.new.self s.made) (sym c.in_ok-add.ensures.ok)
    (subst (λ m. IsKept (maps.insert s.names p fid) m s.made)
    (sym (c.set_links.ensures ∙ ap (λ n. changed_at s.inodes fid (with_links (n + 1))) (sym (same_some own.0.links c.in-Some.links links))))
    (linked-kept s.names s.inodes s.made c.self.invariant p fid own.0 own.1 own.2 (behind-none paths_total s.names p next.rising) next.under))

pub returns-clause-ok : goal.returns-clause-ok
returns-clause-ok c =
    let s = c.self.inside in
    let p = c.args.path.now in
    let fid = c.args.fid in
    let next = subst (λ (t : Tree). IsNextName t p fid) (sym c.self.view_is) c.requires in
    let own = next-kept s.names s.inodes s.made p fid next in
    let links = ap (option_map (λ (i : Inode). i.links)) (sym own.1) ∙ sym c.links.ensures ∙ c.in-Some.is in
    ap (λ n. tree_of n c.set_links.new.self s.made) c.in_ok-add.ensures.ok
    ∙ ap (λ m. tree_of (maps.insert s.names p fid) m s.made) (c.set_links.ensures ∙ ap (λ n. changed_at s.inodes fid (with_links (n + 1))) (sym (same_some own.0.links c.in-Some.links links)))
    ∙ linked-tree s.names s.inodes s.made c.self.invariant p fid own.0 own.1 own.2 (behind-none paths_total s.names p next.rising) next.under
    ∙ ap (λ (t : Tree). with_name t p fid) c.self.view_is
