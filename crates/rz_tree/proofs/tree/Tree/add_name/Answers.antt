use Rattle.std.proofs.Common.{◌≡◌, ◌+◌, sym, ap, ◌∙◌, subst}
use Rattle.std.specs.Option.{option_map}
use Rattle.std.specs.FinMap as maps
use Rattle.rz_export_model.specs.Tree.{Tree, Object, found_at, is_dir, paths_to}
use Rattle.rz_export_model.specs.Refusals.{walk}
use Rattle.rz_export_model.specs.TreeCalls.{with_name}
use Rattle.rz_tree.specs.Inodes.{changed_at, with_links}
use Rattle.rz_tree.specs.Trees.{tree_of, IsKept}
use Rattle.rz_tree.proofs.Adds.{above-there, above-dir, absent-name}
use Rattle.rz_tree.proofs.Calls.{leaf-kept}
use Rattle.rz_tree.proofs.Links.{linked-kept, linked-tree}
use Rattle.rz_tree.proofs.Keys.{false-true}
use Rattle.rz_tree.proofs.tree.Tree.add_name.Goals as goal

pub add-requires-clause-absent : goal.add-requires-clause-absent
add-requires-clause-absent c =
    let s = c.self.inside in
    let q = c.args.to.now in
    absent-name (tree_of s.names s.inodes s.made) c.self.invariant.tree q (ap (λ (t : Tree). found_at t q) c.self.view_is ∙ c.requires.absent)

pub add-requires-clause-parent : goal.add-requires-clause-parent
add-requires-clause-parent c =
    let s = c.self.inside in
    let q = c.args.to.now in
    above-there (tree_of s.names s.inodes s.made) c.self.invariant.tree q c.requires.below (ap (λ (t : Tree). walk t q) c.self.view_is ∙ c.requires.walked)

pub invariant_of-self-2 : goal.invariant_of-self-2
invariant_of-self-2 c =
    let s = c.self.inside in
    let q = c.args.to.now in
    let fid = c.args.fid in
    let t : Tree = tree_of s.names s.inodes s.made in
    let own = leaf-kept s.names s.inodes s.made c.self.invariant fid (ap (λ (x : Tree). option_map (λ (o : Object). is_dir o.kind) (maps.get x.objects fid)) c.self.view_is ∙ c.requires.leaf) in
    let count : own.0.links ≡ c.args.links =
    c.self.invariant.counted fid own.0 own.1 ∙ ap (λ (x : Tree). paths_to x.names fid) c.self.view_is ∙ sym c.requires.count in
    subst (λ n. IsKept n c.set_links.new.self s.made) (sym c.in_ok-add.ensures.ok)
    (subst (λ m. IsKept (maps.insert s.names q fid) m s.made)
    (sym (c.set_links.ensures ∙ ap (λ n. changed_at s.inodes fid (with_links (n + 1))) (sym count)))
    (linked-kept s.names s.inodes s.made c.self.invariant q fid own.0 own.1 (λ dir. absurd (false-true (sym own.2 ∙ dir)))
    (absent-name t c.self.invariant.tree q (ap (λ (x : Tree). found_at x q) c.self.view_is ∙ c.requires.absent))
    (above-dir t c.self.invariant.tree q c.requires.below (ap (λ (x : Tree). walk x q) c.self.view_is ∙ c.requires.walked))))

pub returns-clause-ok : goal.returns-clause-ok
returns-clause-ok c =
    let s = c.self.inside in
    let q = c.args.to.now in
    let fid = c.args.fid in
    let t : Tree = tree_of s.names s.inodes s.made in
    let own = leaf-kept s.names s.inodes s.made c.self.invariant fid (ap (λ (x : Tree). option_map (λ (o : Object). is_dir o.kind) (maps.get x.objects fid)) c.self.view_is ∙ c.requires.leaf) in
    let count : own.0.links ≡ c.args.links =
    c.self.invariant.counted fid own.0 own.1 ∙ ap (λ (x : Tree). paths_to x.names fid) c.self.view_is ∙ sym c.requires.count in
    ap (λ n. tree_of n c.set_links.new.self s.made) c.in_ok-add.ensures.ok
    ∙ ap (λ m. tree_of (maps.insert s.names q fid) m s.made) (c.set_links.ensures ∙ ap (λ n. changed_at s.inodes fid (with_links (n + 1))) (sym count))
    ∙ linked-tree s.names s.inodes s.made c.self.invariant q fid own.0 own.1 (λ dir. absurd (false-true (sym own.2 ∙ dir)))
    (absent-name t c.self.invariant.tree q (ap (λ (x : Tree). found_at x q) c.self.view_is ∙ c.requires.absent))
    (above-dir t c.self.invariant.tree q c.requires.below (ap (λ (x : Tree). walk x q) c.self.view_is ∙ c.requires.walked))
    ∙ ap (λ (x : Tree). with_name x q fid) c.self.view_is
