use Rattle.std.proofs.Common.{ap, ◌∙◌, sym, subst}
use Rattle.std.specs.Ordering.{nat_cmp}
use Rattle.std.specs.FinMap as maps
use Rattle.std.specs.FinMap.{get-empty}
use Rattle.rz_names.specs.Names.{root_alone}
use Rattle.rz_tree.specs.Trees.{tree_of, IsKept}
use Rattle.rz_tree.proofs.Rules.{fresh-kept, fresh-tree}
use Rattle.rz_tree.proofs.tree.Tree.new.Goals as goal

pub add-requires : goal.add-requires
add-requires c = ap (λ m. maps.get m 0) c.new-inodes.ensures ∙ get-empty nat_cmp 0

pub invariant_of-result : goal.invariant_of-result
invariant_of-result c =
    let table = c.in_ok-add.ensures.ok ∙ ap (λ m. maps.insert m 0 c.new_directory.result) c.new-inodes.ensures in
    subst (λ n. IsKept n c.add.new.self 0) (sym c.new.ensures)
    (subst (λ m. IsKept root_alone m 0) (sym table) (fresh-kept c.new_directory.result c.new_directory.ensures.object c.new_directory.ensures.links))

pub returns : goal.returns
returns c =
    let table = c.in_ok-add.ensures.ok ∙ ap (λ m. maps.insert m 0 c.new_directory.result) c.new-inodes.ensures in
    ap (λ n. tree_of n c.add.new.self 0) c.new.ensures ∙ ap (λ m. tree_of root_alone m 0) table
    ∙ fresh-tree c.new_directory.result c.new_directory.ensures.object c.new_directory.ensures.links
