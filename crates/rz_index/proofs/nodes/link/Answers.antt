use Rattle.std.proofs.Common.{◌≡◌, set, sym, ap, ◌∙◌, refl}
use Rattle.rz_index.specs.declared.nodes.IndexNode.{IndexNode}
use Rattle.rz_index.proofs.Rotations.{none}
use Rattle.rz_index.proofs.Standing.{joined, elsewhere, written, read, same-node}
use Rattle.rz_index.proofs.nodes.link.Goals as goal

pub returns-then-middle-row : goal.returns-then-middle-row
returns-then-middle-row c = λ l r e parts h.
    let row = c.args.row.now in
    let m = c.args.middle in
    let old = c.index-row-middle.result in
    let its = h.2.1.2 in
    let node : IndexNode = record { packed = c.set_height.new.self; left = c.args.left; right = c.args.right } in
    let same : old ≡ h.2.1.0 = same-node row m old h.2.1.0 (read row m old its.linked its.within c.index-row-middle.is) its in
    let packed : node.packed ≡ e = c.set_height.ensures ∙ ap (λ (n : IndexNode). n.packed) (sym c.index-row-middle.is ∙ same) ∙ h.2.1.3 in
    joined row (set row m node) c.args.left m c.args.right l r e parts none node (elsewhere row m node) (written row m node its.linked its.within) packed refl refl h
