use Rattle.std.proofs.Common.{get_or, set}
use Rattle.rz_index.specs.declared.nodes.IndexNode.{IndexNode}
use Rattle.rz_index.proofs.Rotations.{none}
use Rattle.rz_index.proofs.Standing.{entry-set, elsewhere, written}
use Rattle.rz_index.proofs.nodes.set_entry.Goals as goal

pub returns-then-place-row : goal.returns-then-place-row
returns-then-place-row c = λ e parts h.
    let row = c.args.row.now in
    let m = c.args.place in
    let old = c.index-row-place.result in
    let its = h.1.2 in
    let node : IndexNode = record { packed = c.new-node.result; left = (get_or row m old).left; right = (get_or row m old).right } in
    entry-set row (set row m node) m e c.args.entry.now parts none node (elsewhere row m node) (written row m node its.linked its.within) c.new-node.ensures h
