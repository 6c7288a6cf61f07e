use Rattle.rz_index.proofs.Rotations.{rotated-left, rotated-left-twice}
use Rattle.rz_index.proofs.nodes.rotated_left.Goals as goal

pub returns-in-Some-sides : goal.returns-in-Some-sides
returns-in-Some-sides c =
    rotated-left-twice c.args.row.now c.linked-low.new.row c.linked-high.new.row c.linked-in-Some-sides.new.row c.args.left c.args.middle c.args.right c.in-Some.inner c.in-Some.outer c.in-Some-sides.front c.in-Some-sides.back
    c.linked-low.result c.linked-high.result c.linked-in-Some-sides.result c.in-Some.ensures c.in-Some-sides.ensures c.linked-low.ensures c.linked-high.ensures c.linked-in-Some-sides.ensures

pub returns : goal.returns
returns c =
    rotated-left c.args.row.now c.linked-low-2.new.row c.linked-2.new.row c.args.left c.args.middle c.args.right c.in-Some.inner c.in-Some.outer c.linked-low-2.result c.linked-2.result c.in-Some.ensures c.linked-low-2.ensures c.linked-2.ensures
