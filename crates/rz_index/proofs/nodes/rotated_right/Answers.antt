use Rattle.rz_index.proofs.Rotations.{rotated-right, rotated-right-twice}
use Rattle.rz_index.proofs.nodes.rotated_right.Goals as goal

pub returns-in-Some-sides : goal.returns-in-Some-sides
returns-in-Some-sides c =
    rotated-right-twice c.args.row.now c.linked-low.new.row c.linked-high.new.row c.linked-in-Some-sides.new.row c.args.left c.args.middle c.args.right c.in-Some.outer c.in-Some.inner c.in-Some-sides.front c.in-Some-sides.back
    c.linked-low.result c.linked-high.result c.linked-in-Some-sides.result c.in-Some.ensures c.in-Some-sides.ensures c.linked-low.ensures c.linked-high.ensures c.linked-in-Some-sides.ensures

pub returns : goal.returns
returns c =
    rotated-right c.args.row.now c.linked-high-2.new.row c.linked-2.new.row c.args.left c.args.middle c.args.right c.in-Some.outer c.in-Some.inner c.linked-high-2.result c.linked-2.result c.in-Some.ensures c.linked-high-2.ensures c.linked-2.ensures
