use Rattle.std.proofs.Common.{sym, ◌∙◌}
use Rattle.rz_blocks.specs.Rows.{rank}
use Rattle.rz_blocks.proofs.Looked.{found, goes-right, goes-left}
use Rattle.rz_blocks.proofs.marks.look_up.Goals as goal

pub returns-then-is_same : goal.returns-then-is_same
returns-then-is_same c =
    found c.args.rows.now (rank c.args.row) c.loop-left.rest.now c.loop-left.invariant c.in-Some.field-0.left.now c.in-Some.field-0.item.now c.in-Some.field-0.right.now c.in-Some.ensures
    (sym c.is_same.ensures ∙ c.if-is_same.true)

pub loop-left-preserved-then-is_before : goal.loop-left-preserved-then-is_before
loop-left-preserved-then-is_before c =
    goes-right c.args.rows.now (rank c.args.row) c.loop-left.rest.now c.loop-left.invariant c.in-Some.field-0.left.now c.in-Some.field-0.item.now c.in-Some.field-0.right.now c.in-Some.ensures
    (sym c.is_before.ensures ∙ c.if-is_before.true)

pub loop-left-preserved : goal.loop-left-preserved
loop-left-preserved c =
    goes-left c.args.rows.now (rank c.args.row) c.loop-left.rest.now c.loop-left.invariant c.in-Some.field-0.left.now c.in-Some.field-0.item.now c.in-Some.field-0.right.now c.in-Some.ensures
    (sym c.is_same.ensures ∙ c.if-is_same.false) (sym c.is_before.ensures ∙ c.if-is_before.false)
