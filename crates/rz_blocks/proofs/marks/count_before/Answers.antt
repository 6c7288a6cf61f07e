use Rattle.std.proofs.Common.{sym, ◌∙◌, arith}
use Rattle.rz_blocks.specs.Rows.{rank}
use Rattle.rz_blocks.proofs.FoundRows.{goes-right, goes-left, left-fits}
use Rattle.rz_blocks.proofs.marks.count_before.Goals as goal

pub loop-left-preserved-then-is_before : goal.loop-left-preserved-then-is_before
loop-left-preserved-then-is_before c =
    goes-right c.args.rows.now (rank c.args.row) c.loop-left.rest.now c.loop-left.end c.loop-left.invariant c.in-Some.field-0.left.now c.in-Some.field-0.item.now c.in-Some.field-0.right.now c.in-Some.ensures
    (sym c.is_before.ensures ∙ c.if-is_before.true)

pub overflow_add-end : goal.overflow_add-end
overflow_add-end c =
    omega (
      arith,
      c.len.ensures,
      left-fits c.args.rows.now (rank c.args.row) c.loop-left.rest.now c.loop-left.end c.loop-left.invariant c.in-Some.field-0.left.now c.in-Some.field-0.item.now c.in-Some.field-0.right.now c.in-Some.ensures
          (sym c.is_before.ensures ∙ c.if-is_before.false),
    )

pub overflow_sub-end : goal.overflow_sub-end
overflow_sub-end c =
    omega (
      arith,
      c.len.ensures,
      left-fits c.args.rows.now (rank c.args.row) c.loop-left.rest.now c.loop-left.end c.loop-left.invariant c.in-Some.field-0.left.now c.in-Some.field-0.item.now c.in-Some.field-0.right.now c.in-Some.ensures
          (sym c.is_before.ensures ∙ c.if-is_before.false),
    )

pub loop-left-preserved : goal.loop-left-preserved
loop-left-preserved c =
    rw c.len.ensures
    (goes-left c.args.rows.now (rank c.args.row) c.loop-left.rest.now c.loop-left.end c.loop-left.invariant c.in-Some.field-0.left.now c.in-Some.field-0.item.now c.in-Some.field-0.right.now c.in-Some.ensures
    (sym c.is_before.ensures ∙ c.if-is_before.false))
