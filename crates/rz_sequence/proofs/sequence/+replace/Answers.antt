use Rattle.std.proofs.Common.{◌-◌, arith}
use Rattle.rz_sequence.proofs.Places.{put_before, put_at, put_behind}
use Rattle.rz_sequence.proofs.sequence.+replace.Goals as goal
use Rattle.rz_sequence.proofs.sequence.+replace.Goals.{TreeNode::replace-then-at-before, TreeNode::replace-else-at-before+then-at-before-2, TreeNode::replace-else-at-before+else-at-before-2}

pub TreeNode::replace-returns : goal.TreeNode::replace-returns
TreeNode::replace-returns g t c =
    elim c.if-at-before.branch [
      | TreeNode::replace-then-at-before w ↦ rw w.self-inside-is (put_before _ _ _ _ _ _ _ c.self.view_is w.replace.ensures (omega (arith, w.if-at-before.true, c.len-before.ensures)))
      | TreeNode::replace-else-at-before+then-at-before-2 w ↦ rw w.self-inside-is (put_at _ _ _ _ _ _ c.self.view_is (omega (arith, w.if-at-before-2.true, c.len-before.ensures)))
      | TreeNode::replace-else-at-before+else-at-before-2 w ↦ rw w.self-inside-is (put_behind _ _ _ _ _ _ (c.args.at - c.len-before.result - 1) _ c.self.view_is w.replace-else-at-before-2.ensures (omega arith))
    ]
