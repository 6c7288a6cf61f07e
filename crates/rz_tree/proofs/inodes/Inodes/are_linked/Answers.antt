use Rattle.std.proofs.Common.{ap, ◌∙◌}
use Rattle.rz_tree.specs.Inodes.{are_linked}
use Rattle.rz_tree.proofs.Named.{linked-row, linked-not, linked-end}
use Rattle.rz_tree.proofs.inodes.Inodes.are_linked.Goals as goal

pub returns-then-inode-eq0 : goal.returns-then-inode-eq0
returns-then-inode-eq0 c =
    linked-not c.loop-inode.inode-iterator c.next.new.self (c.in-Some.field-0-0.now, c.in-Some.inode.now) c.in-Some.ensures.steps c.if-inode-eq0.true
    ∙ c.loop-inode.invariant ∙ ap are_linked c.into_iter-inode-iterator.ensures.into_iter_gives
    ∙ linked-row c.self.inside.entries.entries c.range-inode-items.result c.args.self.now c.range-inode-items.ensures.ordered c.self.view_is (c.range-inode-items.ensures.between tt)

pub returns : goal.returns
returns c =
    linked-end c.loop-inode.inode-iterator c.in-None.ensures.steps.0
    ∙ c.loop-inode.invariant ∙ ap are_linked c.into_iter-inode-iterator.ensures.into_iter_gives
    ∙ linked-row c.self.inside.entries.entries c.range-inode-items.result c.args.self.now c.range-inode-items.ensures.ordered c.self.view_is (c.range-inode-items.ensures.between tt)
