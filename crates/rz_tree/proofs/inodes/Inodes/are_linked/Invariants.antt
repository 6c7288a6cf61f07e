use Rattle.std.proofs.Common.{◌≡◌}
use Rattle.rz_tree.specs.Inodes.{are_linked}
use Rattle.rz_tree.proofs.inodes.Inodes.are_linked.Given as goal

-- each of what is left is linked where each of all is
abbrev pub invariant-loop-inode : goal.invariant-loop-inode
invariant-loop-inode l = are_linked l.inode-iterator ≡ are_linked l.initial.inode-iterator
