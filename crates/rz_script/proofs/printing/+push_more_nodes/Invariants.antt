use Rattle.std.proofs.Common.{length}
use Rattle.rz_script.proofs.printing.+push_more_nodes.Given as goal

-- the nodes that are left
abbrev pub decreases-push_more_nodes : goal.decreases-push_more_nodes
decreases-push_more_nodes l = length l.nodes.now
