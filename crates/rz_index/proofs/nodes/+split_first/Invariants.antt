use Rattle.rz_index.proofs.nodes.+split_first.Given as goal

abbrev pub decreases-split_first : goal.decreases-split_first
decreases-split_first l = l.room
