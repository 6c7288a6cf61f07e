use Rattle.rz_index.proofs.nodes.+with_last.Given as goal

abbrev pub decreases-with_last : goal.decreases-with_last
decreases-with_last l = l.room
