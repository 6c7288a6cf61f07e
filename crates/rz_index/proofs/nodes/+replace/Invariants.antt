use Rattle.rz_index.proofs.nodes.+replace.Given as goal

abbrev pub decreases-replace : goal.decreases-replace
decreases-replace l = l.room
