use Rattle.rz_index.proofs.nodes.+insert.Given as goal

abbrev pub decreases-insert : goal.decreases-insert
decreases-insert l = l.room
