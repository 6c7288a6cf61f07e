use Rattle.rz_index.proofs.nodes.+take.Given as goal

abbrev pub decreases-take : goal.decreases-take
decreases-take l = l.room
