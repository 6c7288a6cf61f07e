use Rattle.std.proofs.Common.{◌≡◌, map, take}
use Rattle.rz_place.proofs.first_nodes.Given as goal

abbrev pub invariant-loop-i : goal.invariant-loop-i
invariant-loop-i l = l.places ≡ map (λ r. r.sid) (take l.i l.rooms)
