use Rattle.std.proofs.Common.{◌≡◌, ℕ, ◌≤◌, length, drop}
use Rattle.std.specs.Prelude.{All}
use Rattle.rz_export_model.specs.Place.{best_of, clusters_of}
use Rattle.rz_events.specs.Volume.{nodes_of}
use Rattle.rz_place.specs.Candidates.{IsTold, rooms_of}
use Rattle.rz_place.specs.Rooms.{rooms_in}
use Rattle.rz_place.proofs.choice.best_of.Given as goal

abbrev pub invariant-loop-cluster : goal.invariant-loop-cluster
invariant-loop-cluster l =
    (best_of (rooms_of l.best) (clusters_of (drop l.cluster-index l.others) l.rest) ≡ best_of (rooms_in l.first l.free) (clusters_of l.others (drop (length l.first.nodes) l.free)))
    × IsTold l.best
    × (length (nodes_of (drop l.cluster-index l.others)) ≤ length l.rest)
    × ((n : ℕ) → n ≤ length l.first.nodes → All (λ c. n ≤ length c.nodes) l.others → n ≤ length l.best.cluster.now.nodes)
