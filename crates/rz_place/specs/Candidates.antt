-- Clusters of which one is chosen.
use Rattle.std.specs.Prelude.{◌≤◌, length}
use Rattle.rz_export_model.specs.Place.{Rooms}
use Rattle.rz_place.specs.declared.choice.Candidate.{Candidate}
use Rattle.rz_place.specs.Rooms.{rooms_in}

-- it has at most 64 nodes, and the free cells of each are told
pub record IsTold (c : Candidate) : Type 0 where
  pub few : length c.cluster.now.nodes ≤ 64
  pub all : length c.cluster.now.nodes ≤ length c.free.now

abbrev pub rooms_of : Candidate → Rooms
rooms_of c = rooms_in c.cluster.now c.free.now
