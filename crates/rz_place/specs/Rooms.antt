-- A cluster with the free cells of its nodes.
use Rattle.std.specs.Prelude.{ℕ, List}
use Rattle.rz_events.specs.Volume.{Cluster}
use Rattle.rz_export_model.specs.Place.{Rooms, rooms_of}

-- one number per node, in the order of the description
abbrev pub rooms_in : Cluster → List ℕ → Rooms
rooms_in c free = record { cid = c.cid; nodes = rooms_of c.nodes free }
