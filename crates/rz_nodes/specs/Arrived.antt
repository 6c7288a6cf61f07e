-- What comes of disks of which some are away.
use Rattle.std.specs.Prelude.{ℕ, ◌≡◌, ◌≢◌, Bool, IsTrue, List, Option, Some, None}
use Rattle.mj_angles.specs.declared.layout.Layout.{Layout}
use Rattle.rz_disk.specs.Meter.{Meter}
use Rattle.rz_disk.specs.UnderFuse.{UnderFuse}
use Rattle.rz_events.specs.Volume.{IsNode}
use Rattle.rz_cells_slots.specs.Held.{Records}
use Rattle.rz_cells_slots.specs.Stands.{StandsFor}
use Rattle.rz_nodes.specs.declared.arriving.KnownNode.{KnownNode}
use Rattle.rz_nodes.specs.declared.arriving.Arrival.{Arrival}
use Rattle.rz_nodes.specs.declared.arriving.Arrival.TheVariants as arrival
use Rattle.rz_nodes.specs.declared.arriving.Missing.{Missing}
use Rattle.rz_nodes.specs.declared.arriving.Missing.TheVariants as missing
use Rattle.rz_nodes.specs.declared.formatting.Server.{Server}
use Rattle.rz_nodes.specs.Formatted.{geometry_of}
use Rattle.rz_nodes.specs.Opened.{IsDiskBack, IsFaultOf, IsNodeOpened}

abbrev pub IsKnown : KnownNode → Type 0
IsKnown known = IsNode known.node

-- the text stands for records, and under another fence than the one that is known
abbrev pub IsStale : Bool → Layout → KnownNode → List ℕ → Type 0
IsStale tells layout known text =
    IsTrue tells → (fence : ℕ) × (records : Records) × StandsFor (geometry_of layout known.node) fence text records × (fence ≢ known.fence)

-- No disk is here: there is none, or it did not open, or it is stale. One that is not taken is as it came.

abbrev pub IsMissing : {D : Type 0} → Bool → (D → Meter) → (D → List ℕ) → (D → List ℕ → Type 0) → Layout → KnownNode → Option D → Missing D → Type 0
IsMissing tells meter text image layout known None missing.Absent = Unit {0}
IsMissing tells meter text image layout known (Some disk) (missing.Unopened back why) =
    IsDiskBack meter text image disk back × IsFaultOf tells meter text layout known.node disk back why
IsMissing tells meter text image layout known (Some disk) (missing.Stale back) =
    IsDiskBack meter text image disk back × IsStale tells layout known (text disk)
IsMissing tells meter text image layout known disk why = ⊥

-- It opened under the fence that is known.
abbrev pub IsHere : {D : Type 0} → Bool → (D → Meter) → (D → List ℕ) → (D → List ℕ → Type 0) → Layout → KnownNode → Option D → Server (UnderFuse D) → Type 0
IsHere tells meter text image layout known None s = ⊥
IsHere tells meter text image layout known (Some disk) s =
    IsNodeOpened tells meter text image layout ((known.node, known.losses), disk) s × (s.node.state.fence ≡ known.fence)

abbrev pub IsArrival : {D : Type 0} → Bool → (D → Meter) → (D → List ℕ) → (D → List ℕ → Type 0) → Layout → KnownNode × Option D → Arrival D → Type 0
IsArrival tells meter text image layout handed (arrival.Here s) = IsHere tells meter text image layout handed.0 handed.1 s
IsArrival tells meter text image layout handed (arrival.Away why) = IsMissing tells meter text image layout handed.0 handed.1 why
