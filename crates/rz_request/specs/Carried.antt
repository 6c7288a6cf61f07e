-- What a migration comes to.
use Rattle.std.specs.Prelude.{ℕ, ◌≡◌, ◌≢◌, ◌⊎◌, ◌++◌, IsTrue, List, [], ◌∷◌, Option, Result, Ok, Err, codes, length}
use Rattle.std.specs.Fmt.{decimal}
use Rattle.mj_angles.specs.Layout.{bsize_of}
use Rattle.rz_disk.specs.Images.{Within}
use Rattle.rz_disk.specs.Meter.{Lasts, Rises, faults}
use Rattle.rz_disk.specs.declared.disk.Disk.{Ghosts}
use Rattle.rz_events.specs.declared.records.Head.{Head}
use Rattle.rz_events.specs.declared.nodes.OpenFault.{OpenFault}
use Rattle.rz_events.specs.declared.nodes.OpenFault.TheVariants.{DiskFault}
use Rattle.rz_events.specs.Nodes.{number_of}
use Rattle.rz_cells_slots.specs.declared.geometry.Geometry.{Geometry}
use Rattle.rz_cells_slots.specs.declared.migrating.MigrateFault.{MigrateFault}
use Rattle.rz_cells_slots.specs.declared.migrating.MigrateFault.TheVariants as carrying
use Rattle.rz_cells_slots.specs.Held.{Records, count_held}
use Rattle.rz_cells_slots.specs.Stands.{IsShut, StandsFor}
use Rattle.rz_cells_slots.specs.Open.{HoldsHeads}
use Rattle.rz_cells_slots.specs.Opening.{NotSize}
use Rattle.rz_cells_slots.specs.Old.{CarriesOver, OldStandsFor}
use Rattle.rz_cells_slots.specs.OldOpening.{OldRefuses}
use Rattle.rz_request.specs.Migrations.{ReadsNode}
use Rattle.rz_request.specs.Requests.{Reading}
use Rattle.rz_request.specs.declared.old.OldNode.{OldNode}
use Rattle.rz_request.specs.declared.refusal.Refusal.TheVariants as refusals
use Rattle.rz_request.specs.declared.refusal.Stop.{Stop}
use Rattle.rz_request.specs.declared.refusal.Stop.TheVariants as stops
use Rattle.rz_request.specs.declared.outcome.Migrated.{Migrated}

unfoldable pub migrated_line : Migrated → List ℕ
migrated_line m = codes "migrated " ++ (decimal m.fence ++ (codes " " ++ (decimal m.records ++ codes "\n")))

-- how the disk of a node is laid out
abbrev pub geometry_of : OldNode → Geometry
geometry_of o = record { layout = o.layout; bsize = bsize_of o.layout; node = o.node.sid; cells = o.node.cells }

-- why there is nothing to tell: a failed call of the old disk, 0, or of the new one, 1; or another fault of the old disk
abbrev pub Stopped : MigrateFault → Stop → Type 0
Stopped carrying.NoMemory stop = stop ≡ stops.NoMemory
Stopped (carrying.Old f) stop =
    ((f ≡ DiskFault) × (stop ≡ stops.Refused (refusals.Disk 0))) ⊎ ((f ≢ DiskFault) × (stop ≡ stops.Refused (refusals.Old (number_of f))))
Stopped carrying.New stop = stop ≡ stops.Refused (refusals.Disk 1)

-- The old disk is as it was, and each image of the new one is one from before, or its header is shut, or it stands for the fence and
-- the records of the old one.
pub record AreCarriedOver {D : Type 0} (G : Ghosts D) (g : Geometry) (old old' new new' : D) : Type 0 where
  pub same : G.text old' ≡ G.text old
  pub old_images : Within (G.image old) (G.image old')
  pub new_images : IsTrue G.tells → (t : List ℕ) → G.image new' t → G.image new t ⊎ IsShut t ⊎ CarriesOver g (G.text old) t
  pub old_lasts : Lasts (G.meter old) (G.meter old')
  pub new_lasts : Lasts (G.meter new) (G.meter new')

-- Both texts stand for the same records with this fence, the new one in cells with these heads.
pub record IsCarried (g : Geometry) (fence : ℕ) (old new : List ℕ) (heads : List (Option Head)) : Type 0 where
  pub holds : HoldsHeads g fence new heads
  pub same : (held : Records) × OldStandsFor g fence old held × StandsFor g fence new held

-- a fault that an opening of the old disk found, other than a failed call, before the new one was called
abbrev pub IsOldDiskRefused : {D : Type 0} → Ghosts D → Geometry → D → D → D → ℕ → Type 0
IsOldDiskRefused G g old new new' cause =
    (f : OpenFault) × (cause ≡ number_of f) × (f ≢ DiskFault) × (IsTrue G.tells → OldRefuses g (G.text old) f)
    × (NotSize f ⊎ OldRefuses g (G.text old) f) × (new' ≡ new)

-- What is told: the fence and the number of the records that were carried over; or a disk of which the faults rose; or a fault of
-- the old disk. Want of memory says nothing.
abbrev pub TellsCarried : {D : Type 0} → Ghosts D → Geometry → D → D → D → D → Result Migrated Stop → Type 0
TellsCarried G g old old' new new' (Ok m) =
    (heads : List (Option Head)) × (m.records ≡ count_held heads)
    × (IsTrue G.tells → IsCarried g m.fence (G.text old) (G.text new') heads × ((t : List ℕ) → G.image new' t → CarriesOver g (G.text old) t))
TellsCarried G g old old' new new' (Err stops.NoMemory) = Unit {0}
TellsCarried G g old old' new new' (Err (stops.Refused (refusals.Disk index))) =
    ((index ≡ 0) × Rises (faults (G.meter old)) (faults (G.meter old'))) ⊎ ((index ≡ 1) × Rises (faults (G.meter new)) (faults (G.meter new')))
TellsCarried G g old old' new new' (Err (stops.Refused (refusals.Old cause))) = IsOldDiskRefused G g old new new' cause
TellsCarried G g old old' new new' (Err _) = ⊥

abbrev pub Carries : {D : Type 0} → Ghosts D → Geometry → D → D → D → D → Result Migrated Stop → Type 0
Carries G g old old' new new' result = AreCarriedOver G g old old' new new' × TellsCarried G g old old' new new' result

-- what comes of the disks for a node, or where there is none
abbrev pub FollowsOldDisk : {D : Type 0} → Ghosts D → Result OldNode Stop → List D → List D → Result Migrated Stop → Type 0
FollowsOldDisk {D} G (Ok o) disks disks' result =
    (old : D) × (new : D) × (old' : D) × (new' : D) × (disks ≡ old ∷ new ∷ []) × (disks' ≡ old' ∷ new' ∷ [])
    × Carries G (geometry_of o) old old' new new' result
FollowsOldDisk G (Err stop) disks disks' result = (disks' ≡ disks) × (result ≡ Err stop)

-- What a migration of node `sid` comes to: what the source asks for of so many disks is answered, and what comes of them.
abbrev pub Migrates : {D : Type 0} → Ghosts D → ℕ → Reading → List D → List D → Result Migrated Stop → Type 0
Migrates G sid source disks disks' result =
    (r : Result OldNode Stop) × ReadsNode source sid (length disks) r × FollowsOldDisk G r disks disks' result
