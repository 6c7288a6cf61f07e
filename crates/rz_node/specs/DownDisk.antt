-- What the disk of a down node may have.
use Rattle.std.specs.Prelude.{ℕ, ◌≡◌, ◌⊎◌, Bool, true, false, not, IsTrue, List, Option, Some, None}
use Rattle.rz_events.specs.declared.records.Head.{Head}
use Rattle.rz_node_model.specs.declared.pending.Pending.{Pending}
use Rattle.rz_node_model.specs.declared.pending.Pending.TheVariants as pending
use Rattle.rz_node_model.specs.Afterwards.{taken}
use Rattle.rz_node_model.specs.Records.{Records, held_of, stamp_of, carried}
use Rattle.rz_node_model.specs.Versions.{has_stamp}
use Rattle.rz_index.specs.Indexed.{Indexed}
use Rattle.rz_cells_slots.specs.declared.geometry.Geometry.{Geometry}
use Rattle.rz_cells_slots.specs.Held.{Apart}
use Rattle.rz_cells_slots.specs.Open.{HoldsHeads}
use Rattle.rz_node.specs.Kept.{held_by, IsTied}

-- an index of these heads shows these records
abbrev pub Shown : ℕ → List (Option Head) → Records → Type 0
Shown pairs heads held = (index : Indexed) × IsTied pairs heads index × (held_by index.entries heads ≡ held)

-- the text holds heads that are apart and show these records
abbrev pub HoldsHeld : Geometry → ℕ → List ℕ → Records → Type 0
HoldsHeld g fence text held = (heads : List (Option Head)) × HoldsHeads g fence text heads × Apart heads × Shown g.cells heads held

-- each image holds the one records or the other
abbrev pub HoldsEitherHeld : Geometry → ℕ → (List ℕ → Type 0) → Records → Records → Type 0
HoldsEitherHeld g fence image before after = (c : List ℕ) → image c → HoldsHeld g fence c before ⊎ HoldsHeld g fence c after

-- whether records have a change: its stamp is there, or no longer there
abbrev pub has_change : Pending → Records → Bool
has_change (pending.Keep key r) held = has_stamp stamp_of r.stamp (held_of held key)
has_change (pending.Refill key r) held = has_stamp stamp_of r.stamp (held_of held key)
has_change (pending.Drop key s) held = not (has_stamp stamp_of s (held_of held key))

-- whether records have the change that was left undecided, if any
abbrev pub has_taken : Option Pending → Records → Bool
has_taken None held = false
has_taken (Some change) held = has_change change held

-- it can be told whether a change was carried out
abbrev pub CanTell : Option Pending → Records → Type 0
CanTell None held = Unit {0}
CanTell (Some change) held = (has_change change held ≡ false) × (has_change change (carried change held) ≡ true)

-- Each image holds what is held, or that with the undecided change, and a start can tell which.
pub record IsDown (tells : Bool) (image : List ℕ → Type 0) (g : Geometry) (fence : ℕ) (undecided : Option Pending) (held : Records) : Type 0 where
  pub each : IsTrue tells → HoldsEitherHeld g fence image held (taken undecided held)
  pub told : CanTell undecided held
