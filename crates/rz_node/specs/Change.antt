-- A change of what a node holds, in the records that its disk stands for: each has its head and its bins.
use Rattle.std.specs.Prelude.{ℕ, ◌≡◌, ◌⊎◌, Bool, if◌then◌else◌, List, Option, Some, None, is_some}
use Rattle.rz_events.specs.declared.keys.Key.{Key}
use Rattle.rz_events.specs.declared.records.Head.{Head}
use Rattle.rz_events.specs.declared.records.Held.{Held}
use Rattle.rz_record.specs.Slot.{Rec}
use Rattle.rz_node_model.specs.declared.pending.Pending.{Pending}
use Rattle.rz_node_model.specs.Records.{held_of, stamp_of, with_held, carried}
use Rattle.rz_node_model.specs.Records as held
use Rattle.rz_node_model.specs.Versions.{has_stamp}
use Rattle.rz_cells_slots.specs.declared.geometry.Geometry.{Geometry}
use Rattle.rz_cells_slots.specs.Held.{Records, changed, head_in, names}
use Rattle.rz_cells_slots.specs.Stands.{StandsFor}
use Rattle.rz_node.specs.CrashOutcomes.{GivesWay}

-- there is a record for each stamp that is held of a key, and no other
abbrev pub AreHeld : held.Records → Records → Type 0
AreHeld kept records = (key : Key) (stamp : ℕ) → is_some (records key stamp) ≡ has_stamp stamp_of stamp (held_of kept key)

-- of what is held after a change: the new record, and those from before
abbrev pub records_after : held.Records → Option Rec → Records → Records
records_after kept new records key stamp =
    if has_stamp stamp_of stamp (held_of kept key) then (if names (head_in new) key stamp then new else records key stamp) else None

-- a new record is of this key
abbrev pub IsOf : Key → Option Rec → Type 0
IsOf key new = (r : Rec) → new ≡ Some r → r.head.key ≡ key

-- A keep, a refill or a drop of a record of a key, whose records are then `after`: it makes of the records of the disk those
-- that are held afterwards.
abbrev pub IsChangeLaw : Type 0
IsChangeLaw =
    (key : Key) (kept : held.Records) (after : List Held) (new : Option Rec) (gone : Option Head) (records : Records)
    → GivesWay key (held_of kept key) after new gone → IsOf key new → AreHeld kept records
    → changed records gone new ≡ records_after (with_held kept key after) new records

-- A text that stood for what is held or for that with the undecided change: after a start it stands for the one that the
-- answer tells.
abbrev pub IsBranch : Geometry → ℕ → List ℕ → Option Pending → held.Records → Bool → Type 0
IsBranch g fence text undecided kept took =
    (change : Pending) (records changed : Records) → undecided ≡ Some change → AreHeld kept records → AreHeld (carried change kept) changed
    → StandsFor g fence text records ⊎ StandsFor g fence text changed
    → StandsFor g fence text (if took then changed else records)
