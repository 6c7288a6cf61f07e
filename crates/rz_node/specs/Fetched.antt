-- What a fetch gives of the records that a disk stands for.
use Rattle.std.specs.Prelude.{ℕ, ◌≡◌, ◌++◌, List, drop, length, Some}
use Rattle.mj_angles.specs.declared.layout.Layout.{Layout}
use Rattle.rz_events.specs.declared.keys.Key.{Key}
use Rattle.rz_events.specs.declared.records.Held.{Held}
use Rattle.rz_events.specs.declared.nodes.FetchAnswer.{FetchAnswer}
use Rattle.rz_events.specs.declared.nodes.FetchAnswer.TheVariants as fetch
use Rattle.rz_events.specs.declared.nodes.NodeAnswer.{NodeAnswer}
use Rattle.rz_events.specs.declared.nodes.NodeAnswer.TheVariants as answer
use Rattle.rz_client_model.specs.Read.{IsFetched}
use Rattle.rz_node_model.specs.Records.{record_of}
use Rattle.rz_record.specs.Slot.{Rec}
use Rattle.rz_cells_slots.specs.declared.geometry.Geometry.{Geometry}
use Rattle.rz_cells_slots.specs.Held.{Records}
use Rattle.rz_cells_slots.specs.Stands.{StandsFor}

-- Where the text stands for records, what is told of the record of this key and stamp is true, and its bins stand in
-- front of what was there.
abbrev pub IsFetchedFromDisk : Geometry → ℕ → List ℕ → Key → Held → List ℕ → List ℕ → Type 0
IsFetchedFromDisk g fence text key told old new =
    (records : Records) → StandsFor g fence text records
    → (r : Rec) × (records key told.stamp ≡ Some r) × (record_of r.head ≡ told) × (new ≡ r.bins ++ drop (length r.bins) old)

abbrev pub IfHeld : FetchAnswer → (Held → Type 0) → Type 0
IfHeld (fetch.Held told) P = P told
IfHeld _ P = Unit {0}

-- an answer that tells of a record tells what one of the layout may have
abbrev pub IsFetchOf : Layout → NodeAnswer → Type 0
IsFetchOf layout (answer.Fetch a) = IsFetched layout a
IsFetchOf layout given = Unit {0}
