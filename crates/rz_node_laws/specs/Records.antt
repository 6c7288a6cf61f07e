-- The records that stand on a node's disk: each is that of a write, with the head and the bins that the facts of the log
-- give it.
use Rattle.std.specs.Prelude.{ℕ, ◌≡◌, List, map, Option, Some, slice_get}
use Rattle.std.specs.Option.{option_map}
use Rattle.rz_events.specs.Volume.{Volume}
use Rattle.rz_events.specs.declared.keys.Key.{Key}
use Rattle.rz_events.specs.declared.records.Head.{Head}
use Rattle.rz_events.specs.declared.nodes.NodeAsk.{NodeAsk}
use Rattle.rz_events.specs.declared.nodes.NodeAsk.TheVariants as ask
use Rattle.rz_record.specs.Slot.{Rec}
use Rattle.rz_node_model.specs.Records.{held_of, stamp_of}
use Rattle.rz_node_model.specs.Records as held
use Rattle.rz_cells_slots.specs.Held.{Records}
use Rattle.rz_core.specs.History.{Facts, Begun}
use Rattle.rz_core.specs.HeldRecords.{block_of, bins_at, head_at, record_on, records_of}
use Rattle.rz_log_laws.specs.Places.{IsApart}

-- a head with its bins, as a disk has them
abbrev pub on_disk : Option (Head × List ℕ) → Option Rec
on_disk r = option_map (λ (p : Head × List ℕ). (let it : Rec = record { head = p.0; bins = p.1 } in it)) r

-- the stamps of the records that are held of a key
abbrev pub stamps_of : held.Records → Key → List ℕ
stamps_of kept key = map stamp_of (held_of kept key)

-- The records of node n that holds these: those of the writes of their stamps.
abbrev pub records_in : Volume → Facts → ℕ → held.Records → Records
records_in v f n kept key stamp = on_disk (records_of v f n (stamps_of kept) key stamp)

-- What a node is to keep is the record of its write at node n.
abbrev pub IsRecordOf : Volume → Facts → ℕ → Head → List ℕ → Type 0
IsRecordOf v f n head bins = record_on v.layout n head.stamp (f.wrote head.stamp) (f.places head.key.fid) ≡ Some (head, bins)

-- So it is where a call hands a record in.
abbrev pub HandsRecord : Volume → Facts → ℕ → NodeAsk → List ℕ → Type 0
HandsRecord v f n (ask.Keep head) bins = IsRecordOf v f n head bins
HandsRecord v f n (ask.Refill fence head) bins = IsRecordOf v f n head bins
HandsRecord v f n question bins = Unit {0}

-- The head and the bins are those of the write that began with the head's stamp, at the head's position; and n is the one
-- node of the file at that position.
pub record IsWritten (v : Volume) (f : Facts) (n : ℕ) (head : Head) (bins : List ℕ) : Type 0 where
  pub begun : Begun
  pub places : List ℕ
  pub wrote : f.wrote head.stamp ≡ Some begun
  pub head_is : head ≡ head_at v.layout head.stamp begun head.position
  pub bins_are : bins ≡ bins_at v.layout (block_of v.layout begun.text) head.position
  pub placed : f.places head.key.fid ≡ Some places
  pub at : slice_get places head.position ≡ Some n
  pub apart : IsApart places
