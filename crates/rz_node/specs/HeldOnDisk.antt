-- What is held, as what a disk stands for.
use Rattle.std.specs.Prelude.{ℕ, ◌≡◌, ◌<◌, List, [], ◌∷◌}
use Rattle.std.specs.Option.{option_map}
use Rattle.rz_events.specs.declared.keys.Key.{Key}
use Rattle.rz_events.specs.declared.records.Held.{Held}
use Rattle.rz_record.specs.Slot.{Rec}
use Rattle.rz_node_model.specs.Records.{IsWhole, record_of, held_of, found}
use Rattle.rz_node_model.specs.Records as held
use Rattle.rz_cells_slots.specs.Held.{Records}

-- each record has a smaller stamp than the one before it
abbrev pub Falls : List Held → Type 0
Falls [] = Unit {0}
Falls (a ∷ []) = Unit {0}
Falls (a ∷ b ∷ more) = (b.stamp < a.stamp) × Falls (b ∷ more)

-- Under each key and stamp the records have what is held, no key is held with no record, and the records of a key fall by
-- stamp.
pub record IsHeldOnDisk (kept : held.Records) (records : Records) : Type 0 where
  pub same : (key : Key) (stamp : ℕ) → found stamp (held_of kept key) ≡ option_map (λ (r : Rec). record_of r.head) (records key stamp)
  pub whole : IsWhole kept
  pub falls : (key : Key) → Falls (held_of kept key)
