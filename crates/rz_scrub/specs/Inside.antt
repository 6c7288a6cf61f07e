-- How the bins are kept.
use Rattle.std.specs.Prelude.{ℕ, ◌≡◌, ◌<◌, if◌then◌else◌, List, Option, Some, None, length, map, slice_index_or, vec_len}
use Rattle.mj_angles.specs.declared.layout.Layout.{Layout}
use Rattle.mj_angles.specs.Layout.{safe_of, bins_at_of}
use Rattle.rz_scrub.specs.Records.{Records}
use Rattle.rz_scrub.specs.declared.slots.BinSlot.{BinSlot}

-- the bins in a slot, if they were added
abbrev pub bins_in : BinSlot → Option (List ℕ)
bins_in slot = if slot.is_added then Some slot.bins.items else None

-- what contracts see of the slots of a layout
abbrev pub records_of : Layout → List BinSlot → Records
records_of layout slots = record { layout = layout; bins = map bins_in slots }

-- a slot for each position, with room for its bins
pub record IsSlots (layout : Layout) (slots : List BinSlot) : Type 0 where
  pub places : length slots ≡ safe_of layout
  pub rooms : (position : ℕ) (d : BinSlot) → position < length slots → vec_len (slice_index_or slots position d).bins ≡ bins_at_of layout position
