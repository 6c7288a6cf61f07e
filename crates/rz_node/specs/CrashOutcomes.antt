-- What the images of a disk stand for when a record of a key is put into a cell, or cleared.
use Rattle.std.specs.Prelude.{ℕ, ◌≡◌, Bool, true, not, ◌&&◌, ◌||◌, List, Option, Some}
use Rattle.std.specs.Option.{option_map}
use Rattle.rz_events.specs.declared.keys.Key.{Key}
use Rattle.rz_events.specs.declared.records.Head.{Head}
use Rattle.rz_events.specs.declared.records.Held.{Held}
use Rattle.rz_disk.specs.Images.{Only}
use Rattle.rz_record.specs.Slot.{Rec}
use Rattle.rz_node_model.specs.Records.{record_of, stamp_of}
use Rattle.rz_node_model.specs.Versions.{has_stamp}
use Rattle.rz_versions.specs.Sides.{has}
use Rattle.rz_cells_slots.specs.declared.geometry.Geometry.{Geometry}
use Rattle.rz_cells_slots.specs.Held.{names}
use Rattle.rz_cells_slots.specs.Stands.{StandsEither, StandsChanged}

-- whether a new record has this stamp
abbrev pub is_new : Option Rec → ℕ → Bool
is_new new t = has stamp_of (option_map (λ (r : Rec). record_of r.head) new) t

-- The record that gives way is the key's, if any: after the change the key has the new record and all that it had but
-- this one.
pub record GivesWay (key : Key) (before after : List Held) (new : Option Rec) (gone : Option Head) : Type 0 where
  pub named : (h : Head) → gone ≡ Some h → h.key ≡ key
  pub stays : (t : ℕ) → has_stamp stamp_of t after ≡ (is_new new t || (has_stamp stamp_of t before && not (names gone key t)))

-- A change of a key's records, which were `before` and are then `after`. On every exit each image stands for the records
-- that the text stood for or for those with the change; where all device calls went well, the text, which is the one
-- image, stands for those with the change.
pub record CrashOutcomes (g : Geometry) (fence : ℕ) (text text' : List ℕ) (image : List ℕ → Type 0) (used : Option Bool) (key : Key) (before after : List Held) (new : Option Rec) : Type 0 where
  pub gone : Option Head
  pub way : GivesWay key before after new gone
  pub either : StandsEither g fence text image gone new
  pub done : used ≡ Some true → StandsChanged g fence text text' gone new
  pub settled : used ≡ Some true → Only text' image
