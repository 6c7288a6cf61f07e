-- What a turn makes of the metadata.
use Rattle.std.specs.Prelude.{ℕ, Bool, ◌≡◌, List, Option, Some}
use Rattle.rz_disk.specs.Meter.{Meter}
use Rattle.rz_events.specs.declared.keys.Actor.{Actor}
use Rattle.rz_events.specs.declared.export.Call.{Call}
use Rattle.rz_events.specs.declared.events.Event.{Event}
use Rattle.rz_events.specs.declared.events.Word.TheVariants.{Export}
use Rattle.rz_export_model.specs.Export.{export_reply}
use Rattle.rz_export_model.specs.ExportEvents.{export_event}
use Rattle.rz_core.specs.History.{of_word}
use Rattle.rz_operation.specs.Machine.{Machine}
use Rattle.rz_operation_model.specs.Ask.{ask_of}
use Rattle.rz_metadata.specs.declared.metadata.Metadata.{Metadata}
use Rattle.rz_metadata.specs.Stands.{CountsFaults, IsJournalOpen, export_in, is_journaled}
use Rattle.rz_metadata.specs.Journals.{KeepsCall}
use Rattle.rz_driver_asks.specs.Asked.{call_asked}
use Rattle.rz_driver_asks.specs.Parts.{IsNoted}

-- The metadata of one volume still, in memory still or behind a journal still. The disk of a journal that was open counts on.
pub record IsSameStore {D : Type 0} (meter : D → Meter) (m m' : Metadata D) : Type 0 where
  pub journal : is_journaled m' ≡ is_journaled m
  pub volume : (export_in m').volume ≡ (export_in m).volume
  pub counted : IsJournalOpen m → (first : ℕ) → CountsFaults meter first m → CountsFaults meter first m'

-- What a turn makes of the journal and of the events of the export's word: the machine's call was replied to and the event of the
-- reply noted, or nothing was asked of the export.
pub data TurnsExport {D : Type 0} (tells : Bool) (meter : D → Meter) (image : D → List ℕ → Type 0) (by : Actor) (machine : Option Machine) (m m' : Metadata D) (h h' : List Event) : Type 0 where
  Asks : (asker : Machine) (c : Call) → machine ≡ Some asker → call_asked (ask_of asker.layout asker.work) ≡ Some c → KeepsCall tells meter image c m m' → IsNoted (export_event by c (export_reply (export_in m) c)) h h'
      → TurnsExport tells meter image by machine m m' h h'
  AsksNothing : m' ≡ m → of_word Export h' ≡ of_word Export h → TurnsExport tells meter image by machine m m' h h'
