-- What an update or a view knows of the text that is published of the block in hand.
use Rattle.std.specs.Prelude.{ℕ, ◌≡◌, List, Option, Some, None}
use Rattle.mj_angles.specs.declared.layout.Layout.{Layout}
use Rattle.rz_events.specs.declared.keys.Actor.{Actor}
use Rattle.rz_events.specs.declared.keys.Key.{Key}
use Rattle.rz_events.specs.declared.ends.ReadMark.TheVariants as mark
use Rattle.rz_events.specs.declared.events.Word.TheVariants.{Export}
use Rattle.rz_events.specs.declared.events.Event.{Event}
use Rattle.rz_core.specs.History.{of_word, of_actor}
use Rattle.rz_core.specs.ExportWord.{accepted}
use Rattle.rz_client_model.specs.declared.reading.ReadStage.{ReadStage}
use Rattle.rz_client_model.specs.declared.reading.ReadStage.TheVariants as reading
use Rattle.rz_client_model.specs.declared.writing.WriteStage.{WriteStage}
use Rattle.rz_client_model.specs.declared.writing.WriteStage.TheVariants as writing
use Rattle.rz_events.specs.declared.operations.Operation.{Operation}
use Rattle.rz_events.specs.declared.operations.Operation.TheVariants as operation
use Rattle.rz_operation_model.specs.Work.{Work, Within, Writing, Reading}
use Rattle.rz_play.specs.World.{World}
use Rattle.rz_script.specs.Lines.{IsActor}
use Rattle.rz_play_locks.specs.Operations.{in_hand, IsUpdate, IsGuarded}
use Rattle.rz_play_locks.specs.Promises.{published_text, IsUpdated, NoneLost}
use Rattle.rz_play_locks.specs.Holding.{IsKeeping}

-- an operation that locks
abbrev pub IsLocking : Option Operation → Type 0
IsLocking (Some (operation.Update path offset datum)) = Unit {0}
IsLocking (Some (operation.View path offset count)) = Unit {0}
IsLocking _ = ⊥

-- the write with stamp s is the one that is published
abbrev pub IsWritePublished : List Event → Key → ℕ → Type 0
IsWritePublished h key s = (mask : ℕ) × (accepted (of_word Export h) key ≡ Some (s, mask))

-- the read is of what is published now
abbrev pub ReadsPublished : List Event → Key → ReadStage → Type 0
ReadsPublished h key reading.Looking = Unit {0}
ReadsPublished h key (reading.Fetching t) = IsWritePublished h key t.stamp
ReadsPublished h key (reading.Ended (mark.Found s length)) = IsWritePublished h key s
ReadsPublished h key (reading.Ended mark.Hole) = accepted (of_word Export h) key ≡ None
ReadsPublished h key (reading.Ended (mark.Moved was now)) = ⊥
ReadsPublished h key (reading.Ended _) = Unit {0}

-- the text that is written is what is published now, with the update's bytes in place
abbrev pub IsUpdateWritten : Layout → List Event → Option Operation → Key → List ℕ → WriteStage → Type 0
IsUpdateWritten layout h m key text writing.Beginning = IsUpdated layout m key.block (published_text h key) text
IsUpdateWritten layout h m key text (writing.Sending t) = IsUpdated layout m key.block (published_text h key) text
IsUpdateWritten layout h m key text (writing.Ended end) = Unit {0}

-- `h` is the whole log, and `run` has the events of this run
abbrev pub IsText : Layout → (Actor → List Operation) → (run h : List Event) → Option Operation → Work → Type 0
IsText layout ops run h m (Reading (Within r) s) = IsLocking m → IsGuarded ops s.key run → ReadsPublished h s.key s.stage
IsText layout ops run h m (Writing (Within r) text s) = IsUpdate m → IsGuarded ops s.key run → IsUpdateWritten layout h m s.key text s.stage
IsText layout ops run h m _ = Unit {0}

-- Between two turns; `run` has the events of this run, which go on after the earlier log.
pub record IsSafe (layout : Layout) (ops more : Actor → List Operation) (old run : List Event) (w : World) : Type 0 where
  pub keeping : IsKeeping layout ops more run w
  pub texts : (by : Actor) → IsActor by → IsText layout ops run w.log (in_hand (ops by) (of_actor by run)) (w.agendas by).work
  pub none_lost : (key : Key) → IsGuarded ops key run → NoneLost layout ops key old run
