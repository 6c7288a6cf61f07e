-- For which calls the journal's disk stands where a play ended.
use Rattle.std.specs.Prelude.{ℕ, ◌≡◌, ◌⊎◌, Bool, true, false, IsTrue, List, [], ◌∷◌, ◌++◌, Option, Some, None}
use Rattle.rz_disk.specs.Meter.{Rises}
use Rattle.rz_events.specs.Volume.{Volume}
use Rattle.rz_events.specs.declared.export.Call.{Call}
use Rattle.rz_events.specs.declared.events.Event.{Event}
use Rattle.rz_events.specs.declared.events.Word.TheVariants.{Export}
use Rattle.rz_core.specs.History.{of_word}
use Rattle.rz_export_model.specs.Export.{new_export}
use Rattle.rz_journal.specs.JournalText.{IsTextOf, after_all}
use Rattle.rz_metadata.specs.declared.journaled.JournalRefusal.{JournalRefusal}
use Rattle.rz_metadata.specs.declared.journaled.JournalRefusal.TheVariants.{Full, Failed}
use Rattle.rz_metadata.specs.Stands.{OverfillsHalf}
use Rattle.rz_player.specs.declared.lines.PlayEnd.{PlayEnd}
use Rattle.rz_player.specs.declared.lines.PlayEnd.TheVariants as end
use Rattle.rz_restart_laws.specs.Calls.{changing_calls, AreCallsTold}

-- how a play ends where a turn was not taken
abbrev pub end_by : Option JournalRefusal → PlayEnd
end_by None = end.NoMemory
end_by (Some Full) = end.JournalFull
end_by (Some Failed) = end.Journal

-- each image stands for these calls
abbrev pub StandFor : (List ℕ → Type 0) → Volume → List Call → Type 0
StandFor image v calls = (text : List ℕ) → image text → IsTextOf v text calls

-- each image stands for these calls, or for these and one more
abbrev pub StandForEither : (List ℕ → Type 0) → Volume → List Call → Call → Type 0
StandForEither image v calls c = (text : List ℕ) → image text → IsTextOf v text calls ⊎ IsTextOf v text (calls ++ c ∷ [])

-- The calls of a log for which a journal stands: those that changed the export, each as it was called. Over disks that do not tell
-- their texts the length of a publish is left open.
abbrev pub AreCallsOf : Bool → List Event → List Call → Type 0
AreCallsOf true h calls = calls ≡ changing_calls h
AreCallsOf false h calls = AreCallsTold (of_word Export h) calls

-- each image stands for the calls that changed the export of the log
abbrev pub StandsForLog : (List ℕ → Type 0) → Volume → List Event → Type 0
StandsForLog image v h = StandFor image v (changing_calls h)

-- By what the journal refused, if it did. Where it was full, there is no half for the export and one call more. Where its disk failed,
-- its count of faults rose, and the call that was asked for may stand there or not.

abbrev pub EndsFor : Option JournalRefusal → (refused : Option Call) → Bool → (List ℕ → Type 0) → (first now : ℕ) → Volume → List Call → Type 0
EndsFor None None tells image first now v calls = IsTrue tells → StandFor image v calls
EndsFor (Some Full) (Some c) tells image first now v calls = OverfillsHalf (after_all (new_export v 0) calls) c × (IsTrue tells → StandFor image v calls)
EndsFor (Some Failed) (Some c) tells image first now v calls = Rises first now × (IsTrue tells → StandForEither image v calls c)
EndsFor why refused tells image first now v calls = ⊥

-- the calls of the log, and the one that was refused, if one was
pub record EndsAsRefused (refusal : Option JournalRefusal) (refused : Option Call) (tells : Bool) (image : List ℕ → Type 0) (first now : ℕ) (v : Volume) (h : List Event) : Type 0 where
  pub calls : List Call
  pub calls_are : AreCallsOf tells h calls
  pub ends : EndsFor refusal refused tells image first now v calls
