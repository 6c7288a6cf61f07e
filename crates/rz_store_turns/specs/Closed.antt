-- What stands on the disks of a store that is let go. `h` is the log of all its runs, which has the newest event first.
use Rattle.std.specs.Prelude.{ℕ, ◌≡◌, ◌≢◌, ◌⊎◌, ◌++◌, IsTrue, List, [], ◌∷◌, Option, Some, None, IfSome, IsSome}
use Rattle.rz_events.specs.Volume.{Volume}
use Rattle.rz_events.specs.declared.export.Call.{Call}
use Rattle.rz_events.specs.declared.files.NodeSpec.{NodeSpec}
use Rattle.rz_events.specs.declared.nodes.Phase.TheVariants.{Up, Lost}
use Rattle.rz_events.specs.declared.events.Word.TheVariants.{Node}
use Rattle.rz_events.specs.declared.events.Event.{Event}
use Rattle.rz_core.specs.History.{of_word}
use Rattle.rz_core.specs.NodeWord.{phase}
use Rattle.rz_journal.specs.JournalText.{IsTextOf}
use Rattle.rz_metadata.specs.Reopened.{AllTextsOf}
use Rattle.rz_metadata.specs.declared.journaled.JournalRefusal.{JournalRefusal}
use Rattle.rz_metadata.specs.declared.journaled.JournalRefusal.TheVariants.{Full, Failed}
use Rattle.rz_restart_laws.specs.Found.{StandsByLog}

-- The disk of a node that is here: each image stands for what the log says that the node holds. Of the disk of a lost node nothing is
-- said.
abbrev pub IsDiskLeft : {D : Type 0} → (D → List ℕ → Type 0) → Volume → List Event → NodeSpec → Option D → Type 0
IsDiskLeft image v h spec disk = IfSome disk (λ d. phase (of_word (Node spec.sid) h) ≢ Lost → (text : List ℕ) → image d text → StandsByLog v h spec.sid text)

-- The disk of a node that is up is here.
abbrev pub IsDiskHere : {D : Type 0} → List Event → NodeSpec → Option D → Type 0
IsDiskHere h spec disk = phase (of_word (Node spec.sid) h) ≡ Up → IsSome disk

-- The journal's disk: each image stands for these calls. Where a journal refused one more since its disk failed, the image may have
-- that one too.
abbrev pub IsJournalLeft : {D : Type 0} → (D → List ℕ → Type 0) → Volume → Option JournalRefusal → List Call → D → Type 0
IsJournalLeft image v None calls d = AllTextsOf v (image d) calls
IsJournalLeft image v (Some Full) calls d = AllTextsOf v (image d) calls
IsJournalLeft image v (Some Failed) calls d = (refused : Call) × ((text : List ℕ) → image d text → IsTextOf v text calls ⊎ IsTextOf v text (calls ++ refused ∷ []))
