-- What the disk of a journal keeps, and what a call does to it.
use Rattle.std.specs.Prelude.{◌≡◌, ◌⊎◌, ℕ, Bool, IsTrue, List, [], ◌∷◌, ◌++◌, Some}
use Rattle.rz_events.specs.declared.export.Call.{Call}
use Rattle.rz_export_model.specs.Export.{Export, new_export, export_after}
use Rattle.rz_export_laws.specs.Whole.{IsWhole}
use Rattle.rz_journal_text.specs.declared.entry.JournalEntry.{JournalEntry}
use Rattle.rz_journal.specs.Stands.{IsHalfOpen}
use Rattle.rz_journal.specs.Said.{entry_of}
use Rattle.rz_journal.specs.JournalText.{IsAccepted, AreAccepted, after_all, Keeps, IsTextOf}
use Rattle.rz_journal.specs.Room.{IsRow}

-- The disk is open, its text keeps the export, and parts make the export again.
pub record IsJournalReady (tells : Bool) (text : List ℕ) (image : List ℕ → Type 0) (half used : ℕ) (s : Export) : Type 0 where
  pub is_open : IsHalfOpen tells text image half used
  pub keeps : IsTrue tells → Keeps s.volume text s
  pub whole : IsWhole s

-- each image keeps the export
abbrev pub AllKeep : (List ℕ → Type 0) → Export → Type 0
AllKeep image s = (text : List ℕ) → image text → Keeps s.volume text s

-- each image keeps the export, or the one after a call that it accepts
abbrev pub KeepsEither : Export → Call → List ℕ → Type 0
KeepsEither s c text = Keeps s.volume text s ⊎ (IsAccepted s c × Keeps s.volume text (export_after s c))

abbrev pub AllKeepEither : (List ℕ → Type 0) → Export → Call → Type 0
AllKeepEither image s c = (text : List ℕ) → image text → KeepsEither s c text

-- the row of the entry of a call
abbrev pub IsRowOf : Call → List ℕ → Type 0
IsRowOf c row = (e : JournalEntry) × (entry_of c ≡ Some e) × IsRow (e ∷ []) row

-- A new store accepted these calls, and this is the export after them.
pub record IsExportAfter (s : Export) (calls : List Call) : Type 0 where
  pub accepted : AreAccepted (new_export s.volume 0) calls
  pub made : s ≡ after_all (new_export s.volume 0) calls

-- each image stands for these calls
abbrev pub AllStandFor : (List ℕ → Type 0) → Export → List Call → Type 0
AllStandFor image s calls = (text : List ℕ) → image text → IsTextOf s.volume text calls

-- each image stands for these calls, or for these and one more
abbrev pub AllStandForEither : (List ℕ → Type 0) → Export → List Call → Call → Type 0
AllStandForEither image s calls c = (text : List ℕ) → image text → IsTextOf s.volume text calls ⊎ IsTextOf s.volume text (calls ++ c ∷ [])
