-- A journal's disk that is opened again.
use Rattle.std.specs.Prelude.{ℕ, ◌≡◌, ◌≤◌, List}
use Rattle.rz_disk.specs.Images.{Within}
use Rattle.rz_disk.specs.Meter.{Meter, faults}
use Rattle.rz_events.specs.Volume.{Volume}
use Rattle.rz_events.specs.declared.export.Call.{Call}
use Rattle.rz_export_model.specs.Export.{Export}
use Rattle.rz_journal.specs.JournalText.{IsTextOf}
use Rattle.rz_journal.specs.Opening.{IsReopened}
use Rattle.rz_journal.specs.declared.rebuilding.JournalFault.{JournalFault}
use Rattle.rz_journal.specs.declared.rebuilding.JournalFault.TheVariants as fault

-- A disk is as it came: its text is the same, each image is one from before, and its count of faults did not fall.
pub record IsAsItCame {D : Type 0} (meter : D → Meter) (text : D → List ℕ) (image : D → List ℕ → Type 0) (old new : D) : Type 0 where
  pub count : faults (meter old) ≤ faults (meter new)
  pub same : text new ≡ text old
  pub images : Within (image old) (image new)

-- the entries of a text make this export
abbrev pub MakesExport : Volume → List ℕ → Export → Type 0
MakesExport volume text s = (used : ℕ) × IsReopened volume text used s

-- each image stands for these calls
abbrev pub AllTextsOf : Volume → (List ℕ → Type 0) → List Call → Type 0
AllTextsOf volume image calls = (c : List ℕ) → image c → IsTextOf volume c calls

-- the number of a fault of a journal; want of memory has none
abbrev pub journal_fault_number : JournalFault → ℕ
journal_fault_number fault.NoMemory = 0
journal_fault_number (fault.WrongSize have need) = 1
journal_fault_number fault.DiskFault = 2
journal_fault_number fault.Unformatted = 3
journal_fault_number fault.BadHeader = 4
journal_fault_number (fault.Damaged entry) = 5
