-- The export of a store, and for which calls the journal's disk stands.
use Rattle.std.specs.Prelude.{ℕ, ◌≡◌, ◌<◌, ◌≤◌, Bool, true, false, IsTrue, List, Option, Some, None, is_some}
use Rattle.rz_disk.specs.Meter.{Meter, Rises, faults}
use Rattle.rz_events.specs.declared.export.Call.{Call}
use Rattle.rz_events.specs.declared.export.Reply.{Reply}
use Rattle.rz_events.specs.declared.export.Reply.TheVariants.{NoMemory}
use Rattle.rz_export_model.specs.Export.{Export}
use Rattle.rz_journal_text.specs.declared.entry.JournalEntry.{JournalEntry}
use Rattle.rz_journal.specs.Kept.{IsExportAfter, AllStandFor, AllStandForEither}
use Rattle.rz_journal.specs.Room.{row_length, needed}
use Rattle.rz_journal.specs.Said.{entry_of}
use Rattle.rz_metadata.specs.declared.journaled.Journaled.{Journaled as Behind}
use Rattle.rz_metadata.specs.declared.journaled.JournalRefusal.{JournalRefusal}
use Rattle.rz_metadata.specs.declared.journaled.JournalRefusal.TheVariants.{Full, Failed}
use Rattle.rz_metadata.specs.declared.metadata.Metadata.{Metadata}
use Rattle.rz_metadata.specs.declared.metadata.Metadata.TheVariants.{InMemory, Journaled}

abbrev pub export_in : {D : Type 0} → Metadata D → Export
export_in (InMemory s) = s
export_in (Journaled j) = j.journal.export

-- the journal's disk, and why it did not keep a call

abbrev pub disk_of : {D : Type 0} → Metadata D → Option D
disk_of (InMemory s) = None
disk_of (Journaled j) = Some j.journal.disk

abbrev pub is_journaled : {D : Type 0} → Metadata D → Bool
is_journaled m = is_some (disk_of m)

abbrev pub refusal_of : {D : Type 0} → Metadata D → Option JournalRefusal
refusal_of (InMemory s) = None
refusal_of (Journaled j) = j.refusal

-- how many bytes of a half of the journal its entries take
abbrev pub used_of : {D : Type 0} → Metadata D → Option ℕ
used_of (InMemory s) = None
used_of (Journaled j) = Some j.journal.used

-- The journal kept these calls: a new store accepted them, and then has its export, and each image of the disk stands for them.
-- The disk had counted so many faults at first.
pub record IsJournalKept {D : Type 0} (tells : Bool) (meter : D → Meter) (image : D → List ℕ → Type 0) (first : ℕ) (j : Behind D) (calls : List Call) : Type 0 where
  pub unrefused : j.refusal ≡ None
  pub is_open : j.journal.closed ≡ false
  pub after : IsExportAfter j.journal.export calls
  pub images : IsTrue tells → AllStandFor (image j.journal.disk) j.journal.export calls
  pub lasts : first ≤ faults (meter j.journal.disk)

-- the parts of the export and the entry of a call take more bytes than a half has
abbrev pub OverfillsHalf : Export → Call → Type 0
OverfillsHalf s c = (e : JournalEntry) × (entry_of c ≡ Some e) × (8_388_576 < needed s (row_length e))

-- There was no reply to one more call. Where the journal did not refuse it, it kept the calls from before. Otherwise each image stands
-- for those, but where the disk failed also for those and that one; then its count of faults rose. Where it was full, it has the export
-- from before, and no half has room for that call.

abbrev pub IsLeftBy : Option JournalRefusal → (kept : Type 0) → Bool → (List ℕ → Type 0) → (first now : ℕ) → Export → List Call → Call → Type 0
IsLeftBy None kept tells image first now s calls c = kept
IsLeftBy (Some Full) kept tells image first now s calls c = IsExportAfter s calls × OverfillsHalf s c × (IsTrue tells → AllStandFor image s calls)
IsLeftBy (Some Failed) kept tells image first now s calls c = Rises first now × (IsTrue tells → AllStandForEither image s calls c)

abbrev pub IsCallLeft : {D : Type 0} → Bool → (D → Meter) → (D → List ℕ → Type 0) → ℕ → Behind D → List Call → Call → Type 0
IsCallLeft tells meter image first j calls c =
    IsLeftBy j.refusal (IsJournalKept tells meter image first j calls) tells (image j.journal.disk) first (faults (meter j.journal.disk)) j.journal.export calls c

-- it refused no call, and no device call of its disk failed
pub record IsUnrefused {D : Type 0} (j : Behind D) : Type 0 where
  pub unrefused : j.refusal ≡ None
  pub is_open : j.journal.closed ≡ false

-- Its disk, which had counted so many faults at first, has counted no fewer, and more where it failed for a call.
pub record CountsOn {D : Type 0} (meter : D → Meter) (first : ℕ) (j : Behind D) : Type 0 where
  pub lasts : first ≤ faults (meter j.journal.disk)
  pub risen : j.refusal ≡ Some Failed → Rises first (faults (meter j.journal.disk))

-- Of all metadata: in memory they stand on no disk.

abbrev pub Stands : {D : Type 0} → Bool → (D → Meter) → (D → List ℕ → Type 0) → ℕ → Metadata D → List Call → Type 0
Stands tells meter image first (InMemory s) calls = Unit {0}
Stands tells meter image first (Journaled j) calls = IsJournalKept tells meter image first j calls

abbrev pub StandsAtEnd : {D : Type 0} → Bool → (D → Meter) → (D → List ℕ → Type 0) → ℕ → Metadata D → List Call → Call → Type 0
StandsAtEnd tells meter image first (InMemory s) calls c = Unit {0}
StandsAtEnd tells meter image first (Journaled j) calls c = IsCallLeft tells meter image first j calls c

abbrev pub IsJournalOpen : {D : Type 0} → Metadata D → Type 0
IsJournalOpen (InMemory s) = Unit {0}
IsJournalOpen (Journaled j) = IsUnrefused j

abbrev pub CountsFaults : {D : Type 0} → (D → Meter) → ℕ → Metadata D → Type 0
CountsFaults meter first (InMemory s) = Unit {0}
CountsFaults meter first (Journaled j) = CountsOn meter first j

-- the reply says that memory is wanting
abbrev pub wants_memory : Reply → Bool
wants_memory NoMemory = true
wants_memory r = false
