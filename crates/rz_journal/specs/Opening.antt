-- Which entries may stand one behind the other in a half, and the export that they make.
use Rattle.std.specs.Prelude.{◌≡◌, ◌≢◌, ◌⊎◌, ◌↔◌, ℕ, ◌%◌, ◌≤◌, Bool, true, false, IsTrue, List, [], ◌∷◌, ◌++◌, length, map, replicate, Option, Some, None, slice_index}
use Rattle.rz_disk.specs.Images.{window}
use Rattle.rz_events.specs.Volume.{Volume}
use Rattle.rz_events.specs.declared.export.Call.{Call}
use Rattle.rz_events.specs.declared.export.Call.TheVariants as call
use Rattle.rz_export_model.specs.Export.{Export, new_export, export_after}
use Rattle.rz_tree.specs.declared.parts.Part.{Part}
use Rattle.rz_export.specs.Building.{with_part, made_of, MayFollow, AllFollow, ArePartsOf}
use Rattle.rz_journal_text.specs.declared.entry.JournalEntry.{JournalEntry as Said}
use Rattle.rz_journal_text.specs.declared.entry.JournalEntry.TheVariants as entry
use Rattle.rz_journal.specs.declared.half_opening.HalfFault.{HalfFault}
use Rattle.rz_journal.specs.declared.half_opening.HalfFault.TheVariants as half
use Rattle.rz_journal.specs.Stands.{disk_bytes, half_bytes, half_at, IsJournal}
use Rattle.rz_journal.specs.HalfOpening.{Refuses}
use Rattle.rz_journal.specs.declared.reading.EntryFound.TheVariants.{Entry}
use Rattle.rz_journal.specs.declared.rebuilding.ReopenProgress.{ReopenProgress}
use Rattle.rz_journal.specs.declared.rebuilding.ReopenProgress.TheVariants.{Empty, Counters, Parts, Calls}
use Rattle.rz_journal.specs.declared.rebuilding.JournalFault.{JournalFault}
use Rattle.rz_journal.specs.declared.rebuilding.JournalFault.TheVariants.{NoMemory, WrongSize, DiskFault, Unformatted, BadHeader, Damaged}
use Rattle.rz_journal.specs.Said.{call_said}
use Rattle.rz_journal.specs.JournalText.{IsAccepted, Makes}
use Rattle.rz_journal.specs.Listed.{IsDamaged, IsEntryFound, SoFar}

-- ---- the export that entries make

-- the export with what an entry says
abbrev pub said_by : Export → Said → Export
said_by s (entry.Tree c) = export_after s (call.Tree c)
said_by s (entry.Begin key bytes) = export_after s (call.Begin key (replicate bytes 0))
said_by s (entry.Publish key stamp mask bytes) = export_after s (call.Publish key stamp mask bytes)
said_by s (entry.Enroll node loss) = export_after s (call.Enroll node loss)
said_by s (entry.Built part) = with_part s part

-- the export with what all these entries say, one after another
abbrev pub said_by_all : Export → List Said → Export
said_by_all s [] = s
said_by_all s (e ∷ es) = said_by_all (said_by s e) es

-- the export of a volume that these entries make
abbrev pub made_by : Volume → List Said → Export
made_by volume entries = said_by_all (new_export volume 0) entries

-- ---- the rules of the entries

-- these parts end well: there are none, or they are those of an export
abbrev pub AreNoneOrAll : Volume → List Part → Type 0
AreNoneOrAll volume [] = Unit {0}
AreNoneOrAll volume (p ∷ ps) = ArePartsOf volume (p ∷ ps)

-- where the entries are parts alone, these end well
abbrev pub EndWell : Volume → List Said → Type 0
EndWell volume entries = (parts : List Part) → entries ≡ map entry.Built parts → AreNoneOrAll volume parts

-- a part stands behind parts alone, and breaks no rule with them
abbrev pub PartGoes : Volume → List Said → Part → Type 0
PartGoes volume before p = (parts : List Part) × (before ≡ map entry.Built parts) × MayFollow volume parts p

-- a call is accepted by the export that the entries before it make
abbrev pub CallGoes : Volume → List Said → Option Call → Type 0
CallGoes volume before None = ⊥
CallGoes volume before (Some c) = EndWell volume before × IsAccepted (made_by volume before) c

-- whether an entry may stand behind those before it
abbrev pub MayFollowEntries : Volume → List Said → Said → Type 0
MayFollowEntries volume before (entry.Built p) = PartGoes volume before p
MayFollowEntries volume before (entry.Tree c) = CallGoes volume before (call_said (entry.Tree c))
MayFollowEntries volume before (entry.Begin key bytes) = CallGoes volume before (call_said (entry.Begin key bytes))
MayFollowEntries volume before (entry.Publish key stamp mask bytes) = CallGoes volume before (call_said (entry.Publish key stamp mask bytes))
MayFollowEntries volume before (entry.Enroll node loss) = CallGoes volume before (call_said (entry.Enroll node loss))

-- each of these entries may stand behind those before it
abbrev pub AllGo : Volume → List Said → List Said → Type 0
AllGo volume before [] = Unit {0}
AllGo volume before (e ∷ es) = MayFollowEntries volume before e × AllGo volume (before ++ e ∷ []) es

-- ---- what a half holds

-- The entries of a half make this export.
pub record MakeExport (volume : Volume) (half : List ℕ) (used : ℕ) (s : Export) : Type 0 where
  pub entries : List Said
  pub so_far : SoFar half entries used
  pub ends : slice_index half used % 2 ≡ 0
  pub go : AllGo volume [] entries
  pub well : EndWell volume entries
  pub made : s ≡ made_by volume entries
  pub makes : Makes volume entries s

-- behind these entries stands one that can't be read, or one that may not stand there; or they end, and not well
abbrev pub IsWrong : Volume → List ℕ → List Said → ℕ → Type 0
IsWrong volume half before used =
    IsDamaged half used
    ⊎ ((e : Said) × (next : ℕ) × IsEntryFound half used (Entry e next) × ¬ MayFollowEntries volume before e)
    ⊎ ((slice_index half used % 2 ≡ 0) × ¬ EndWell volume before)

-- The entries before this number go, and there something is wrong.
pub record IsDamagedAt (volume : Volume) (half : List ℕ) (number : ℕ) : Type 0 where
  pub before : List Said
  pub used : ℕ
  pub so_far : SoFar half before used
  pub go : AllGo volume [] before
  pub wrong : IsWrong volume half before used
  pub count : number ≡ length before

-- why the entries of a half make no export
abbrev pub StopsAtEntry : Volume → List ℕ → JournalFault → Type 0
StopsAtEntry volume half NoMemory = Unit {0}
StopsAtEntry volume half (Damaged number) = IsDamagedAt volume half number
StopsAtEntry volume half _ = ⊥

-- ---- what a text holds

-- The entries of the half that a text picks make this export, and take so many bytes.
pub record IsReopened (volume : Volume) (text : List ℕ) (used : ℕ) (s : Export) : Type 0 where
  pub half : ℕ
  pub journal : IsJournal half text
  pub rebuilt : MakeExport volume (window (half_at half) half_bytes text) used s

-- the first damaged entry of the half that a text picks
abbrev pub HasDamagedAt : Volume → List ℕ → ℕ → Type 0
HasDamagedAt volume text number = (half : ℕ) × IsJournal half text × IsDamagedAt volume (window (half_at half) half_bytes text) number

-- each fault is the first of these that a text has; a text is looked at only where it has the right size
abbrev pub IsJournalRefused : Bool → Volume → List ℕ → JournalFault → Type 0
IsJournalRefused tells volume text NoMemory = Refuses tells text half.NoMemory
IsJournalRefused tells volume text (WrongSize have need) = Refuses tells text (half.WrongSize have need)
IsJournalRefused tells volume text DiskFault = Refuses tells text half.DiskFault
IsJournalRefused tells volume text Unformatted = Refuses tells text half.Unformatted
IsJournalRefused tells volume text BadHeader = Refuses tells text half.BadHeader
IsJournalRefused tells volume text (Damaged number) = (length text ≡ disk_bytes) × (IsTrue tells → HasDamagedAt volume text number)

-- the fault of a disk as one of its journal
abbrev pub fault_of : HalfFault → JournalFault
fault_of half.NoMemory = NoMemory
fault_of (half.WrongSize have need) = WrongSize have need
fault_of half.DiskFault = DiskFault
fault_of half.Unformatted = Unformatted
fault_of half.BadHeader = BadHeader

-- ---- what is known while the entries are read

-- how many parts stand so far
abbrev pub HasPartsSoFar : ReopenProgress → ℕ → Type 0
HasPartsSoFar Empty count = count ≡ 0
HasPartsSoFar Counters count = count ≡ 1
HasPartsSoFar Parts count = 2 ≤ count
HasPartsSoFar Calls count = ⊥

-- The entries so far are parts alone.
pub record ArePartsSoFar (volume : Volume) (entries : List Said) (stage : ReopenProgress) (s : Export) : Type 0 where
  pub parts : List Part
  pub are : entries ≡ map entry.Built parts
  pub each : AllFollow volume [] parts
  pub made : s ≡ made_of volume parts
  pub at : HasPartsSoFar stage (length parts)

-- The entries so far end with a call.
pub record AreCallsSoFar (volume : Volume) (entries : List Said) (s : Export) : Type 0 where
  pub made : s ≡ made_by volume entries
  pub makes : Makes volume entries s
  pub past : (parts : List Part) → entries ≢ map entry.Built parts

-- what the entries so far are, and the export that they make
abbrev pub IsProgress : Volume → List Said → ReopenProgress → Export → Type 0
IsProgress volume entries Empty s = ArePartsSoFar volume entries Empty s
IsProgress volume entries Counters s = ArePartsSoFar volume entries Counters s
IsProgress volume entries Parts s = ArePartsSoFar volume entries Parts s
IsProgress volume entries Calls s = AreCallsSoFar volume entries s

-- the stage behind a part more
abbrev pub after_part : ReopenProgress → ReopenProgress
after_part Empty = Counters
after_part Counters = Parts
after_part Parts = Parts
after_part Calls = Parts

-- some entries are at this stage
abbrev pub IsSomeStage : ReopenProgress → Export → Type 0
IsSomeStage stage s = (volume : Volume) × (before : List Said) × IsProgress volume before stage s

-- whether the parts so far end well
abbrev pub TellsEnd : ReopenProgress → Export → Bool → Type 0
TellsEnd stage s well = (volume : Volume) (before : List Said) → IsProgress volume before stage s → IsTrue well ↔ EndWell volume before

-- whether a part may stand behind the entries so far
abbrev pub TellsPart : ReopenProgress → Export → Part → Bool → Type 0
TellsPart stage s p goes = (volume : Volume) (before : List Said) → IsProgress volume before stage s → IsTrue goes ↔ PartGoes volume before p

-- an entry was added where it may stand behind the entries so far
abbrev pub IsAdded : Said → ReopenProgress → Export → Bool → ReopenProgress → Export → Type 0
IsAdded e stage s true later u =
    (volume : Volume) (before : List Said) → IsProgress volume before stage s → MayFollowEntries volume before e × IsProgress volume (before ++ e ∷ []) later u
IsAdded e stage s false later u = (volume : Volume) (before : List Said) → IsProgress volume before stage s → ¬ MayFollowEntries volume before e
