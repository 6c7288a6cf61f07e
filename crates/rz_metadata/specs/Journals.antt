-- For which calls the journal's disk stands after a call of the export.
use Rattle.std.specs.Prelude.{ℕ, Bool, ◌≡◌, ◌⊎◌, ◌<◌, List, Option, Some, None, IsSome}
use Rattle.std.specs.List.{All}
use Rattle.rz_disk.specs.Meter.{Meter}
use Rattle.rz_events.specs.declared.export.Call.{Call}
use Rattle.rz_events.specs.declared.export.Call.TheVariants as call
use Rattle.rz_export_model.specs.Export.{Export, export_reply}
use Rattle.rz_export.specs.Calls.{MayWant}
use Rattle.rz_journal.specs.Said.{entry_of}
use Rattle.rz_journal.specs.Seen.{calls_after}
use Rattle.rz_metadata.specs.declared.metadata.Metadata.{Metadata}
use Rattle.rz_metadata.specs.declared.metadata.Metadata.TheVariants.{InMemory, Journaled}
use Rattle.rz_metadata.specs.declared.journaled.JournalRefusal.{JournalRefusal}
use Rattle.rz_metadata.specs.Stands.{export_in, IsJournalOpen, Stands, StandsAtEnd}

-- the text of a write that begins is one of bytes
abbrev pub WritesBytes : Call → Type 0
WritesBytes (call.Begin key text) = All (λ x. x < 256) text
WritesBytes c = Unit {0}

-- A call was replied to, and a journal that was open is so still. Where the call was accepted it joins those for which the journal's
-- disk stands, as it was called.
pub record KeepsCall {D : Type 0} (tells : Bool) (meter : D → Meter) (image : D → List ℕ → Type 0) (c : Call) (m m' : Metadata D) : Type 0 where
  pub bytes : WritesBytes c
  pub is_open : IsJournalOpen m → IsJournalOpen m'
  pub stands : (first : ℕ) (calls : List Call) → Stands tells meter image first m calls → Stands tells meter image first m' (calls_after (export_reply (export_in m) c) c calls)

-- It stands for these calls still; or the journal refused this one more.

abbrev pub EndsWith : {D : Type 0} → Bool → (D → Meter) → (D → List ℕ → Type 0) → ℕ → Metadata D → (refused : Option Call) → List Call → Type 0
EndsWith tells meter image first m None calls = Stands tells meter image first m calls
EndsWith tells meter image first m (Some c) calls = StandsAtEnd tells meter image first m calls c

-- what it stood for before, it ends with
abbrev pub EndsOn : {D : Type 0} → Bool → (D → Meter) → (D → List ℕ → Type 0) → Metadata D → Metadata D → (refused : Option Call) → Type 0
EndsOn tells meter image m m' refused = (first : ℕ) (calls : List Call) → Stands tells meter image first m calls → EndsWith tells meter image first m' refused calls

-- the journal refused this call, if one, where it says why
abbrev pub IsRefused : Option JournalRefusal → (refused : Option Call) → Type 0
IsRefused None refused = refused ≡ None
IsRefused (Some why) refused = IsSome refused

-- The export is as it was, and the journal's disk stands for what it stood for.
pub record IsAsBefore {D : Type 0} (tells : Bool) (meter : D → Meter) (image : D → List ℕ → Type 0) (m m' : Metadata D) : Type 0 where
  pub export_is : export_in m' ≡ export_in m
  pub stands : (first : ℕ) (calls : List Call) → Stands tells meter image first m calls → Stands tells meter image first m' calls

-- A call for which memory may be wanting: for its reply, or behind a journal for its entry.

abbrev pub MayLackBehind : Export → Call → Type 0
MayLackBehind s c = MayWant s c ⊎ IsSome (entry_of c)

abbrev pub MayLack : {D : Type 0} → Metadata D → Call → Type 0
MayLack (InMemory s) c = MayWant s c
MayLack (Journaled j) c = MayLackBehind j.journal.export c

-- a call got no reply: where it was refused it has an entry, and otherwise this is so
abbrev pub MayRefuse : Option JournalRefusal → Call → Type 0 → Type 0
MayRefuse None c so = so
MayRefuse (Some why) c so = IsSome (entry_of c)
