-- What contracts see of a journal, and what it answers.
use Rattle.std.specs.Prelude.{◌≡◌, ◌⊎◌, ◌+◌, ◌≤◌, ℕ, Bool, IsTrue, true, false, ◌&&◌, cond, List, [], ◌∷◌, ◌++◌, Some, IsSome, is_some, refl}
use Rattle.std.specs.Coded.{Coded, code_by, coded×, coded_ℕ, coded_bool}
use Rattle.rz_events.specs.declared.export.Call.{Call}
use Rattle.rz_events.specs.declared.export.Reply.{Reply}
use Rattle.rz_events.specs.declared.export.Reply.TheVariants.{NoMemory}
use Rattle.rz_export_model.specs.Codes.{export_code}
use Rattle.rz_export_model.specs.Export as model
use Rattle.rz_export.specs.Calls.{IsAnswered}
use Rattle.rz_journal_text.specs.declared.entry.JournalEntry.{JournalEntry}
use Rattle.rz_journal.specs.declared.journal.JournalReply.{JournalReply}
use Rattle.rz_journal.specs.declared.journal.JournalReply.TheVariants as answer
use Rattle.rz_journal.specs.Said.{entry_of, accepts, used_after}
use Rattle.rz_journal.specs.Stands.{IsSameHalf}
use Rattle.rz_journal.specs.Room.{row_length, needed, FitsNowhere}

-- a journal: its disk, the bytes that the entries of the half in use take, the export, and whether it is closed
pub record JournalView (D : Type 0) : Type 0 where
  pub disk : D
  pub used : ℕ
  pub export : model.Export
  pub closed : Bool

abbrev pub view_code : {D : Type 0} → Coded D → Coded (JournalView D)
view_code {D = D} disk =
    code_by (D × (ℕ × (model.Export × Bool))) (coded× disk (coded× coded_ℕ (coded× export_code coded_bool)))
    (λ v. (v.disk, (v.used, (v.export, v.closed)))) (λ p. record { disk = p.0; used = p.1.0; export = p.1.1.0; closed = p.1.1.1 }) (λ _. refl)

-- there is room for the entry of a call, if it has one
abbrev pub HasEntryRoom : {D : Type 0} → JournalView D → Call → Type 0
HasEntryRoom j c = (e : JournalEntry) → entry_of c ≡ Some e → ¬ FitsNowhere j.export j.used (row_length e)

-- the export's reply; or memory is wanting for the entry, and the export stays as it is
abbrev pub IsJournalReply : {D : Type 0} → JournalView D → Call → Reply → JournalView D → Type 0
IsJournalReply old c r new =
    (IsAnswered old.export c r new.export × HasEntryRoom old c) ⊎ (IsSome (entry_of c) × (r ≡ NoMemory) × (new.export ≡ old.export))

-- there is no room for the entry of a call, and these are the bytes that would be needed
abbrev pub IsFull : {D : Type 0} → JournalView D → Call → ℕ → Type 0
IsFull j c need = (e : JournalEntry) × (entry_of c ≡ Some e) × FitsNowhere j.export j.used (row_length e) × (need ≡ needed j.export (row_length e))

-- what an open journal answers
abbrev pub IsOpenAnswer : {D : Type 0} → JournalView D → Call → JournalReply → JournalView D → Type 0
IsOpenAnswer old c (answer.Reply r) new = (new.closed ≡ false) × IsJournalReply old c r new
IsOpenAnswer old c (answer.Full need have) new = (new ≡ old) × IsFull old c need × (have ≡ 8_388_576)
IsOpenAnswer old c answer.DiskFault new = (new.closed ≡ true) × IsSome (entry_of c) × HasEntryRoom old c
IsOpenAnswer old c answer.Closed new = ⊥

-- what a journal answers: a closed one says so, and stays as it is
abbrev pub IsJournalAnswer : {D : Type 0} → JournalView D → Call → JournalReply → JournalView D → Type 0
IsJournalAnswer old c r new =
    ((old.closed ≡ true) × (r ≡ answer.Closed) × (new ≡ old)) ⊎ ((old.closed ≡ false) × IsOpenAnswer old c r new)

-- where the entry of a call fits behind the others it goes there, in the half that counted before
abbrev pub IsInPlace : {D : Type 0} → Bool → (D → List ℕ) → JournalView D → Call → Reply → JournalView D → Type 0
IsInPlace tells text old c r new =
    (e : JournalEntry) → entry_of c ≡ Some e → old.used + row_length e ≤ 8_388_576
    → (new.used ≡ used_after r (row_length e) old.used) × (IsTrue tells → IsSameHalf (text old.disk) (text new.disk))

-- these calls, and the present one where it has an entry and was accepted
abbrev pub calls_after : Reply → Call → List Call → List Call
calls_after r c calls = cond (is_some (entry_of c) && accepts r) (calls ++ c ∷ []) calls

-- where the journal replied
abbrev pub IfReply : JournalReply → (Reply → Type 0) → Type 0
IfReply (answer.Reply r) P = P r
IfReply (answer.Full need have) P = Unit {0}
IfReply answer.DiskFault P = Unit {0}
IfReply answer.Closed P = Unit {0}
