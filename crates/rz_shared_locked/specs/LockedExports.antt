-- The export under its lock: what a caller must have done, and what a call adds to the log.
use Rattle.std.specs.Prelude.{ℕ, ◌≡◌, ◌<◌, Bool, IsTrue, List, ◌++◌, Option, Some, None, unwrap_or}
use Rattle.std.specs.List.{All}
use Rattle.rz_disk.specs.Meter.{Meter}
use Rattle.rz_events.specs.declared.keys.Actor.{Actor}
use Rattle.rz_events.specs.declared.export.Call.{Call}
use Rattle.rz_events.specs.declared.export.Call.TheVariants as call
use Rattle.rz_events.specs.declared.export.Reply.{Reply}
use Rattle.rz_events.specs.declared.events.Word.TheVariants.{Export}
use Rattle.rz_events.specs.declared.events.Event.{Event}
use Rattle.rz_export_model.specs.Export.{Export as State, export_reply}
use Rattle.rz_export_model.specs.ExportEvents.{export_event}
use Rattle.rz_export.specs.Calls.{MayWant}
use Rattle.rz_core.specs.History.{Begun, facts, of_word, wrote}
use Rattle.rz_core.specs.Tied.{IsExport}
use Rattle.rz_metadata.specs.declared.journaled.JournalRefusal.{JournalRefusal}
use Rattle.rz_metadata.specs.declared.metadata.Metadata.{Metadata}
use Rattle.rz_metadata.specs.Stands.{export_in, refusal_of, IsJournalOpen, Stands, StandsAtEnd}
use Rattle.rz_restart_laws.specs.Calls.{changing_calls}
use Rattle.rz_chronicle.specs.Keys.{IsLater, events_at, word_key}
use Rattle.rz_chronicle.specs.Kinds.{keeps_legal, volume_in}
use Rattle.rz_chronicle.specs.Tokens.{mark}
use Rattle.rz_shared_locked.specs.Adding.{AddsEvent}

-- Behind the log of this run an earlier one stands, or none.

-- An export of the volume replies so; in a book that keeps its log legal it is the one that the log gives.
pub record IsReplyAt (kind : List ℕ) (earlier h : List Event) (question : Call) (given : Reply) : Type 0 where
  pub state : State
  pub of_volume : state.volume ≡ volume_in kind
  pub is : given ≡ export_reply state question
  pub tied : IsTrue (keeps_legal kind) → IsExport (volume_in kind) (facts (h ++ earlier)) (of_word Export (h ++ earlier)) state

-- An export of the volume, for whose reply memory may be wanting; in a book that keeps its log legal it is the one that the whole log
-- gives.
pub record IsWanting (kind : List ℕ) (h : List Event) (question : Call) : Type 0 where
  pub state : State
  pub of_volume : state.volume ≡ volume_in kind
  pub may : MayWant state question
  pub tied : IsTrue (keeps_legal kind) → IsExport (volume_in kind) (facts h) (of_word Export h) state

-- What a call did to the log that its pass has seen: its event stands on top of a log after which the reply is right.
pub record AnswersCall (kind : List ℕ) (earlier : List Event) (question : Call) (given : Reply) (event : Option Event) (ks : List ℕ) (old new : List Event) : Type 0 where
  pub adds : AddsEvent ks old event new
  pub right : IsReplyAt kind earlier adds.before question given

-- No reply: nothing was added. Without a journal memory may be wanting for the call of the export that the log gives.
pub record IsUnanswered (kind : List ℕ) (earlier : List Event) (journal : Option ℕ) (question : Call) (ks : List ℕ) (old new : List Event) : Type 0 where
  pub adds : AddsEvent ks old None new
  pub wanting : journal ≡ None → IsWanting kind (new ++ earlier) question

-- the faults that the journal's disk had counted, where there is one
abbrev pub faults_of : Option ℕ → ℕ
faults_of journal = unwrap_or journal 0

-- What metadata are after a whole log, in a book that keeps its log legal.

-- They have the export that the log gives, and their journal, if they have one, stands for the calls that changed it.
pub record AreAfterLog {D : Type 0} (tells : Bool) (meter : D → Meter) (image : D → List ℕ → Type 0) (first : ℕ) (kind : List ℕ) (h : List Event) (m : Metadata D) : Type 0 where
  pub is_open : IsJournalOpen m
  pub tied : IsTrue (keeps_legal kind) → IsExport (volume_in kind) (facts h) (of_word Export h) (export_in m)
  pub stands : IsTrue (keeps_legal kind) → Stands tells meter image first m (changing_calls h)

-- a journal that refused a call stands for these calls, or its disk failed and it may have that one too
abbrev pub AreStopped : {D : Type 0} → Bool → (D → Meter) → (D → List ℕ → Type 0) → ℕ → List ℕ → List Event → Metadata D → Type 0
AreStopped tells meter image first kind h m = IsTrue (keeps_legal kind) → (refused : Call) × StandsAtEnd tells meter image first m (changing_calls h) refused

abbrev pub AreMetadataOf : {D : Type 0} → Option JournalRefusal → Bool → (D → Meter) → (D → List ℕ → Type 0) → ℕ → List ℕ → List Event → Metadata D → Type 0
AreMetadataOf None tells meter image first kind h m = AreAfterLog tells meter image first kind h m
AreMetadataOf (Some why) tells meter image first kind h m = AreStopped tells meter image first kind h m

-- in each log from this one on that has no further event of the export
abbrev pub AreMetadataFrom : {D : Type 0} → Bool → (D → Meter) → (D → List ℕ → Type 0) → ℕ → (kind : List ℕ) (earlier h : List Event) → Metadata D → Type 0
AreMetadataFrom tells meter image first kind earlier h m = (new : List Event) → IsLater h new → events_at (word_key Export) new ≡ events_at (word_key Export) h
    → AreMetadataOf (refusal_of m) tells meter image first kind (new ++ earlier) m

-- the event of a reply that has one
abbrev pub event_given : Actor → Call → Reply → Event
event_given by question given = unwrap_or (export_event by question given) mark

-- Texts.

-- each write of the log began with a text of bytes
abbrev pub AreTextsOfBytes : List Event → Type 0
AreTextsOfBytes h = (s : ℕ) (b : Begun) → wrote h s ≡ Some b → All (λ x. x < 256) b.text

-- in each log from this one on that has no further event of the export
abbrev pub AreTextsFrom : (earlier h : List Event) → Type 0
AreTextsFrom earlier h = (new : List Event) → IsLater h new → events_at (word_key Export) new ≡ events_at (word_key Export) h → AreTextsOfBytes (new ++ earlier)

-- so does one that begins by this call
abbrev pub IsCallOfBytes : Call → Type 0
IsCallOfBytes (call.Begin key text) = All (λ x. x < 256) text
IsCallOfBytes question = Unit {0}
