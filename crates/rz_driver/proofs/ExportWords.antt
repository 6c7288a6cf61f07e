-- The events of the export's word, and the texts of the writes that begin, which stand in it alone.
use Rattle.std.proofs.Common.{◌≡◌, ℕ, Bool, true, false, cond, ◌==◌, ◌<◌, List, [], ◌∷◌, ◌++◌, Option, Some, None, sym, ◌∙◌, ap, subst}
use Rattle.std.specs.List.{All}
use Rattle.std.proofs.lemmas.List.Elements.{filter-append}
use Rattle.rz_events.specs.declared.keys.Actor.{Actor}
use Rattle.rz_events.specs.declared.keys.Key.{Key}
use Rattle.rz_events.specs.declared.export.Call.{Call}
use Rattle.rz_events.specs.declared.export.Call.TheVariants as call
use Rattle.rz_events.specs.declared.export.Reply.{Reply}
use Rattle.rz_events.specs.declared.export.Reply.TheVariants as reply
use Rattle.rz_events.specs.declared.events.Word.TheVariants.{Export}
use Rattle.rz_events.specs.declared.events.Event.{Event}
use Rattle.rz_events.specs.Events.{word_of, same_word}
use Rattle.rz_export_model.specs.ExportEvents.{export_event}
use Rattle.rz_core.specs.History.{Begun, facts, wrote, begun_by, first_some, of_word}
use Rattle.rz_core.proofs.NodeSteps.{the_some}
use Rattle.rz_core.proofs.Wrote.{wrote-export}
use Rattle.rz_metadata.specs.Journals.{WritesBytes}
use Rattle.rz_block_laws.specs.Acting.{AreBytes}

-- ---- behind an earlier log

word-behind : (log old : List Event) → of_word Export (log ++ old) ≡ of_word Export log ++ of_word Export old
word-behind log old = filter-append (λ x. same_word Export (word_of x)) log old

pub same-behind : (log log2 old : List Event) → of_word Export log2 ≡ of_word Export log → of_word Export (log2 ++ old) ≡ of_word Export (log ++ old)
same-behind log log2 old same = word-behind log2 old ∙ ap (λ (h : List Event). h ++ of_word Export old) same ∙ sym (word-behind log old)

-- ---- the texts of writes

none-begun : {A : Type 0} (b : Begun) → None ≡ Some b → A
none-begun b is = absurd (cc)

-- a log with the same events of the export
pub bytes-same : (h h' : List Event) → of_word Export h' ≡ of_word Export h → AreBytes (facts h) → AreBytes (facts h')
bytes-same h h' same bytes s b is = bytes s b (sym (wrote-export h s) ∙ ap (λ (w : List Event). wrote w s) (sym same) ∙ wrote-export h' s ∙ is)

pub bytes-none : AreBytes (facts [])
bytes-none s b is = none-begun b is

-- if an event begins a write, the text is of bytes
abbrev pub BeginsBytes : Event → Type 0
BeginsBytes x = (s : ℕ) (b : Begun) → begun_by s x ≡ Some b → All (λ x. x < 256) b.text

by-stamp : (by : Actor) (key : Key) (stamp base : ℕ) (text : List ℕ) → All (λ x. x < 256) text → (s : ℕ) (b : Begun) (same : Bool) → cond same (Some (record { by = by; key = key; base = base; text = text })) None ≡ Some b → All (λ x. x < 256) b.text
by-stamp by key stamp base text bytes s b true is = let it : record { by = by; key = key; base = base; text = text } ≡ b = cc in subst (λ (w : Begun). All (λ x. x < 256) w.text) it bytes
by-stamp by key stamp base text bytes s b false is = none-begun b is

pub event-bytes : (by : Actor) (c : Call) (r : Reply) (x : Event) → WritesBytes c → export_event by c r ≡ Some x → BeginsBytes x
event-bytes by (call.Tree c) (reply.Tree r) x bytes is = subst BeginsBytes (the_some _ x is) (λ s b no. none-begun b no)
event-bytes by (call.Tree c) (_) x bytes is = absurd cc
event-bytes by (call.Begin key text) (reply.Begun stamp base) x bytes is = subst BeginsBytes (the_some _ x is) (λ s b begun. by-stamp by key stamp base text bytes s b (s == stamp) begun)
event-bytes by (call.Begin key text) (reply.Denied why) x bytes is = subst BeginsBytes (the_some _ x is) (λ s b no. none-begun b no)
event-bytes by (call.Begin key text) (_) x bytes is = absurd cc
event-bytes by (call.Publish key stamp mask size) reply.Accepted x bytes is = subst BeginsBytes (the_some _ x is) (λ s b no. none-begun b no)
event-bytes by (call.Publish key stamp mask size) (reply.Enrolled p fence) x bytes is = subst BeginsBytes (the_some _ x is) (λ s b no. none-begun b no)
event-bytes by (call.Publish key stamp mask size) (reply.Revoked later) x bytes is = subst BeginsBytes (the_some _ x is) (λ s b no. none-begun b no)
event-bytes by (call.Publish key stamp mask size) (reply.Denied why) x bytes is = subst BeginsBytes (the_some _ x is) (λ s b no. none-begun b no)
event-bytes by (call.Publish key stamp mask size) (_) x bytes is = absurd cc
event-bytes by (call.Look key) (reply.Looked p) x bytes is = subst BeginsBytes (the_some _ x is) (λ s b no. none-begun b no)
event-bytes by (call.Look key) (reply.Denied why) x bytes is = subst BeginsBytes (the_some _ x is) (λ s b no. none-begun b no)
event-bytes by (call.Look key) (_) x bytes is = absurd cc
event-bytes by (call.Recheck key) (reply.Looked p) x bytes is = subst BeginsBytes (the_some _ x is) (λ s b no. none-begun b no)
event-bytes by (call.Recheck key) (reply.Denied why) x bytes is = subst BeginsBytes (the_some _ x is) (λ s b no. none-begun b no)
event-bytes by (call.Recheck key) (_) x bytes is = absurd cc
event-bytes by (call.Enroll node loss) (reply.Fence fence) x bytes is = subst BeginsBytes (the_some _ x is) (λ s b no. none-begun b no)
event-bytes by (call.Enroll node loss) (reply.Denied why) x bytes is = subst BeginsBytes (the_some _ x is) (λ s b no. none-begun b no)
event-bytes by (call.Enroll node loss) (_) x bytes is = absurd cc
event-bytes by (call.Next node after) (reply.Listed l) x bytes is = subst BeginsBytes (the_some _ x is) (λ s b no. none-begun b no)
event-bytes by (call.Next node after) (_) x bytes is = absurd cc

first-bytes : (old : Option Begun) (x : Event) (s : ℕ) (b : Begun) → ((c : Begun) → old ≡ Some c → All (λ x. x < 256) c.text) → BeginsBytes x → first_some old (begun_by s x) ≡ Some b → All (λ x. x < 256) b.text
first-bytes None x s b before now is = now s b is
first-bytes (Some c) x s b before now is = before b is

pub bytes-more : (x : Event) (h : List Event) → AreBytes (facts h) → BeginsBytes x → AreBytes (facts (x ∷ h))
bytes-more x h bytes now s b is = first-bytes (wrote h s) x s b (bytes s) now is
