-- The events of the export's word, as a log grows by one event.
use Rattle.std.proofs.Common.{◌≡◌, ℕ, Bool, true, false, cond, List, ◌∷◌, Option, Some, None, IfSome, refl, ap}
use Rattle.rz_events.specs.declared.keys.Actor.{Actor}
use Rattle.rz_events.specs.declared.export.Call.{Call}
use Rattle.rz_events.specs.declared.export.Reply.{Reply}
use Rattle.rz_events.specs.declared.events.Word.TheVariants.{Export, Node, Own}
use Rattle.rz_events.specs.declared.events.Event.{Event}
use Rattle.rz_events.specs.Events.{word_of, same_word}
use Rattle.rz_export_model.specs.ExportEvents.{export_event}
use Rattle.rz_core.specs.History.{of_word}
use Rattle.rz_play.specs.Lines.{noted}
use Rattle.rz_play_laws.proofs.Events.{export-event}

in-word : (x : Event) (h : List Event) (b : Bool) → same_word Export (word_of x) ≡ b → of_word Export (x ∷ h) ≡ cond b (x ∷ of_word Export h) (of_word Export h)
in-word x h b is = ap (λ b. cond b (x ∷ of_word Export h) (of_word Export h)) is

-- the event of a reply is one of them
pub word-grows : (by : Actor) (c : Call) (r : Reply) (x : Event) (h : List Event) → export_event by c r ≡ Some x → of_word Export (x ∷ h) ≡ x ∷ of_word Export h
word-grows by c r x h is = in-word x h true (ap (same_word Export) (export-event by c r x is).word_is)

-- Those of other words are not.

pub node-stays : (n : ℕ) (x : Event) (h : List Event) → word_of x ≡ Node n → of_word Export (x ∷ h) ≡ of_word Export h
node-stays n x h word = in-word x h false (ap (same_word Export) word)

pub own-stays : (by : Actor) (x : Event) (h : List Event) → word_of x ≡ Own by → of_word Export (x ∷ h) ≡ of_word Export h
own-stays by x h word = in-word x h false (ap (same_word Export) word)

pub noted-stays : (n : ℕ) (o : Option Event) (h : List Event) → IfSome o (λ x. word_of x ≡ Node n) → of_word Export (noted o h) ≡ of_word Export h
noted-stays n None h word = refl
noted-stays n (Some x) h word = node-stays n x h word
