-- The calls that changed the export of a log.
use Rattle.std.specs.Prelude.{◌≡◌, List, [], ◌∷◌, ◌++◌, Some, None}
use Rattle.rz_events.specs.declared.keys.Actor.{Actor}
use Rattle.rz_events.specs.declared.export.Call.{Call}
use Rattle.rz_events.specs.declared.export.Call.TheVariants as call
use Rattle.rz_events.specs.declared.export.Reply.{Reply}
use Rattle.rz_events.specs.declared.export.Reply.TheVariants as reply
use Rattle.rz_events.specs.declared.events.Word.TheVariants.{Export}
use Rattle.rz_events.specs.declared.events.Event.{Event}
use Rattle.rz_events.specs.declared.events.Event.TheVariants as e
use Rattle.rz_export_model.specs.ExportEvents.{export_event}
use Rattle.rz_core.specs.History.{Facts, facts, of_word, length_in}
use Rattle.rz_journal.specs.Seen.{calls_after}

-- The calls that changed the export, the oldest first, by the events of its word: those on names that were accepted and do
-- not only look, begins, accepted publishes, and enrolments. A publish is of as many bytes as the text has that was begun.
abbrev pub calls_told : Facts → List Event → List Call
calls_told f [] = []
calls_told f (e.Meta by c given ∷ w) = calls_after (reply.Tree given) (call.Tree c) (calls_told f w)
calls_told f (e.Begin by key stamp base text ∷ w) = calls_told f w ++ call.Begin key text ∷ []
calls_told f (e.Publish by key stamp mask None ∷ w) = calls_told f w ++ call.Publish key stamp mask (length_in (f.wrote stamp)) ∷ []
calls_told f (e.Enroll by node loss fence ∷ w) = calls_told f w ++ call.Enroll node loss ∷ []
calls_told f (_ ∷ w) = calls_told f w

-- those of a log
abbrev pub changing_calls : List Event → List Call
changing_calls h = calls_told (facts h) (of_word Export h)

-- a publish tells the length of the text with which its stamp began
abbrev pub HasLength : Facts → Call → Type 0
HasLength f (call.Publish key stamp mask size) = size ≡ length_in (f.wrote stamp)
HasLength f _ = Unit {0}

-- The event is that of a reply to a call, which is added where it changed the export.
pub record AddsCall (x : Event) (before after : List Call) : Type 0 where
  pub by : Actor
  pub call : Call
  pub reply : Reply
  pub event_is : export_event by call reply ≡ Some x
  pub after_is : after ≡ calls_after reply call before

-- the calls, the oldest first, that events of the export tell, whatever lengths the publishes have
abbrev pub AreCallsTold : List Event → List Call → Type 0
AreCallsTold [] calls = calls ≡ []
AreCallsTold (x ∷ w) calls = (before : List Call) × AreCallsTold w before × AddsCall x before calls
