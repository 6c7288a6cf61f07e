-- Which events change the export.
use Rattle.std.specs.Prelude.{Bool, true, false, not, ◌&&◌, ◌≡◌, List, [], ◌∷◌, None, cond}
use Rattle.std.specs.List.{filter}
use Rattle.rz_events.specs.Volume.{Volume}
use Rattle.rz_events.specs.declared.tree.TreeCall.{TreeCall}
use Rattle.rz_events.specs.declared.tree.TreeCall.TheVariants as call
use Rattle.rz_events.specs.declared.tree.TreeReply.{TreeReply}
use Rattle.rz_events.specs.declared.tree.TreeReply.TheVariants as reply
use Rattle.rz_events.specs.declared.events.Word.TheVariants.{Export}
use Rattle.rz_events.specs.declared.events.Event.{Event}
use Rattle.rz_events.specs.declared.events.Event.TheVariants as e
use Rattle.rz_events.specs.declared.export.Call.{Call}
use Rattle.rz_events.specs.declared.export.Call.TheVariants as calls
use Rattle.rz_export_model.specs.Export.{Export as ExportState, new_export, export_after}
use Rattle.rz_core.specs.History.{Facts, facts, of_word, length_in}
use Rattle.rz_core.specs.ExportWord.{export_of}
use Rattle.rz_core.specs.Legal.{IsLegalInRuns}

-- a call that only asks
abbrev pub only_asks : TreeCall → Bool
only_asks (call.Lookup path) = true
only_asks (call.Getattr path) = true
only_asks (call.Readlink path) = true
only_asks (call.Readdir path) = true
only_asks (call.OpenFile path) = true
only_asks _ = false

abbrev pub is_refused : TreeReply → Bool
is_refused (reply.Refused fault) = true
is_refused _ = false

-- the event of a call that may change the export: one on names that was not refused, a begin, a publish that was
-- accepted, or an enrolment
abbrev pub is_changing : Event → Bool
is_changing (e.Meta by c given) = not (only_asks c) && not (is_refused given)
is_changing (e.Begin by key stamp base text) = true
is_changing (e.Publish by key stamp mask None) = true
is_changing (e.Enroll by node loss fence) = true
is_changing _ = false

-- These events alone decide the state of the export.
abbrev pub AreDeciding : Volume → Type 0
AreDeciding v = (h : List Event) → IsLegalInRuns v h
    → export_of v (facts h) (of_word Export h) ≡ export_of v (facts h) (filter is_changing (of_word Export h))

-- the calls of these events, the newest first
abbrev pub calls_of : Facts → List Event → List Call
calls_of f [] = []
calls_of f (e.Meta by c given ∷ w) = cond (is_changing (e.Meta by c given)) (calls.Tree c ∷ calls_of f w) (calls_of f w)
calls_of f (e.Begin by key stamp base text ∷ w) = calls.Begin key text ∷ calls_of f w
calls_of f (e.Publish by key stamp mask None ∷ w) = calls.Publish key stamp mask (length_in (f.wrote stamp)) ∷ calls_of f w
calls_of f (e.Enroll by node loss fence ∷ w) = calls.Enroll node loss ∷ calls_of f w
calls_of f (_ ∷ w) = calls_of f w

-- an export after these calls
abbrev pub built : ExportState → List Call → ExportState
built s [] = s
built s (c ∷ cs) = export_after (built s cs) c

-- A new export that answers these calls, the oldest first, comes to the state that the log gives.
abbrev pub IsBuilt : Volume → Type 0
IsBuilt v = (h : List Event) → IsLegalInRuns v h
    → export_of v (facts h) (of_word Export h) ≡ built (new_export v 0) (calls_of (facts h) (of_word Export h))
