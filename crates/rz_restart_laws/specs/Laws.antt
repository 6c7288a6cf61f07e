-- From the log of earlier runs to the log in which a run goes on.
use Rattle.std.specs.Prelude.{ℕ, Bool, ◌≡◌, ◌<◌, ◌≤◌, ◌+◌, ◌^◌, List, ◌∷◌, ◌++◌, length, Some}
use Rattle.rz_disk.specs.Images.{Only}
use Rattle.rz_events.specs.Volume.{Volume}
use Rattle.rz_events.specs.declared.keys.Actor.{Actor}
use Rattle.rz_events.specs.declared.export.Call.{Call}
use Rattle.rz_events.specs.declared.export.Reply.{Reply}
use Rattle.rz_events.specs.declared.events.Word.TheVariants.{Export, Node}
use Rattle.rz_events.specs.declared.events.Event.{Event}
use Rattle.rz_node_model.specs.States.{NodeState}
use Rattle.rz_export_model.specs.Export.{Export as ExportState, new_export}
use Rattle.rz_export_model.specs.ExportEvents.{export_event}
use Rattle.rz_core.specs.History.{facts, of_word}
use Rattle.rz_core.specs.ExportWord.{export_of}
use Rattle.rz_core.specs.Legal.{IsLegalInRuns}
use Rattle.rz_core.specs.Tied.{IsNode, IsExport}
use Rattle.rz_node_laws.specs.Images.{IsImaged, geometry_in}
use Rattle.rz_journal.specs.JournalText.{after_all}
use Rattle.rz_journal.specs.Seen.{calls_after}
use Rattle.rz_script.specs.declared.line.Line.{Line}
use Rattle.rz_play.specs.World.{world_after}
use Rattle.rz_play.specs.Played.{IsBegunFrom}
use Rattle.rz_play_laws.specs.Fine.{MayBegin, IsFine}
use Rattle.rz_play_laws.specs.Runs.{IsScript, IsRunAfter}
use Rattle.rz_restart_laws.specs.Earlier.{IsEarlier, MayTake, restarted, IsRestart, IsRestarted}
use Rattle.rz_restart_laws.specs.Calls.{changing_calls, HasLength}
use Rattle.rz_restart_laws.specs.Found.{IsNodeFound, IsStoreFound}

-- The nodes may be stopped and started.
abbrev pub MayRestart : Volume → Type 0
MayRestart v = (h : List Event) → IsEarlier v h → (took : ℕ → Bool) → MayTake h took → IsRestart v h (restarted v took h)

-- A node that was opened on a text: a disk that has this text alone has the images of the node's state.
abbrev pub IsFoundLaw : {D : Type 0} → (D → List ℕ → Type 0) → Type 0
IsFoundLaw {D = D} image = (v : Volume) (h : List Event) (n : ℕ) (text : List ℕ) (s : NodeState) (d : D)
    → IsNodeFound v h n text s → Only text (image d) → IsImaged v (facts h) n s (geometry_in v n) (image d)

-- An export that answers the calls which changed the log's export, the oldest first, comes to its state.
abbrev pub IsExportAgain : Volume → Type 0
IsExportAgain v = (h : List Event) → IsLegalInRuns v h
    → after_all (new_export v 0) (changing_calls h) ≡ export_of v (facts h) (of_word Export h)

-- Nodes and export are those of this log, which is the earlier one with the nodes stopped and started: a play may go on.
pub record CanGoOn (v : Volume) (h : List Event) (export : ExportState) (nodes : ℕ → NodeState) (old : List Event) : Type 0 where
  pub restart : IsRestart v h old
  pub nodes_are : (n : ℕ) → IsNode (facts old) (of_word (Node n) old) (nodes n)
  pub export_is : IsExport v (facts old) (of_word Export old) export
  pub fine : IsFine v old (world_after nodes export old)
  pub begins : MayBegin v nodes export old

abbrev pub MayGoOn : Volume → Type 0
MayGoOn v = (h : List Event) (export : ExportState) (nodes : ℕ → NodeState) → IsEarlier v h → IsStoreFound v h export nodes
    → (old : List Event) × IsRestarted v h old × CanGoOn v h export nodes old

-- The log of a play that went on so is legal behind the earlier one, and both together are sound.
abbrev pub IsSoundAfterwards : Volume → Type 0
IsSoundAfterwards v = (script : List Line) → IsScript v script → (nodes : ℕ → NodeState) (export : ExportState) (old : List Event)
    → IsFine v old (world_after nodes export old) → length old ≤ 2 ^ 63 + 512
    → (log : List Event) → IsBegunFrom v (world_after nodes export old) script log → IsRunAfter v old log

-- The calls of a log.

-- the event of a reply adds its call, where that changed the export
abbrev pub IsCallTold : Volume → Type 0
IsCallTold v = (h : List Event) (x : Event) (by : Actor) (c : Call) (r : Reply) → IsLegalInRuns v h
    → export_event by c r ≡ Some x → HasLength (facts (x ∷ h)) c → calls_after r c (changing_calls h) ≡ changing_calls (x ∷ h)

-- events of other words add none
abbrev pub IsNoCall : Volume → Type 0
IsNoCall v = (h more : List Event) → IsLegalInRuns v h → of_word Export (more ++ h) ≡ of_word Export h → changing_calls (more ++ h) ≡ changing_calls h
