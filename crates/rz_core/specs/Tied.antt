-- How the states of nodes and of the export are tied to the log, and what the log then says of each of their calls.
use Rattle.std.specs.Prelude.{ℕ, ◌≡◌, ◌<◌, ◌≤◌, ◌-◌, ◌^◌, List, ◌∷◌, map, Some, length}
use Rattle.std.specs.Option.{option_map}
use Rattle.mj_angles.specs.Layout.{block_bytes_of}
use Rattle.rz_events.specs.Volume.{Volume}
use Rattle.rz_events.specs.declared.keys.Key.{Key}
use Rattle.rz_events.specs.declared.keys.Actor.{Actor}
use Rattle.rz_events.specs.declared.records.Head.{Head}
use Rattle.rz_events.specs.declared.records.Held.{Held}
use Rattle.rz_events.specs.declared.records.Change.{Change}
use Rattle.rz_events.specs.declared.records.Change.TheVariants as change
use Rattle.rz_events.specs.declared.nodes.OpenFault.TheVariants as fault
use Rattle.rz_events.specs.declared.nodes.StartAnswer.TheVariants as start
use Rattle.rz_events.specs.declared.nodes.NodeAsk.{NodeAsk}
use Rattle.rz_events.specs.declared.nodes.NodeAsk.TheVariants as ask
use Rattle.rz_events.specs.declared.nodes.NodeAnswer.{NodeAnswer}
use Rattle.rz_events.specs.declared.nodes.NodeAnswer.TheVariants as answer
use Rattle.rz_events.specs.declared.export.Call.{Call}
use Rattle.rz_events.specs.declared.export.Call.TheVariants as call
use Rattle.rz_events.specs.declared.events.Word.TheVariants.{Export, Node}
use Rattle.rz_events.specs.declared.events.Event.{Event}
use Rattle.rz_events.specs.declared.events.Event.TheVariants as e
use Rattle.rz_node_model.specs.declared.pending.Pending.{Pending}
use Rattle.rz_node_model.specs.declared.pending.Pending.TheVariants as pending
use Rattle.rz_node_model.specs.Records.{held_of, IsWhole}
use Rattle.rz_node_model.specs.States.{NodeState}
use Rattle.rz_node_model.specs.Answers.{IsNodeAnswer}
use Rattle.rz_node_model.specs.Afterwards.{after_answer}
use Rattle.rz_node_model.specs.NodeEvents.{node_event}
use Rattle.rz_export_model.specs.Export.{Export as ExportState, export_reply, export_after}
use Rattle.rz_export_model.specs.ExportEvents.{export_event}
use Rattle.rz_core.specs.History.{Facts, facts, of_word, of_actor, Has, IsPlace, length_in}
use Rattle.rz_core.specs.NodeWord.{phase, losses, last_fence, undecided, held, base_begun}
use Rattle.rz_core.specs.ExportWord.{export_of}
use Rattle.rz_core.specs.ExportRows.{IsPublishing, HasLooked}
use Rattle.rz_core.specs.NodeRows.{cells_of, IsNodeOf, IsWriting, IsRebuilding, HasGone}
use Rattle.rz_core.specs.Legal.{IsLegalInRuns, IsAllowedIn}

-- Nodes.

-- the record of the write with stamp s
abbrev pub record_in : Facts → ℕ → Held
record_in f s = record { stamp = s; length = length_in (f.wrote s); base = base_begun f s }

-- a change as a node remembers it
abbrev pub pending_in : Facts → Change → Pending
pending_in f (change.Keep key s position) = pending.Keep key (record_in f s)
pending_in f (change.Refill fence key s position) = pending.Refill key (record_in f s)
pending_in f (change.Drop key s) = pending.Drop key s

-- The state of a node is the one that the events of its word give.
pub record IsNode (f : Facts) (w : List Event) (s : NodeState) : Type 0 where
  pub phase_is : s.phase ≡ phase w
  pub fence_is : s.fence ≡ last_fence w
  pub losses_is : s.losses ≡ losses w
  pub held_is : (key : Key) → held_of s.held key ≡ map (record_in f) (held f w key)
  pub whole : IsWhole s.held
  pub undecided_is : s.undecided ≡ option_map (pending_in f) (undecided w)

-- Each word gives a state.
abbrev pub HasState : Type 0
HasState = (f : Facts) (w : List Event) → (s : NodeState) × IsNode f w s

-- the head is that of the record of its write
abbrev pub IsOfWrite : Facts → Head → Type 0
IsOfWrite f head = (head.length ≡ length_in (f.wrote head.stamp)) × (head.base ≡ base_begun f head.stamp)

-- What a caller of node n must have done before: `o` has its own events.
abbrev pub IsProperAsk : Volume → Facts → List Event → Actor → ℕ → NodeAsk → Type 0
IsProperAsk v f o by n (ask.Keep head) = IsWriting f by n head.key head.stamp head.position × IsOfWrite f head
IsProperAsk v f o by n (ask.Fetch key position stamp) = IsPlace f key.fid position n
IsProperAsk v f o by n (ask.Refill fence head) =
    IsRebuilding v f o by n fence head.key head.stamp head.position × IsOfWrite f head
IsProperAsk v f o by n (ask.Drop fid) = HasGone o by fid
IsProperAsk v f o by n ask.Probe = Unit {0}
IsProperAsk v f o by n ask.Stop = Unit {0}
IsProperAsk v f o by n ask.Start = Unit {0}
IsProperAsk v f o by n ask.Lose = Unit {0}
IsProperAsk v f o by n (ask.Replace loss fence) = Has o (e.Enroll by n loss fence)

-- a disk that tells its text fails to open by a disk fault alone
abbrev pub IsOpening : NodeAnswer → Type 0
IsOpening (answer.Start (start.Unopened cause)) = cause ≡ fault.DiskFault
IsOpening _ = Unit {0}

-- the event is allowed in any run, and the state afterwards is the one that the log with it gives
pub record IsNodeStep (v : Volume) (h : List Event) (n : ℕ) (x : Event) (after : NodeState) : Type 0 where
  pub allowed : (run : List Event) → IsAllowedIn v h run x
  pub tied : IsNode (facts (x ∷ h)) (of_word (Node n) (x ∷ h)) after

-- A call of a node of the volume after a legal log: its event, if it has one, is allowed.
abbrev pub IsNodeLawOf : Volume → NodeAsk → Type 0
IsNodeLawOf v question = (h : List Event) (by : Actor) (n : ℕ) (s : NodeState) (given : NodeAnswer) (x : Event)
    → IsLegalInRuns v h → IsNodeOf v n → IsNode (facts h) (of_word (Node n) h) s → length (of_word (Node n) h) < 2 ^ 64 - 1
    → IsProperAsk v (facts h) (of_actor by h) by n question → IsNodeAnswer (cells_of v n) s question given → IsOpening given
    → node_event by n question given ≡ Some x → IsNodeStep v h n x (after_answer question given s)

abbrev pub IsNodeLaw : Volume → Type 0
IsNodeLaw v = (question : NodeAsk) → IsNodeLawOf v question

-- The export.

-- The state of the export is the one that the events of its word give.
abbrev pub IsExport : Volume → Facts → List Event → ExportState → Type 0
IsExport v f w s = s ≡ export_of v f w

-- What a caller of the export must have done before: `o` has its own events. A publish tells the length of the text.
abbrev pub IsProperCall : Volume → Facts → List Event → Actor → Call → Type 0
IsProperCall v f o by (call.Tree c) = Unit {0}
IsProperCall v f o by (call.Begin key text) = length text ≤ block_bytes_of v.layout
IsProperCall v f o by (call.Publish key stamp mask size) =
    IsPublishing v f o by key stamp mask × (size ≡ length_in (f.wrote stamp))
IsProperCall v f o by (call.Look key) = Unit {0}
IsProperCall v f o by (call.Enroll node loss) = Has o (e.Probe by node (Some loss))
IsProperCall v f o by (call.Next node after) = Unit {0}
IsProperCall v f o by (call.Recheck key) = HasLooked o by key

pub record IsExportStep (v : Volume) (h : List Event) (x : Event) (after : ExportState) : Type 0 where
  pub allowed : (run : List Event) → IsAllowedIn v h run x
  pub tied : IsExport v (facts (x ∷ h)) (of_word Export (x ∷ h)) after

-- A call of the export after a legal log: the event of its reply is allowed.
abbrev pub IsExportLawOf : Volume → Call → Type 0
IsExportLawOf v question = (h : List Event) (by : Actor) (s : ExportState) (x : Event)
    → IsLegalInRuns v h → IsExport v (facts h) (of_word Export h) s → length (of_word Export h) < 2 ^ 64 - 1
    → IsProperCall v (facts h) (of_actor by h) by question
    → export_event by question (export_reply s question) ≡ Some x → IsExportStep v h x (export_after s question)

abbrev pub IsExportLaw : Volume → Type 0
IsExportLaw v = (question : Call) → IsExportLawOf v question
