-- What lasts while others act, and what the answers of a node and of the export add to a log. Behind the log of this run, of which the
-- laws speak, stands an earlier one, or none.
use Rattle.std.specs.Prelude.{ℕ, ◌≡◌, ◌<◌, ◌-◌, ◌^◌, List, ◌∷◌, ◌++◌, length, Some}
use Rattle.rz_events.specs.Volume.{Volume}
use Rattle.rz_events.specs.declared.keys.Actor.{Actor}
use Rattle.rz_events.specs.declared.nodes.NodeAsk.{NodeAsk}
use Rattle.rz_events.specs.declared.nodes.NodeAnswer.{NodeAnswer}
use Rattle.rz_events.specs.declared.nodes.Phase.TheVariants.{Lost}
use Rattle.rz_events.specs.declared.events.Word.TheVariants.{Export, Node}
use Rattle.rz_events.specs.declared.export.Call.{Call}
use Rattle.rz_events.specs.declared.export.Reply.{Reply}
use Rattle.rz_events.specs.declared.events.Event.{Event}
use Rattle.rz_events.specs.declared.events.Event.TheVariants as e
use Rattle.rz_events.specs.Events.{by_of}
use Rattle.rz_node_model.specs.States.{NodeState}
use Rattle.rz_node_model.specs.Answers.{IsNodeAnswer}
use Rattle.rz_node_model.specs.Afterwards.{after_answer}
use Rattle.rz_node_model.specs.NodeEvents.{node_event}
use Rattle.rz_export_model.specs.Export.{Export as State, export_reply, export_after}
use Rattle.rz_export_model.specs.ExportEvents.{export_event}
use Rattle.rz_node.specs.View.{lost}
use Rattle.rz_core.specs.History.{facts, of_word, of_actor}
use Rattle.rz_core.specs.NodeRows.{cells_of, IsNodeOf}
use Rattle.rz_core.specs.Legal.{IsLegalAfter, IsAllowedIn}
use Rattle.rz_core.specs.Tied.{IsNode, IsProperAsk, IsOpening, IsExport, IsProperCall}
use Rattle.rz_journal.specs.Seen.{calls_after}
use Rattle.rz_restart_laws.specs.Calls.{changing_calls}
use Rattle.rz_chronicle.specs.Keys.{IsLater, events_at, word_key, actor_key}
use Rattle.rz_shared_locked.specs.LockedNodes.{MayAsk, IsTrueRecord}

-- Nodes.

-- The state that the log gives of a node stays the one that it gives while the node's word has no event more.
abbrev pub IsLockedNodeKept : Volume → Type 0
IsLockedNodeKept v = (earlier old new : List Event) (n : ℕ) (s : NodeState) → IsLegalAfter v earlier old → IsLater old new
    → events_at (word_key (Node n)) new ≡ events_at (word_key (Node n)) old → IsNode (facts (old ++ earlier)) (of_word (Node n) (old ++ earlier)) s
    → IsNode (facts (new ++ earlier)) (of_word (Node n) (new ++ earlier)) s

-- A call that a caller may make, it may make later too, as long as it does nothing else.
abbrev pub IsAskerKept : Volume → Type 0
IsAskerKept v = (earlier old new : List Event) (by : Actor) (n : ℕ) (question : NodeAsk) (bins : List ℕ) → IsLegalAfter v earlier old → IsLater old new
    → events_at (actor_key by) new ≡ events_at (actor_key by) old → MayAsk v (old ++ earlier) by n question bins → MayAsk v (new ++ earlier) by n question bins

-- What was read of a write is still so in a longer log.
abbrev pub IsReadKept : Volume → Type 0
IsReadKept v = (earlier old new : List Event) (n : ℕ) (question : NodeAsk) (given : NodeAnswer) (bins bins' : List ℕ) → IsLater old new
    → IsTrueRecord v (facts (old ++ earlier)) n question given bins bins' → IsTrueRecord v (facts (new ++ earlier)) n question given bins bins'

-- The event is allowed after the history. Whatever others add before it, the state is the one that the log with it gives.
pub record IsAllowedLater (v : Volume) (earlier h : List Event) (by : Actor) (n : ℕ) (x : Event) (after : NodeState) : Type 0 where
  pub allowed : IsAllowedIn v (h ++ earlier) (of_actor (by_of x) h) x
  pub tied : (before : List Event) → IsLater h before → events_at (word_key (Node n)) before ≡ events_at (word_key (Node n)) h
      → events_at (actor_key by) before ≡ events_at (actor_key by) h → IsLegalAfter v earlier (x ∷ before)
      → IsNode (facts (x ∷ before ++ earlier)) (of_word (Node n) (x ∷ before ++ earlier)) after

-- a node of the volume whose word has room, with the state that the log gives
pub record IsLockedNodeAt (v : Volume) (earlier h : List Event) (n : ℕ) (s : NodeState) : Type 0 where
  pub legal : IsLegalAfter v earlier h
  pub of_volume : IsNodeOf v n
  pub tied : IsNode (facts (h ++ earlier)) (of_word (Node n) (h ++ earlier)) s
  pub room : length (of_word (Node n) (h ++ earlier)) < 2 ^ 64 - 1

-- The event of an answer may be added.
abbrev pub IsAnswerLaw : Volume → Type 0
IsAnswerLaw v = (earlier h : List Event) (by : Actor) (n : ℕ) (question : NodeAsk) (s : NodeState) (given : NodeAnswer) (x : Event) → IsLockedNodeAt v earlier h n s
    → IsProperAsk v (facts (h ++ earlier)) (of_actor by (h ++ earlier)) by n question → IsNodeAnswer (cells_of v n) s question given → IsOpening given
    → node_event by n question given ≡ Some x → IsAllowedLater v earlier h by n x (after_answer question given s)

-- So may that of an arming.
abbrev pub IsArmLaw : Volume → Type 0
IsArmLaw v = (earlier h : List Event) (by : Actor) (n k pick : ℕ) (s : NodeState) → IsLockedNodeAt v earlier h n s → IsAllowedLater v earlier h by n (e.Armed n k pick) s

-- A node that is lost holds nothing, and has no change undecided.
abbrev pub IsLostLaw : Volume → Type 0
IsLostLaw v = (earlier h : List Event) (n : ℕ) (s : NodeState) → IsLegalAfter v earlier h → IsNode (facts (h ++ earlier)) (of_word (Node n) (h ++ earlier)) s → s.phase ≡ Lost
    → IsNode (facts (h ++ earlier)) (of_word (Node n) (h ++ earlier)) (lost s.fence s.losses)

-- The export.

-- It stays the one that the log gives while its word has no event more.
abbrev pub IsLockedExportKept : Volume → Type 0
IsLockedExportKept v = (earlier old new : List Event) (s : State) → IsLegalAfter v earlier old → IsLater old new
    → events_at (word_key Export) new ≡ events_at (word_key Export) old → IsExport v (facts (old ++ earlier)) (of_word Export (old ++ earlier)) s
    → IsExport v (facts (new ++ earlier)) (of_word Export (new ++ earlier)) s

-- A call that a caller may make, it may make later too, as long as it does nothing else.
abbrev pub IsCallerKept : Volume → Type 0
IsCallerKept v = (earlier old new : List Event) (by : Actor) (question : Call) → IsLegalAfter v earlier old → IsLater old new
    → events_at (actor_key by) new ≡ events_at (actor_key by) old → IsProperCall v (facts (old ++ earlier)) (of_actor by (old ++ earlier)) by question
    → IsProperCall v (facts (new ++ earlier)) (of_actor by (new ++ earlier)) by question

-- The event is allowed after the history. Whatever others add before it, the state is the one that the log with it gives.
pub record IsLockedExportStep (v : Volume) (earlier h : List Event) (by : Actor) (x : Event) (after : State) : Type 0 where
  pub allowed : IsAllowedIn v (h ++ earlier) (of_actor (by_of x) h) x
  pub tied : (before : List Event) → IsLater h before → events_at (word_key Export) before ≡ events_at (word_key Export) h
      → events_at (actor_key by) before ≡ events_at (actor_key by) h → IsLegalAfter v earlier (x ∷ before)
      → IsExport v (facts (x ∷ before ++ earlier)) (of_word Export (x ∷ before ++ earlier)) after

-- The event of a reply may be added.
abbrev pub IsReplyLaw : Volume → Type 0
IsReplyLaw v = (earlier h : List Event) (by : Actor) (question : Call) (s : State) (x : Event) → IsLegalAfter v earlier h
    → IsExport v (facts (h ++ earlier)) (of_word Export (h ++ earlier)) s → length (of_word Export (h ++ earlier)) < 2 ^ 64 - 1
    → IsProperCall v (facts (h ++ earlier)) (of_actor by (h ++ earlier)) by question
    → export_event by question (export_reply s question) ≡ Some x → IsLockedExportStep v earlier h by x (export_after s question)

-- The calls that changed the export stay these while its word has no event more.
abbrev pub AreCallsKept : Volume → Type 0
AreCallsKept v = (earlier old new : List Event) → IsLegalAfter v earlier old → IsLater old new → events_at (word_key Export) new ≡ events_at (word_key Export) old
    → changing_calls (new ++ earlier) ≡ changing_calls (old ++ earlier)

-- With the event of a reply its call joins them, where it changed the export.
abbrev pub AreCallsAdded : Volume → Type 0
AreCallsAdded v = (earlier old before : List Event) (by : Actor) (question : Call) (given : Reply) (x : Event) → IsLegalAfter v earlier old → IsLegalAfter v earlier before → IsLater old before
    → events_at (word_key Export) before ≡ events_at (word_key Export) old → IsProperCall v (facts (old ++ earlier)) (of_actor by (old ++ earlier)) by question
    → export_event by question given ≡ Some x → changing_calls (x ∷ before ++ earlier) ≡ calls_after given question (changing_calls (old ++ earlier))
