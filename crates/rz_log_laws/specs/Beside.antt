-- What stays true when only others act: what is said of a word, or of an actor, where that has the same events
-- afterwards. And what the administrator may do to a node.
use Rattle.std.specs.Prelude.{ℕ, Bool, true, ◌≡◌, ◌<◌, ◌-◌, ◌^◌, List, [], ◌++◌, length, Some}
use Rattle.rz_events.specs.Volume.{Volume}
use Rattle.rz_events.specs.declared.keys.Actor.{Actor}
use Rattle.rz_events.specs.declared.records.Change.{Change}
use Rattle.rz_events.specs.declared.nodes.Phase.TheVariants.{Up, Down}
use Rattle.rz_events.specs.declared.nodes.NodeAsk.{NodeAsk}
use Rattle.rz_events.specs.declared.export.Call.{Call}
use Rattle.rz_events.specs.declared.events.Word.TheVariants.{Export, Node}
use Rattle.rz_events.specs.declared.events.Event.{Event}
use Rattle.rz_events.specs.declared.events.Event.TheVariants as e
use Rattle.rz_node_model.specs.States.{NodeState, fresh}
use Rattle.rz_export_model.specs.Export.{Export as ExportState, new_export}
use Rattle.rz_core.specs.History.{Facts, facts, of_word, of_actor}
use Rattle.rz_core.specs.NodeWord.{phase, undecided}
use Rattle.rz_core.specs.NodeRows.{IsNodeOf}
use Rattle.rz_core.specs.Legal.{IsLegalInRuns, IsAllowedIn}
use Rattle.rz_core.specs.Tied.{IsNode, IsExport, IsProperAsk, IsProperCall, IsNodeStep}

-- The state of a node stays that of the log.
abbrev pub IsNodeKept : Volume → Type 0
IsNodeKept v = (h more : List Event) (n : ℕ) (s : NodeState) → IsLegalInRuns v h
    → of_word (Node n) (more ++ h) ≡ of_word (Node n) h → IsNode (facts h) (of_word (Node n) h) s
    → IsNode (facts (more ++ h)) (of_word (Node n) (more ++ h)) s

-- So does the state of the export.
abbrev pub IsExportKept : Volume → Type 0
IsExportKept v = (h more : List Event) (s : ExportState) → IsLegalInRuns v h
    → of_word Export (more ++ h) ≡ of_word Export h → IsExport v (facts h) (of_word Export h) s
    → IsExport v (facts (more ++ h)) (of_word Export (more ++ h)) s

-- A call of a node that an actor may make, it may make later too.
abbrev pub IsAskKept : Volume → Type 0
IsAskKept v = (h more : List Event) (by : Actor) (n : ℕ) (question : NodeAsk) → IsLegalInRuns v h
    → of_actor by (more ++ h) ≡ of_actor by h → IsProperAsk v (facts h) (of_actor by h) by n question
    → IsProperAsk v (facts (more ++ h)) (of_actor by (more ++ h)) by n question

-- So it may a call of the export.
abbrev pub IsCallKept : Volume → Type 0
IsCallKept v = (h more : List Event) (by : Actor) (question : Call) → IsLegalInRuns v h
    → of_actor by (more ++ h) ≡ of_actor by h → IsProperCall v (facts h) (of_actor by h) by question
    → IsProperCall v (facts (more ++ h)) (of_actor by (more ++ h)) by question

-- A node on a disk that was formatted is the one of a word without events, and a new export is that of the empty log.
abbrev pub IsBeginning : Volume → Type 0
IsBeginning v = (f : Facts) → IsNode f [] fresh × IsExport v f [] (new_export v 0)

-- a node of the volume whose word has room, with the state that the log gives
pub record IsThere (v : Volume) (h : List Event) (n : ℕ) (s : NodeState) : Type 0 where
  pub legal : IsLegalInRuns v h
  pub of_volume : IsNodeOf v n
  pub tied : IsNode (facts h) (of_word (Node n) h) s
  pub room : length (of_word (Node n) h) < 2 ^ 64 - 1

-- A fuse that is armed changes nothing of its node.
abbrev pub IsArming : Volume → Type 0
IsArming v = (h : List Event) (n k pick : ℕ) (s : NodeState) → IsThere v h n s → IsNodeStep v h n (e.Armed n k pick) s

-- A node that is up may be stopped.
abbrev pub IsStopping : Volume → Type 0
IsStopping v = (h run : List Event) (n : ℕ) (s : NodeState) → IsThere v h n s
    → phase (of_word (Node n) h) ≡ Up → IsAllowedIn v h run (e.Stop n)

-- A node that is down may be started, with its undecided change where there is one, or without.
abbrev pub IsStarting : Volume → Type 0
IsStarting v = (h run : List Event) (n : ℕ) (s : NodeState) (took : Bool) → IsThere v h n s
    → phase (of_word (Node n) h) ≡ Down → (took ≡ true → (c : Change) × (undecided (of_word (Node n) h) ≡ Some c))
    → IsAllowedIn v h run (e.Start n took)
