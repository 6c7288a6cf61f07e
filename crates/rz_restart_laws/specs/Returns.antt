-- Earlier logs after which not each node has its disk: some nodes are lost, some disks are away. Behind such a log a store puts a
-- replacement of each node that is lost, a stop of each node that is up, and a start of each node whose disk is here.
use Rattle.std.specs.Prelude.{ℕ, Bool, true, false, ◌≡◌, ◌<◌, ◌≤◌, ◌+◌, ◌^◌, List, [], ◌∷◌, length}
use Rattle.std.specs.List.{filter}
use Rattle.rz_events.specs.Volume.{Volume}
use Rattle.rz_events.specs.declared.keys.Actor.{Actor}
use Rattle.rz_events.specs.declared.nodes.Phase.{Phase}
use Rattle.rz_events.specs.declared.nodes.Phase.TheVariants.{Up, Down, Lost}
use Rattle.rz_events.specs.declared.events.Word.TheVariants.{Export, Node}
use Rattle.rz_events.specs.declared.events.Event.{Event}
use Rattle.rz_events.specs.declared.events.Event.TheVariants as e
use Rattle.rz_node_model.specs.States.{NodeState}
use Rattle.rz_export_model.specs.Export.{Export as ExportState, new_export}
use Rattle.rz_core.specs.History.{facts, of_word, of_actor, Has}
use Rattle.rz_core.specs.NodeWord.{phase, losses}
use Rattle.rz_core.specs.NodeRows.{IsNodeOf}
use Rattle.rz_core.specs.Legal.{IsLegalInRuns}
use Rattle.rz_core.specs.Tied.{IsNode, IsExport}
use Rattle.rz_log_laws.specs.Losses.{loss_in}
use Rattle.rz_journal.specs.JournalText.{after_all}
use Rattle.rz_restart_laws.specs.Calls.{changing_calls}
use Rattle.rz_restart_laws.specs.Earlier.{IsEarlier, IsRestart, MayTake, numbers, stopped, started}
use Rattle.rz_restart_laws.specs.Found.{IsNodeFound}

-- Lost nodes.

-- a new disk of a node: who enrolled the node's loss, and under which fence
pub record NewDisk : Type 0 where
  pub by : Actor
  pub fence : ℕ

-- the last loss of the node was enrolled so
abbrev pub IsEnrolled : List Event → ℕ → NewDisk → Type 0
IsEnrolled h n d = Has (of_actor d.by h) (e.Enroll d.by n (losses (of_word (Node n) h)) d.fence)

-- a node that is lost gets its new disk
abbrev pub replaced_if : Phase → ℕ → NewDisk → List Event → List Event
replaced_if Lost n d h = e.Replace d.by n (losses (of_word (Node n) h)) d.fence ∷ h
replaced_if _ n d h = h

-- each of these nodes that is lost gets one, one after another
abbrev pub replaced : (ℕ → NewDisk) → List ℕ → List Event → List Event
replaced disks [] h = h
replaced disks (n ∷ ns) h = replaced disks ns (replaced_if (phase (of_word (Node n) h)) n (disks n) h)

-- The log of earlier runs: it is legal, it has fewer than 2^63 - 256 events, and the loss of each node that is lost was enrolled.
pub record HasNewDisks (v : Volume) (disks : ℕ → NewDisk) (h : List Event) : Type 0 where
  pub legal : IsLegalInRuns v h
  pub few : length h + 256 < 2 ^ 63
  pub enrolled : (n : ℕ) → IsNodeOf v n → phase (of_word (Node n) h) ≡ Lost → IsEnrolled h n (disks n)

-- No node is lost after it any more. It has the same permanent facts and the same events of the export, and is not much longer.
pub record IsReplaced (v : Volume) (h old : List Event) : Type 0 where
  pub earlier : IsEarlier v old
  pub facts_are : facts old ≡ facts h
  pub export_word : of_word Export old ≡ of_word Export h
  pub few : length old ≤ length h + 256

-- So lost nodes may get new disks.
abbrev pub MayReplace : Volume → Type 0
MayReplace v = (h : List Event) (disks : ℕ → NewDisk) → HasNewDisks v disks h → IsReplaced v h (replaced disks (numbers v) h)

-- Disks that are away.

-- the log of earlier runs, a stop of each node that is up, and a start of each node whose disk is here
abbrev pub returned : Volume → (ℕ → Bool) → (ℕ → Bool) → List Event → List Event
returned v here took h = started took (filter here (numbers v)) (stopped (numbers v) h)

-- The nodes whose disks are here are up, and the others are down.
pub record IsReturn (v : Volume) (here : ℕ → Bool) (h old : List Event) : Type 0 where
  pub restart : IsRestart v h old
  pub up : (n : ℕ) → IsNodeOf v n → here n ≡ true → phase (of_word (Node n) old) ≡ Up
  pub down : (n : ℕ) → IsNodeOf v n → here n ≡ false → phase (of_word (Node n) old) ≡ Down

-- So the nodes may be stopped, and those be started whose disks are here.
abbrev pub MayReturn : Volume → Type 0
MayReturn v = (h : List Event) → IsEarlier v h → (here took : ℕ → Bool) → MayTake h took → IsReturn v here h (returned v here took h)

-- A store that was opened on the disks that are here: the export has answered the calls that changed the log's export, and each node
-- whose disk is here was opened on it as one that lost as many disks as the export knows.
pub record AreFoundHere (v : Volume) (here : ℕ → Bool) (h : List Event) (export : ExportState) (nodes : ℕ → NodeState) : Type 0 where
  pub export_is : export ≡ after_all (new_export v 0) (changing_calls h)
  pub found : (n : ℕ) → IsNodeOf v n → here n ≡ true → (text : List ℕ) × IsNodeFound v h n text (nodes n)
  pub losses : (n : ℕ) → IsNodeOf v n → here n ≡ true → (nodes n).losses ≡ loss_in export n

-- The export and the nodes that are here are those of this log.
pub record AreBack (v : Volume) (here : ℕ → Bool) (h : List Event) (export : ExportState) (nodes : ℕ → NodeState) (old : List Event) : Type 0 where
  pub back : IsReturn v here h old
  pub nodes_are : (n : ℕ) → IsNodeOf v n → here n ≡ true → IsNode (facts old) (of_word (Node n) old) (nodes n)
  pub export_is : IsExport v (facts old) (of_word Export old) export

-- So a store goes on with the disks that are here.
abbrev pub MayGoOnWithout : Volume → Type 0
MayGoOnWithout v = (h : List Event) (here : ℕ → Bool) (export : ExportState) (nodes : ℕ → NodeState) → IsEarlier v h → AreFoundHere v here h export nodes
    → (took : ℕ → Bool) × MayTake h took × AreBack v here h export nodes (returned v here took h)
