-- The log of earlier runs, and what is put behind it before a run goes on: a stop of each node that is up, and a start of
-- each node.
use Rattle.std.specs.Prelude.{ℕ, Bool, true, ◌≡◌, ◌≢◌, ◌<◌, ◌≤◌, ◌+◌, ◌^◌, List, [], ◌∷◌, map, length, Some}
use Rattle.rz_events.specs.Volume.{Volume, nodes_of}
use Rattle.rz_events.specs.declared.files.NodeSpec.{NodeSpec}
use Rattle.rz_events.specs.declared.records.Change.{Change}
use Rattle.rz_events.specs.declared.nodes.Phase.{Phase}
use Rattle.rz_events.specs.declared.nodes.Phase.TheVariants.{Up, Lost}
use Rattle.rz_events.specs.declared.events.Word.TheVariants.{Export, Node}
use Rattle.rz_events.specs.declared.events.Event.{Event}
use Rattle.rz_events.specs.declared.events.Event.TheVariants as e
use Rattle.rz_core.specs.History.{facts, of_word}
use Rattle.rz_core.specs.NodeWord.{phase, undecided}
use Rattle.rz_core.specs.NodeRows.{IsNodeOf}
use Rattle.rz_core.specs.Legal.{IsLegalInRuns}

-- The log of earlier runs: it is legal, it has fewer than 2^63 events, and no node of the volume is lost after it.
pub record IsEarlier (v : Volume) (h : List Event) : Type 0 where
  pub legal : IsLegalInRuns v h
  pub few : length h < 2 ^ 63
  pub there : (n : ℕ) → IsNodeOf v n → phase (of_word (Node n) h) ≢ Lost

-- the numbers of a volume's nodes, in the order of the description
abbrev pub numbers : Volume → List ℕ
numbers v = map (λ (spec : NodeSpec). spec.sid) (nodes_of v.clusters)

-- a node that is up is stopped
abbrev pub stopped_if : Phase → ℕ → List Event → List Event
stopped_if Up n h = e.Stop n ∷ h
stopped_if _ n h = h

-- each of these nodes that is up is stopped, one after another
abbrev pub stopped : List ℕ → List Event → List Event
stopped [] h = h
stopped (n ∷ ns) h = stopped ns (stopped_if (phase (of_word (Node n) h)) n h)

-- each of these nodes is started, one after another; `took` says of which the undecided change was found on the disk
abbrev pub started : (ℕ → Bool) → List ℕ → List Event → List Event
started took [] h = h
started took (n ∷ ns) h = started took ns (e.Start n (took n) ∷ h)

-- the log of earlier runs, a stop of each node that is up, and a start of each node
abbrev pub restarted : Volume → (ℕ → Bool) → List Event → List Event
restarted v took h = started took (numbers v) (stopped (numbers v) h)

-- a start finds a change only where one was left undecided
abbrev pub MayTake : List Event → (ℕ → Bool) → Type 0
MayTake h took = (n : ℕ) → took n ≡ true → (c : Change) × (undecided (of_word (Node n) h) ≡ Some c)

-- this is the log of earlier runs, with all nodes stopped and started
abbrev pub IsRestarted : Volume → List Event → List Event → Type 0
IsRestarted v h old = (took : ℕ → Bool) × MayTake h took × (old ≡ restarted v took h)

-- It is legal, it has the same permanent facts and the same events of the export, and it is not much longer.
pub record IsRestart (v : Volume) (h old : List Event) : Type 0 where
  pub legal : IsLegalInRuns v old
  pub facts_are : facts old ≡ facts h
  pub export_word : of_word Export old ≡ of_word Export h
  pub few : length old ≤ length h + 512
