-- When a world is in order, in a play that goes on after an earlier log.
use Rattle.std.specs.Prelude.{ℕ, false, ◌≡◌, ◌<◌, ◌+◌, ◌-◌, ◌^◌, List, ◌∷◌, ◌++◌, length}
use Rattle.std.specs.List.{AllByRecursion}
use Rattle.rz_events.specs.Volume.{Volume}
use Rattle.rz_events.specs.declared.keys.Actor.{Actor}
use Rattle.rz_events.specs.declared.keys.Actor.TheVariants.{Admin}
use Rattle.rz_events.specs.declared.events.Word.TheVariants.{Export, Node}
use Rattle.rz_events.specs.declared.events.Event.{Event}
use Rattle.rz_events.specs.Events.{same_actor}
use Rattle.rz_node_model.specs.States.{NodeState}
use Rattle.rz_export_model.specs.Export.{Export as ExportState}
use Rattle.rz_script.specs.Lines.{IsOperation}
use Rattle.rz_core.specs.History.{facts, of_word, of_actor}
use Rattle.rz_core.specs.Legal.{IsLegalInRuns, IsLegalAfter}
use Rattle.rz_core.specs.Tied.{IsNode, IsExport}
use Rattle.rz_play.specs.World.{World}
use Rattle.rz_play_laws.specs.Own.{IsOwnOf, HasOwnEvents, IsToldBy}

-- each event of a legal log says what is so for good
abbrev pub IsTelling : Volume → Type 0
IsTelling v = (h : List Event) (x : Event) → IsLegalInRuns v (x ∷ h) → IsToldBy v (facts (x ∷ h)) x

-- The beginning.

-- A play may begin after this log, which is legal and leaves room: nodes and export are those of the log. It may have 512
-- events more than earlier runs, since before a play each of 256 nodes was stopped and started.
pub record MayBegin (v : Volume) (nodes : ℕ → NodeState) (s : ExportState) (old : List Event) : Type 0 where
  pub legal : IsLegalInRuns v old
  pub nodes_are : (n : ℕ) → IsNode (facts old) (of_word (Node n) old) (nodes n)
  pub export_is : IsExport v (facts old) (of_word Export old) s
  pub few : length old < 2 ^ 63 + 512

-- Between two turns.

-- a client or a rebuilder
abbrev pub IsSeated : Actor → Type 0
IsSeated by = same_actor by Admin ≡ false

-- `run` has the events of this run, which go on after the earlier log.
pub record IsFine (v : Volume) (old : List Event) (w : World) : Type 0 where
  pub run : List Event
  pub log_is : w.log ≡ run ++ old
  pub legal : IsLegalAfter v old run
  pub nodes_are : (n : ℕ) → IsNode (facts w.log) (of_word (Node n) w.log) (w.nodes n)
  pub export_is : IsExport v (facts w.log) (of_word Export w.log) w.export
  pub own : (by : Actor) → IsSeated by → IsOwnOf v (facts w.log) (of_actor by w.log) (of_actor by run) by (w.agendas by).work
  pub under_way : (by : Actor) → IsSeated by → HasOwnEvents v by (w.agendas by).number (of_actor by run) (w.agendas by).work
  pub todo : (by : Actor) → AllByRecursion (IsOperation v by) (w.agendas by).todo

-- a log has room for fewer than 2^64 events
abbrev pub IsFineIfShort : Volume → List Event → World → Type 0
IsFineIfShort v old w = length w.log < 2 ^ 64 - 1 → IsFine v old w
