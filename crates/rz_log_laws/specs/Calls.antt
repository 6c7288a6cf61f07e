-- Which calls the export takes, by the log.
use Rattle.std.specs.Prelude.{true, ◌≡◌, ◌<◌, ◌-◌, ◌^◌, List, length}
use Rattle.rz_events.specs.Volume.{Volume}
use Rattle.rz_events.specs.declared.keys.Actor.{Actor}
use Rattle.rz_events.specs.declared.export.Call.{Call}
use Rattle.rz_events.specs.declared.events.Word.TheVariants.{Export}
use Rattle.rz_events.specs.declared.events.Event.{Event}
use Rattle.rz_export_model.specs.Export.{Export as ExportState, is_proper}
use Rattle.rz_core.specs.History.{facts, of_word, of_actor}
use Rattle.rz_core.specs.Legal.{IsLegalInRuns}
use Rattle.rz_core.specs.Tied.{IsExport, IsProperCall}

-- What an actor may call by its own events, the export that the log gives can answer: a publish is one of a stamp that was
-- drawn and of a block that was begun, and a node that is enrolled is the volume's.
abbrev pub IsUsable : Volume → Type 0
IsUsable v = (h : List Event) (by : Actor) (s : ExportState) (question : Call) → IsLegalInRuns v h
    → IsExport v (facts h) (of_word Export h) s → length (of_word Export h) < 2 ^ 64 - 1
    → IsProperCall v (facts h) (of_actor by h) by question → is_proper s question ≡ true
