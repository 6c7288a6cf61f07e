-- Which fences of nodes the export knows, and how a disk that a node lost is told from the one in its place.
use Rattle.std.specs.Prelude.{ℕ, ◌≡◌, ◌<◌, ◌-◌, ◌^◌, List, ◌++◌, length, unwrap_or}
use Rattle.rz_events.specs.Volume.{Volume}
use Rattle.rz_events.specs.declared.nodes.Phase.TheVariants.{Lost}
use Rattle.rz_events.specs.declared.events.Word.TheVariants.{Export, Node}
use Rattle.rz_events.specs.declared.events.Event.{Event}
use Rattle.rz_export_model.specs.Export.{Export as ExportState, fence_of}
use Rattle.rz_core.specs.History.{facts, of_word}
use Rattle.rz_core.specs.NodeWord.{phase, losses, last_fence}
use Rattle.rz_core.specs.ExportWord.{enrolled}
use Rattle.rz_core.specs.Legal.{IsLegalInRuns}
use Rattle.rz_core.specs.Tied.{IsExport}
use Rattle.rz_log_laws.specs.Losses.{last_loss}

-- the fence that was given to the loss of the node that was enrolled last, or 0
abbrev pub last_given : List Event → ℕ → ℕ
last_given w n = unwrap_or (enrolled w n (last_loss w n)) 0

-- A node that is not lost has the fence that was given last.
abbrev pub AreFencesGiven : Volume → Type 0
AreFencesGiven v = (h : List Event) (n : ℕ) → IsLegalInRuns v h → ¬ (phase (of_word (Node n) h) ≡ Lost)
    → last_fence (of_word (Node n) h) ≡ last_given (of_word Export h) n

-- The export knows that fence.
abbrev pub AreFencesKnown : Volume → Type 0
AreFencesKnown v = (h : List Event) (n : ℕ) (s : ExportState) → IsLegalInRuns v h
    → length (of_word Export h) < 2 ^ 64 - 1 → IsExport v (facts h) (of_word Export h) s
    → fence_of s n ≡ last_given (of_word Export h) n

-- The disk that a node had before a loss has a lower fence than the one that the node has after it.
abbrev pub AreStaleTold : Volume → Type 0
AreStaleTold v = (h more : List Event) (n : ℕ) → IsLegalInRuns v (more ++ h)
    → ¬ (phase (of_word (Node n) h) ≡ Lost) → ¬ (phase (of_word (Node n) (more ++ h)) ≡ Lost)
    → losses (of_word (Node n) h) < losses (of_word (Node n) (more ++ h))
    → last_fence (of_word (Node n) h) < last_fence (of_word (Node n) (more ++ h))
