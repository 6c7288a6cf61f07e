-- Which losses of a node the export knows.
use Rattle.std.specs.Prelude.{ℕ, ◌==◌, ◌≡◌, ◌<◌, ◌-◌, ◌^◌, List, [], ◌∷◌, length, cond}
use Rattle.std.specs.Option.{option_map_or}
use Rattle.std.specs.FinMap as maps
use Rattle.rz_events.specs.Volume.{Volume}
use Rattle.rz_events.specs.declared.nodes.Phase.TheVariants.{Lost}
use Rattle.rz_events.specs.declared.events.Word.TheVariants.{Export, Node}
use Rattle.rz_events.specs.declared.events.Event.{Event}
use Rattle.rz_events.specs.declared.events.Event.TheVariants as e
use Rattle.rz_export_model.specs.Export.{Export as ExportState}
use Rattle.rz_core.specs.History.{facts, of_word}
use Rattle.rz_core.specs.NodeWord.{phase, losses}
use Rattle.rz_core.specs.Legal.{IsLegalInRuns}
use Rattle.rz_core.specs.Tied.{IsExport}

-- the loss that was enrolled of a node last, or 0
abbrev pub last_loss : List Event → ℕ → ℕ
last_loss [] n = 0
last_loss (e.Enroll by m loss fence ∷ w) n = cond (n == m) loss (last_loss w n)
last_loss (_ ∷ w) n = last_loss w n

-- A node that is not lost has lost as many disks as the loss that was enrolled of it last says.
abbrev pub AreLossesEnrolled : Volume → Type 0
AreLossesEnrolled v = (h : List Event) (n : ℕ) → IsLegalInRuns v h → ¬ (phase (of_word (Node n) h) ≡ Lost)
    → losses (of_word (Node n) h) ≡ last_loss (of_word Export h) n

-- the loss of a node's last enrolment in the state of an export, or 0
abbrev pub loss_in : ExportState → ℕ → ℕ
loss_in s n = option_map_or (λ e. e.loss) (maps.get s.enrolled n) 0

-- The export knows that loss.
abbrev pub AreLossesKnown : Volume → Type 0
AreLossesKnown v = (h : List Event) (n : ℕ) (s : ExportState) → IsLegalInRuns v h
    → length (of_word Export h) < 2 ^ 64 - 1 → IsExport v (facts h) (of_word Export h) s
    → loss_in s n ≡ last_loss (of_word Export h) n
