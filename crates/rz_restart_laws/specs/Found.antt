-- Nodes and an export that were opened on the disks which earlier runs left.
use Rattle.std.specs.Prelude.{ℕ, ◌≡◌, ◌⊎◌, List}
use Rattle.rz_events.specs.Volume.{Volume}
use Rattle.rz_events.specs.declared.events.Word.TheVariants.{Node}
use Rattle.rz_events.specs.declared.events.Event.{Event}
use Rattle.rz_node_model.specs.States.{NodeState, opened, fresh}
use Rattle.rz_export_model.specs.Export.{Export as ExportState, new_export}
use Rattle.rz_cells_slots.specs.Held.{Records}
use Rattle.rz_cells_slots.specs.Stands.{StandsFor}
use Rattle.rz_node.specs.HeldOnDisk.{IsHeldOnDisk}
use Rattle.rz_core.specs.History.{facts, of_word}
use Rattle.rz_core.specs.NodeWord.{last_fence}
use Rattle.rz_core.specs.NodeRows.{IsNodeOf}
use Rattle.rz_core.specs.HeldRecords.{held_records, settled_records}
use Rattle.rz_log_laws.specs.Losses.{loss_in}
use Rattle.rz_node_laws.specs.Records.{on_disk}
use Rattle.rz_node_laws.specs.Images.{geometry_in}
use Rattle.rz_journal.specs.JournalText.{after_all}
use Rattle.rz_restart_laws.specs.Calls.{changing_calls}

-- The text of the disk of node n stands for its fence and the records that it holds by the log, or for those with its
-- undecided change.
abbrev pub StandsByLog : Volume → List Event → ℕ → List ℕ → Type 0
StandsByLog v h n text =
    StandsFor (geometry_in v n) (last_fence (of_word (Node n) h)) text (λ key stamp. on_disk (held_records v (facts h) (of_word (Node n) h) n key stamp))
    ⊎ StandsFor (geometry_in v n) (last_fence (of_word (Node n) h)) text (λ key stamp. on_disk (settled_records v (facts h) (of_word (Node n) h) n key stamp))

-- A node that was opened on such a text: what it holds is what the text stands for.
pub record IsNodeFound (v : Volume) (h : List Event) (n : ℕ) (text : List ℕ) (s : NodeState) : Type 0 where
  pub logged : StandsByLog v h n text
  pub state : s ≡ opened s.losses s.fence s.held
  pub stands : (records : Records) × StandsFor (geometry_in v n) s.fence text records
  pub shows : (records : Records) → StandsFor (geometry_in v n) s.fence text records → IsHeldOnDisk s.held records

-- A store that was opened: the export has answered the calls that changed the log's export, and each node was opened as one
-- that lost as many disks as the export knows.
pub record IsStoreFound (v : Volume) (h : List Event) (export : ExportState) (nodes : ℕ → NodeState) : Type 0 where
  pub export_is : export ≡ after_all (new_export v 0) (changing_calls h)
  pub found : (n : ℕ) → IsNodeOf v n → (text : List ℕ) × IsNodeFound v h n text (nodes n)
  pub losses : (n : ℕ) → IsNodeOf v n → (nodes n).losses ≡ loss_in export n
  pub others : (n : ℕ) → ¬ IsNodeOf v n → nodes n ≡ fresh
