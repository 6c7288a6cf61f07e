-- What the log of a whole play says of each disk that comes back.
use Rattle.std.specs.Prelude.{ℕ, IsTrue, List}
use Rattle.rz_disk.specs.Meter.{Meter, faults}
use Rattle.rz_events.specs.declared.events.Word.TheVariants.{Node}
use Rattle.rz_events.specs.declared.events.Event.{Event}
use Rattle.rz_core.specs.History.{facts, of_word}
use Rattle.rz_node_laws.specs.Images.{AreImages, geometry_in}
use Rattle.rz_chronicle.specs.Kinds.{is_honest, volume_in}
use Rattle.rz_shared_locked.specs.Counts.{AreCountedSince}

-- The faults of the node's word are those that its disk counted since it had counted `first` of that node. Over an honest book each
-- image of the disk is one that the word gives, by all of the log.
pub record IsDiskLeft {D : Type 0} (meter : D → Meter) (image : D → List ℕ → Type 0) (kind : List ℕ) (first : ℕ → ℕ) (log : List Event) (node : ℕ) (disk : D) : Type 0 where
  pub images : IsTrue (is_honest kind) → AreImages (volume_in kind) (facts log) (of_word (Node node) log) node (geometry_in (volume_in kind) node) (image disk)
  pub counted : AreCountedSince (first node) (faults (meter disk)) (of_word (Node node) log)
