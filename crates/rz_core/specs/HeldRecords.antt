-- The records that a node holds by the log: heads with their bins, by the block and the stamp.
use Rattle.std.specs.Prelude.{ℕ, List, length, Option, Some, None, cond}
use Rattle.mj_angles.specs.declared.layout.Layout.{Layout}
use Rattle.mj_angles.specs.Layout.{bsize_of, angle_of}
use Rattle.mj_angles.specs.Projection.{projection}
use Rattle.rz_words.specs.Grid.{Grid, word}
use Rattle.rz_events.specs.Volume.{Volume}
use Rattle.rz_events.specs.declared.keys.Key.{Key}
use Rattle.rz_events.specs.declared.records.Head.{Head}
use Rattle.rz_events.specs.declared.events.Event.{Event}
use Rattle.rz_node_model.specs.Versions.{has_stamp}
pub use Rattle.rz_client_model.specs.Blocks.{block_of}
use Rattle.rz_operation_model.specs.Rebuild.{position_in}
use Rattle.rz_core.specs.History.{Facts, Begun}
use Rattle.rz_core.specs.NodeWord.{held, undecided, settled, itself}

-- the projection of a block at a position
abbrev pub bins_at : Layout → Grid → ℕ → List ℕ
bins_at layout block position = projection (word block) block.rows block.cols (angle_of layout position)

-- the head of a write's record at a position, under its stamp
abbrev pub head_at : Layout → ℕ → Begun → ℕ → Head
head_at layout stamp b position = record {
  stamp = stamp;
  key = b.key;
  layout = layout;
  bsize = bsize_of layout;
  position = position;
  length = length b.text;
  base = b.base;
}

-- that head, with the projection of the text's block
abbrev pub record_at : Layout → ℕ → Begun → ℕ → Head × List ℕ
record_at layout stamp b position = (head_at layout stamp b position, bins_at layout (block_of layout b.text) position)

-- the record of a write at a node of a file with these places
abbrev pub record_on : Layout → ℕ → ℕ → Option Begun → Option (List ℕ) → Option (Head × List ℕ)
record_on layout n stamp (Some b) (Some places) = Some (record_at layout stamp b (position_in n 0 places))
record_on layout n stamp _ _ = None

-- The records of a node that holds these stamps of each key.
abbrev pub records_of : Volume → Facts → ℕ → (Key → List ℕ) → Key → ℕ → Option (Head × List ℕ)
records_of v f n stamps key s =
    cond (has_stamp itself s (stamps key)) (record_on v.layout n s (f.wrote s) (f.places key.fid)) None

-- those that node n holds by the events of its word
abbrev pub held_records : Volume → Facts → List Event → ℕ → Key → ℕ → Option (Head × List ℕ)
held_records v f w n = records_of v f n (held f w)

-- those that it holds where the undecided change is on its disk
abbrev pub settled_records : Volume → Facts → List Event → ℕ → Key → ℕ → Option (Head × List ℕ)
settled_records v f w n = records_of v f n (λ key. settled f key (undecided w) (held f w key))
