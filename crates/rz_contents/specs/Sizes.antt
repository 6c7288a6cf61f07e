-- Sizes of files. A history has the newest event first.
use Rattle.std.specs.Prelude.{ℕ, ◌≡◌, ◌≤◌, ◌+◌, ◌*◌, List, length, Some}
use Rattle.mj_angles.specs.Layout.{block_bytes_of}
use Rattle.rz_events.specs.Volume.{Volume}
use Rattle.rz_events.specs.declared.keys.Key.{Key}
use Rattle.rz_events.specs.declared.files.FileInfo.{FileInfo}
use Rattle.rz_events.specs.declared.events.Event.{Event}
use Rattle.rz_export_model.specs.Tree.{file_of}
use Rattle.rz_core.specs.Legal.{IsLegalInRuns}
use Rattle.rz_contents.specs.Contents.{contents}
use Rattle.rz_contents.specs.Model.{export_at}

-- The text of a block is no longer than a block, and ends where its file does or before.
pub record IsCovered (v : Volume) (h : List Event) (key : Key) (text : List ℕ) : Type 0 where
  pub short : length text ≤ block_bytes_of v.layout
  pub within : (info : FileInfo) → file_of (export_at v h).tree key.fid ≡ Some info → key.block * block_bytes_of v.layout + length text ≤ info.size

abbrev pub AreCovered : Volume → Type 0
AreCovered v = (h : List Event) (key : Key) (text : List ℕ) → IsLegalInRuns v h → contents h key ≡ Some text → IsCovered v h key text
