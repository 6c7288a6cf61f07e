-- Ranges of bytes of a file, over its blocks.
use Rattle.std.specs.Prelude.{ℕ, ◌≡◌, ◌≢◌, ◌<◌, ◌≤◌, ◌+◌, ◌*◌, List, [], ◌++◌, length, take, drop, replicate, unwrap_or, slice_index_or}
use Rattle.mj_angles.specs.declared.layout.Layout.{Layout}
use Rattle.mj_angles.specs.Layout.{block_bytes_of}
use Rattle.rz_events.specs.declared.keys.Key.{Key}
use Rattle.rz_events.specs.declared.ends.WriteEnd.TheVariants as write
use Rattle.rz_contents.specs.Model.{Model, byte_at, IsSame}
use Rattle.rz_contents.specs.Putting.{model_put}

-- the bytes of a block, none where it contains no text
abbrev pub text_at : Model → Key → List ℕ
text_at m key = unwrap_or (m.blocks key) []

-- where a byte of a block stands in its file
abbrev pub offset_of : Layout → Key → ℕ → ℕ
offset_of layout key from = key.block * block_bytes_of layout + from

-- Writes.

-- a text with these bytes from a place on, behind zeros where it ended before that
abbrev pub patched : List ℕ → ℕ → List ℕ → List ℕ
patched text from bytes = take from (text ++ replicate from 0) ++ (bytes ++ drop (from + length bytes) text)

-- A file has these bytes from an offset on. No other byte of it was changed, and no block of another file.
pub record WritesBytes (layout : Layout) (old : Model) (fid offset : ℕ) (bytes : List ℕ) (new : Model) : Type 0 where
  pub these : (i : ℕ) → i < length bytes → byte_at layout new fid (offset + i) ≡ slice_index_or bytes i 0
  pub before : (i : ℕ) → i < offset → byte_at layout new fid i ≡ byte_at layout old fid i
  pub behind : (i : ℕ) → offset + length bytes ≤ i → byte_at layout new fid i ≡ byte_at layout old fid i
  pub others : (key : Key) → key.fid ≢ fid → new.blocks key ≡ old.blocks key

-- A block's text that is put with bytes patched in writes these bytes.
abbrev pub WritesPatch : Type 0
WritesPatch = (layout : Layout) (m new : Model) (stamp mask : ℕ) (key : Key) (from : ℕ) (bytes : List ℕ) → from + length bytes ≤ block_bytes_of layout
    → IsSame (model_put layout (write.Acked stamp mask) key (patched (text_at m key) from bytes) m) new
    → WritesBytes layout m key.fid (offset_of layout key from) bytes new

-- Bytes that are written behind one another are written together.
abbrev pub WritesTogether : Type 0
WritesTogether = (layout : Layout) (old mid new : Model) (fid offset : ℕ) (a b : List ℕ) → WritesBytes layout old fid offset a mid
    → WritesBytes layout mid fid (offset + length a) b new → WritesBytes layout old fid offset (a ++ b) new

-- Reads.

-- so many bytes of a text from a place on, zeros where it ended
abbrev pub bytes_from : List ℕ → ℕ → ℕ → List ℕ
bytes_from text from count = take count (drop from (text ++ replicate (from + count) 0))

-- these are the bytes of a file from an offset on
abbrev pub ReadsBytes : Layout → Model → ℕ → ℕ → List ℕ → Type 0
ReadsBytes layout m fid offset bytes = (i : ℕ) → i < length bytes → slice_index_or bytes i 0 ≡ byte_at layout m fid (offset + i)

-- What a block's text has from a place on are the bytes of its file.
abbrev pub ReadsText : Type 0
ReadsText = (layout : Layout) (m : Model) (key : Key) (from count : ℕ) → from + count ≤ block_bytes_of layout
    → ReadsBytes layout m key.fid (offset_of layout key from) (bytes_from (text_at m key) from count)

-- Bytes that are read behind one another are read together.
abbrev pub ReadsTogether : Type 0
ReadsTogether = (layout : Layout) (m : Model) (fid offset : ℕ) (a b : List ℕ) → ReadsBytes layout m fid offset a
    → ReadsBytes layout m fid (offset + length a) b → ReadsBytes layout m fid offset (a ++ b)
