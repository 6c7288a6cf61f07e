-- A store as its users see it, and what its calls make of it.
use Rattle.std.specs.Prelude.{ℕ, ◌≡◌, ◌⊎◌, ◌<◌, ◌≤◌, ◌+◌, ◌-◌, IsTrue, List, ◌++◌, take, length, min, Option, None}
use Rattle.rz_events.specs.Volume.{Volume}
use Rattle.rz_events.specs.declared.keys.Key.{Key}
use Rattle.rz_events.specs.declared.ends.WriteEnd.TheVariants as write
use Rattle.rz_events.specs.declared.tree.TreeCall.{TreeCall}
use Rattle.rz_events.specs.declared.tree.TreeReply.{TreeReply}
use Rattle.rz_events.specs.declared.events.Event.{Event}
use Rattle.rz_export_model.specs.Tree.{Found, grown}
use Rattle.rz_chronicle.specs.Kinds.{keeps_legal}
use Rattle.rz_contents.specs.Contents.{IsUnpublished}
use Rattle.rz_contents.specs.Model.{Model, model_of, IsSame}
use Rattle.rz_contents.specs.Putting.{model_put}
use Rattle.rz_contents.specs.Files as files
use Rattle.rz_contents.specs.Files.{IsFileAt, key_in}
use Rattle.rz_contents.specs.Ranges.{WritesBytes, ReadsBytes}

-- What contracts see of a store in hand: the volume, and the log of all runs, which has the newest event first.
pub record StoreView : Type 0 where
  pub volume : Volume
  pub log : List Event

-- what its users see: the names, and what each block of each file contains
abbrev pub model_in : StoreView → Model
model_in s = model_of s.volume s.log

-- So it is over disks that tell what they hold: the book then keeps its log legal.
abbrev pub IfLegal : List ℕ → Type 0 → Type 0
IfLegal kind so = IsTrue (keeps_legal kind) → so

-- users see no difference
abbrev pub LooksSame : StoreView → StoreView → Type 0
LooksSame old new = IsSame (model_in old) (model_in new)

-- Blocks.

-- The block of the file at the path contains this text now. No other block was changed, and of the names the size of that file alone,
-- which was raised to the end of the text where that lay behind it.
pub record HasPut (old : StoreView) (path : List ℕ) (block : ℕ) (text : List ℕ) (new : StoreView) : Type 0 where
  pub file : Found
  pub at : IsFileAt (model_in old).names path file
  pub stamp : ℕ
  pub mask : ℕ
  pub put : IsSame (model_put old.volume.layout (write.Acked stamp mask) (key_in file block) text (model_in old)) (model_in new)

-- this is what the block of the file at the path contains
pub record HasGot (s : StoreView) (path : List ℕ) (block : ℕ) (text : Option (List ℕ)) : Type 0 where
  pub file : Found
  pub at : IsFileAt (model_in s).names path file
  pub got : (model_in s).blocks (key_in file block) ≡ text

-- the log went on, and a publish of the block was accepted since
abbrev pub WasPublished : Key → StoreView → StoreView → Type 0
WasPublished key old new = (more : List Event) × (new.log ≡ more ++ old.log) × ¬ IsUnpublished key more

-- the block of the file at the path was written since
pub record HasPublished (old : StoreView) (path : List ℕ) (block : ℕ) (new : StoreView) : Type 0 where
  pub file : Found
  pub at : IsFileAt (model_in old).names path file
  pub published : WasPublished (key_in file block) old new

-- The block of the file at the path was written anew, or it contains nothing.
pub record HasRenewed (old : StoreView) (path : List ℕ) (block : ℕ) (new : StoreView) : Type 0 where
  pub file : Found
  pub at : IsFileAt (model_in old).names path file
  pub renewed : WasPublished (key_in file block) old new ⊎ ((model_in old).blocks (key_in file block) ≡ None)

-- Ranges.

-- The file at the path has these bytes, of which there are some, from an offset on. All else is as it was, but for the size of that file,
-- which was raised to where they end.
pub record HasWritten (old : StoreView) (path : List ℕ) (offset : ℕ) (bytes : List ℕ) (new : StoreView) : Type 0 where
  pub file : Found
  pub at : IsFileAt (model_in old).names path file
  pub written : WritesBytes old.volume.layout (model_in old) file.fid offset bytes (model_in new)
  pub names : (model_in new).names ≡ grown (model_in old).names file.fid (offset + length bytes)

-- So many bytes at the front are written, or none, and then nothing is changed.
pub record IsUpTo (old : StoreView) (path : List ℕ) (offset count : ℕ) (bytes : List ℕ) (new : StoreView) : Type 0 where
  pub within : count ≤ length bytes
  pub none : count ≡ 0 → LooksSame old new
  pub some : 0 < count → HasWritten old path offset (take count bytes) new

-- these are bytes of the file at the path from an offset on
abbrev pub HasPart : StoreView → List ℕ → ℕ → List ℕ → Type 0
HasPart s path offset bytes = (file : Found) × IsFileAt (model_in s).names path file × ReadsBytes s.volume.layout (model_in s) file.fid offset bytes

-- These are the bytes of the file at the path from an offset on, as many as were wanted or as it has there.
pub record HasRead (s : StoreView) (path : List ℕ) (offset wanted : ℕ) (bytes : List ℕ) : Type 0 where
  pub file : Found
  pub at : IsFileAt (model_in s).names path file
  pub many : length bytes ≡ min wanted (file.object.size - offset)
  pub read : ReadsBytes s.volume.layout (model_in s) file.fid offset bytes

-- Names.

-- The reply is that of the names as they were, the names are those after the call, and no block of any file was changed.
abbrev pub IsCalled : StoreView → TreeCall → TreeReply → StoreView → Type 0
IsCalled old c told new = files.IsCalled old.volume old.log c told new.log
