-- When an export is whole: it keeps the rules of the parts that make it.
use Rattle.std.specs.Prelude.{ℕ, List, ◌≡◌, ◌<◌, Some, IsTrue, IsSome, IfSome}
use Rattle.std.specs.FinMap as maps
use Rattle.rz_events.specs.Volume.{Volume, IsVolume}
use Rattle.rz_events.specs.declared.keys.Key.{Key}
use Rattle.rz_events.specs.declared.export.Call.{Call}
use Rattle.rz_export_model.specs.Tree.{Tree, Object, file_of, is_file}
use Rattle.rz_export_model.specs.Export.{Export, Block, Enrolled, new_export, export_after, file_blocks, is_drawn, is_node, is_proper}
use Rattle.rz_export.specs.Parts.{export_parts}
use Rattle.rz_export.specs.Building.{LiesIn, MayBePublished, ArePartsOf, made_of}
use Rattle.rz_export_laws.specs.WholeTree.{IsWholeTree, IsPlainPart}
use Rattle.rz_tree.specs.declared.parts.Part.{Part}
use Rattle.std.specs.List.{AllByRecursion}

-- each file lies in the volume
abbrev pub FilesLie : Volume → Tree → Type 0
FilesLie volume t = (fid : ℕ) (o : Object) → maps.get t.objects fid ≡ Some o → IsTrue (is_file o.kind) → LiesIn volume o

-- a block is one of a live file, was begun with a drawn stamp, and what is published of it may be
pub record IsWholeBlock (s : Export) (key : Key) (b : Block) : Type 0 where
  pub live : IsSome (file_of s.tree key.fid)
  pub near : key.block < file_blocks
  pub begun : IsTrue (is_drawn s b.latest)
  pub public : IfSome b.published (MayBePublished s key)

-- an enrolment is one of a node of the volume, with a drawn fence
pub record IsWholeEnrolment (s : Export) (node : ℕ) (e : Enrolled) : Type 0 where
  pub known : IsTrue (is_node s node)
  pub drawn : IsTrue (is_drawn s e.fence)

-- an export of a volume, as calls make it
pub record IsWhole (s : Export) : Type 0 where
  pub volume : IsVolume s.volume
  pub tree : IsWholeTree s.tree
  pub files : FilesLie s.volume s.tree
  pub blocks : (key : Key) (b : Block) → maps.get s.blocks key ≡ Some b → IsWholeBlock s key b
  pub enrolments : (node : ℕ) (e : Enrolled) → maps.get s.enrolled node ≡ Some e → IsWholeEnrolment s node e

-- a new export is whole
abbrev pub IsWholeAtFirst : Volume → ℕ → Type 0
IsWholeAtFirst volume last = IsVolume volume → IsWhole (new_export volume last)

-- a call that the export takes leaves a whole export whole
abbrev pub StaysWhole : Export → Call → Type 0
StaysWhole s call = IsTrue (is_proper s call) → IsWhole s → IsWhole (export_after s call)

-- the parts of a whole export are parts of its volume, and make it again
pub record ArePartsAgain (s : Export) : Type 0 where
  pub parts : ArePartsOf s.volume (export_parts s)
  pub again : made_of s.volume (export_parts s) ≡ s

abbrev pub PartsMakeIt : Export → Type 0
PartsMakeIt s = IsWhole s → ArePartsAgain s

-- parts of a volume whose names a text can spell make a whole export
abbrev pub PartsAreWhole : Volume → List Part → Type 0
PartsAreWhole volume parts = IsVolume volume → ArePartsOf volume parts → AllByRecursion IsPlainPart parts → IsWhole (made_of volume parts)
