-- The bytes of a journal's entries.
use Rattle.std.specs.Prelude.{◌≡◌, ℕ, ◌<◌, ◌≤◌, ◌^◌, All, List, [], ◌∷◌, ◌++◌, length, Option, Some, None}
use Rattle.std.specs.List.{flat_map, join_with_byte}
use Rattle.byteorder.specs.Endian.{little_bytes}
use Rattle.rz_events.specs.declared.keys.Key.{Key}
use Rattle.rz_events.specs.declared.files.Kind.{Kind}
use Rattle.rz_events.specs.declared.files.Kind.TheVariants.{File, Dir, Link as LinkKind}
use Rattle.rz_events.specs.declared.files.Published.{Published}
use Rattle.rz_events.specs.declared.tree.TreeCall.{TreeCall}
use Rattle.rz_events.specs.declared.tree.TreeCall.TheVariants.{Lookup, Getattr, Rmdir, Mkdir, Create, Unlink, Readlink, Readdir, OpenFile, Setattr, Rename, Link, Symlink}
use Rattle.rz_export_model.specs.Paths.{Path, long_path_of}
use Rattle.rz_tree.specs.declared.parts.Part.{Part}
use Rattle.rz_tree.specs.declared.parts.Part.TheVariants.{Counters, Object, Name, Block, Enrolled}
use Rattle.rz_journal_text.specs.declared.entry.JournalEntry.{JournalEntry}
use Rattle.rz_journal_text.specs.declared.entry.JournalEntry.TheVariants.{Tree, Begin, Publish, Enroll, Built}

-- a text behind its length
abbrev pub text_bytes : List ℕ → List ℕ
text_bytes text = little_bytes 2 (length text) ++ text

abbrev pub key_bytes : Key → List ℕ
key_bytes key = little_bytes 16 key.fid ++ little_bytes 8 key.block

-- a slash before each name, or alone for the root
abbrev pub path_text : Path → List ℕ
path_text path = 47 ∷ join_with_byte 47 path

-- a path behind the length of its text
abbrev pub path_bytes : Path → List ℕ
path_bytes path = little_bytes 4 (length (path_text path)) ++ path_text path

-- nodes behind their count
abbrev pub places_bytes : List ℕ → List ℕ
places_bytes nodes = length nodes ∷ flat_map (little_bytes 2) nodes

abbrev pub published_bytes : Published → List ℕ
published_bytes p = little_bytes 8 p.stamp ++ (little_bytes 2 p.mask ++ little_bytes 4 p.length)

-- 0 for nothing, or 1 and what is published
abbrev pub maybe_published_bytes : Option Published → List ℕ
maybe_published_bytes None = 0 ∷ []
maybe_published_bytes (Some p) = 1 ∷ published_bytes p

-- the number of a kind of objects
abbrev pub kind_number : Kind → ℕ
kind_number File = 0
kind_number Dir = 1
kind_number LinkKind = 2

-- the number of a call among the calls on names
abbrev pub number_of : TreeCall → ℕ
number_of (Lookup path) = 0
number_of (Getattr path) = 1
number_of (Rmdir path) = 2
number_of (Mkdir path) = 3
number_of (Create path) = 4
number_of (Unlink path) = 5
number_of (Readlink path) = 6
number_of (Readdir path) = 7
number_of (OpenFile path) = 8
number_of (Setattr path mode mtime) = 9
number_of (Rename path to) = 10
number_of (Link path to) = 11
number_of (Symlink target path) = 12

-- the fields of a call on names
abbrev pub field_bytes : TreeCall → List ℕ
field_bytes (Lookup path) = text_bytes path
field_bytes (Getattr path) = text_bytes path
field_bytes (Rmdir path) = text_bytes path
field_bytes (Mkdir path) = text_bytes path
field_bytes (Create path) = text_bytes path
field_bytes (Unlink path) = text_bytes path
field_bytes (Readlink path) = text_bytes path
field_bytes (Readdir path) = text_bytes path
field_bytes (OpenFile path) = text_bytes path
field_bytes (Setattr path mode mtime) = text_bytes path ++ (little_bytes 2 mode ++ little_bytes 8 mtime)
field_bytes (Rename path to) = text_bytes path ++ text_bytes to
field_bytes (Link path to) = text_bytes path ++ text_bytes to
field_bytes (Symlink target path) = text_bytes target ++ text_bytes path

abbrev pub call_bytes : TreeCall → List ℕ
call_bytes call = number_of call ∷ field_bytes call

-- the kind of the entry of a part
abbrev pub part_kind : Part → ℕ
part_kind (Counters last made) = 5
part_kind (Object fid kind mode mtime size cid places target) = 6
part_kind (Name path fid) = 7
part_kind (Block key latest published) = 8
part_kind (Enrolled node loss fence) = 9

-- the fields of a part
abbrev pub part_fields : Part → List ℕ
part_fields (Counters last made) = little_bytes 8 last ++ little_bytes 16 made
part_fields (Object fid kind mode mtime size cid places target) =
    little_bytes 16 fid ++ (kind_number kind ∷ (little_bytes 2 mode ++ (little_bytes 8 mtime ++ (little_bytes 8 size ++ (little_bytes 2 cid ++ (places_bytes places ++ text_bytes target))))))
part_fields (Name path fid) = path_bytes path ++ little_bytes 16 fid
part_fields (Block key latest published) = key_bytes key ++ (little_bytes 8 latest ++ maybe_published_bytes published)
part_fields (Enrolled node loss fence) = little_bytes 2 node ++ (little_bytes 8 loss ++ little_bytes 8 fence)

-- the kind of an entry
abbrev pub kind_of : JournalEntry → ℕ
kind_of (Tree call) = 1
kind_of (Begin key bytes) = 2
kind_of (Publish key stamp mask bytes) = 3
kind_of (Enroll node loss) = 4
kind_of (Built part) = part_kind part

-- the fields of an entry
abbrev pub entry_fields : JournalEntry → List ℕ
entry_fields (Tree call) = call_bytes call
entry_fields (Begin key bytes) = key_bytes key ++ little_bytes 4 bytes
entry_fields (Publish key stamp mask bytes) = key_bytes key ++ (little_bytes 8 stamp ++ (little_bytes 2 mask ++ little_bytes 4 bytes))
entry_fields (Enroll node loss) = little_bytes 2 node ++ little_bytes 8 loss
entry_fields (Built part) = part_fields part

abbrev pub entry_bytes : JournalEntry → List ℕ
entry_bytes entry = kind_of entry ∷ entry_fields entry

-- ---- an entry has room for the length of a text below 65,536 bytes, and of a path's below 2^32

abbrev pub IsShort : List ℕ → Type 0
IsShort text = length text < 2 ^ 16

abbrev pub HasShortTexts : TreeCall → Type 0
HasShortTexts (Lookup path) = IsShort path
HasShortTexts (Getattr path) = IsShort path
HasShortTexts (Rmdir path) = IsShort path
HasShortTexts (Mkdir path) = IsShort path
HasShortTexts (Create path) = IsShort path
HasShortTexts (Unlink path) = IsShort path
HasShortTexts (Readlink path) = IsShort path
HasShortTexts (Readdir path) = IsShort path
HasShortTexts (OpenFile path) = IsShort path
HasShortTexts (Setattr path mode mtime) = IsShort path
HasShortTexts (Rename path to) = IsShort path × IsShort to
HasShortTexts (Link path to) = IsShort path × IsShort to
HasShortTexts (Symlink target path) = IsShort target × IsShort path

-- the text of a path is read as this path, and is not too long
abbrev pub IsSpelled : Path → Type 0
IsSpelled path = (long_path_of (path_text path) ≡ Some path) × (length (path_text path) < 2 ^ 32)

abbrev pub PartMayStand : Part → Type 0
PartMayStand (Counters last made) = Unit {0}
PartMayStand (Object fid kind mode mtime size cid places target) = IsShort target
PartMayStand (Name path fid) = IsSpelled path
PartMayStand (Block key latest published) = Unit {0}
PartMayStand (Enrolled node loss fence) = Unit {0}

abbrev pub MayStand : JournalEntry → Type 0
MayStand (Tree call) = HasShortTexts call
MayStand (Begin key bytes) = Unit {0}
MayStand (Publish key stamp mask bytes) = Unit {0}
MayStand (Enroll node loss) = Unit {0}
MayStand (Built part) = PartMayStand part

-- ---- each number has a value of its field's type

-- a number of n bytes
abbrev pub IsWide : ℕ → ℕ → Type 0
IsWide n x = x < 256 ^ n

abbrev pub IsKey : Key → Type 0
IsKey key = IsWide 16 key.fid × IsWide 8 key.block

-- at most 16 nodes
abbrev pub ArePlaces : List ℕ → Type 0
ArePlaces nodes = (length nodes ≤ 16) × All (IsWide 2) nodes

abbrev pub IsPublished : Option Published → Type 0
IsPublished None = Unit {0}
IsPublished (Some p) = IsWide 8 p.stamp × IsWide 2 p.mask × IsWide 4 p.length

abbrev pub IsCall : TreeCall → Type 0
IsCall (Setattr path mode mtime) = IsWide 2 mode × IsWide 8 mtime
IsCall _ = Unit {0}

abbrev pub IsPart : Part → Type 0
IsPart (Counters last made) = IsWide 8 last × IsWide 16 made
IsPart (Object fid kind mode mtime size cid places target) = IsWide 16 fid × IsWide 2 mode × IsWide 8 mtime × IsWide 8 size × IsWide 2 cid × ArePlaces places
IsPart (Name path fid) = IsWide 16 fid
IsPart (Block key latest published) = IsKey key × IsWide 8 latest × IsPublished published
IsPart (Enrolled node loss fence) = IsWide 2 node × IsWide 8 loss × IsWide 8 fence

abbrev pub IsEntry : JournalEntry → Type 0
IsEntry (Tree call) = IsCall call
IsEntry (Begin key bytes) = IsKey key × IsWide 4 bytes
IsEntry (Publish key stamp mask bytes) = IsKey key × IsWide 8 stamp × IsWide 2 mask × IsWide 4 bytes
IsEntry (Enroll node loss) = IsWide 2 node × IsWide 8 loss
IsEntry (Built part) = IsPart part

-- these are the bytes of an entry
pub record Spells (bytes : List ℕ) (entry : JournalEntry) : Type 0 where
  pub value : IsEntry entry
  pub stands : MayStand entry
  pub spelled : entry_bytes entry ≡ bytes
