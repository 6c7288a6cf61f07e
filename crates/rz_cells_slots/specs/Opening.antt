-- What an opening finds wrong.
use Rattle.std.specs.Prelude.{◌≡◌, ◌≢◌, ◌⊎◌, ◌==◌, ◌&&◌, Bool, ℕ, ◌+◌, ◌*◌, ◌/◌, ◌<◌, ◌≤◌, Option, Some, None, List, length, slice_index}
use Rattle.mj_angles.specs.Layout.{number_of}
use Rattle.std.specs.HashMap.{HashMap, get}
use Rattle.rz_events.specs.declared.keys.Key.{Key}
use Rattle.rz_events.specs.declared.records.Head.{Head}
use Rattle.rz_events.specs.declared.nodes.HeaderField.{HeaderField}
use Rattle.rz_events.specs.declared.nodes.HeaderField.TheVariants.{Magic, Layout, Bsize, Node, Cells, Reserved}
use Rattle.rz_events.specs.declared.nodes.OpenFault.{OpenFault}
use Rattle.rz_events.specs.declared.nodes.OpenFault.TheVariants.{NoMemory, WrongSize, DiskFault, Unformatted, BadHeader, Damaged, Twice}
use Rattle.rz_record.specs.Fields.{number_at}
use Rattle.rz_record.specs.Record.{IsEmpty, IsHead}
use Rattle.rz_cells_slots.specs.declared.geometry.Geometry.{Geometry}
use Rattle.rz_cells_slots.specs.declared.geometry.DiskVersion.{DiskVersion}
use Rattle.rz_cells_slots.specs.declared.geometry.DiskVersion.TheVariants.{Two}
use Rattle.rz_cells_slots.specs.Held.{in_cell}
use Rattle.rz_cells_slots.specs.Shape.{disk_bytes, picked}
use Rattle.rz_disk.specs.Images.{Within}
use Rattle.rz_disk.specs.Meter.{Meter, Lasts}
use Rattle.rz_record.specs.Record.{IsValid}
use Rattle.rz_cells_slots.specs.Stands.{IsFormatted, magic_of}

-- what stands in a field of the header
abbrev pub value_at : List ℕ → HeaderField → ℕ
value_at text Magic = number_at 0 8 text
value_at text Layout = slice_index text 8
value_at text Bsize = slice_index text 9
value_at text Node = number_at 10 2 text
value_at text Cells = number_at 12 4 text
value_at text Reserved = number_at 24 8 text

-- what is to stand there
abbrev pub wanted : DiskVersion → Geometry → HeaderField → ℕ
wanted v g Magic = magic_of v
wanted v g Layout = number_of g.layout
wanted v g Bsize = g.bsize
wanted v g Node = g.node
wanted v g Cells = g.cells
wanted v g Reserved = 0

-- the order in which fields are looked at
abbrev pub place : HeaderField → ℕ
place Magic = 0
place Layout = 1
place Bsize = 2
place Node = 3
place Cells = 4
place Reserved = 5

-- the header is the geometry's in a version, with any fence
abbrev pub Agrees : DiskVersion → Geometry → List ℕ → Type 0
Agrees v g text = (field : HeaderField) → value_at text field ≡ wanted v g field

-- the first field that differs, and what stands there
pub record FirstDiffers (v : DiskVersion) (g : Geometry) (text : List ℕ) (field : HeaderField) (value : ℕ) : Type 0 where
  pub found : value ≡ value_at text field
  pub differs : value ≢ wanted v g field
  pub before : (other : HeaderField) → place other < place field → value_at text other ≡ wanted v g other

-- a slot begins with this head, of the geometry's layout and block size, or with a zero stamp
abbrev pub ReadsHead : Geometry → List ℕ → Option Head → Type 0
ReadsHead g slot None = IsEmpty slot
ReadsHead g slot (Some h) = IsHead slot h × (h.layout ≡ g.layout)

-- the other cell of the pair stands earlier and holds another key
pub record OtherKey (heads : List (Option Head)) (cell : ℕ) (h : Head) (d : ℕ) (q : Head) : Type 0 where
  pub earlier : d < cell
  pub is : in_cell heads d ≡ Some q
  pub pair : d / 2 ≡ cell / 2
  pub other : q.key ≢ h.key

-- the key stands in an earlier cell of another pair, or with the same stamp in its own
pub record Again (heads : List (Option Head)) (cell : ℕ) (h : Head) (d : ℕ) (q : Head) : Type 0 where
  pub earlier : d < cell
  pub is : in_cell heads d ≡ Some q
  pub same : q.key ≡ h.key
  pub clash : (d / 2 ≢ cell / 2) ⊎ (q.stamp ≡ h.stamp)

abbrev pub NoOtherKey : List (Option Head) → ℕ → Head → Type 0
NoOtherKey heads cell h = (d : ℕ) (q : Head) → ¬ OtherKey heads cell h d q

-- it stands so in none of the first k cells
abbrev pub NotAgain : List (Option Head) → ℕ → Head → ℕ → Type 0
NotAgain heads cell h k = (d : ℕ) (q : Head) → d < k → ¬ Again heads cell h d q

-- a head may stand in a cell behind the earlier ones
pub record GoesNext (heads : List (Option Head)) (cell : ℕ) (h : Head) : Type 0 where
  pub no_other : NoOtherKey heads cell h
  pub not_again : NotAgain heads cell h cell

-- keys of a file and a block are equal
abbrev pub same_key : ℕ × ℕ → ℕ × ℕ → Bool
same_key a b = (a.0 == b.0) && (a.1 == b.1)

-- the least of the first k cells that holds this key, or none
abbrev pub IsFirst : List (Option Head) → ℕ → Key → Option ℕ → Type 0
IsFirst heads k key None = (d : ℕ) (q : Head) → d < k → in_cell heads d ≡ Some q → q.key ≢ key
IsFirst heads k key (Some first) =
    (first < k) × ((q : Head) × (in_cell heads first ≡ Some q) × (q.key ≡ key))
    × ((d : ℕ) (q : Head) → d < first → in_cell heads d ≡ Some q → q.key ≢ key)

-- the first cell of each key is known
abbrev pub KnowsFirsts : {S : Type 0} → HashMap (ℕ × ℕ) ℕ S → List (Option Head) → ℕ → Type 0
KnowsFirsts firsts heads k = (key : Key) → IsFirst heads k key (get same_key firsts (key.fid, key.block))

-- a cell is noted as the first of a key, where none was
pub record Notes {S : Type 0} (old new : HashMap (ℕ × ℕ) ℕ S) (key : Key) (cell : ℕ) : Type 0 where
  pub first : get same_key old (key.fid, key.block) ≡ None → get same_key new (key.fid, key.block) ≡ Some cell
  pub kept : (first : ℕ) → get same_key old (key.fid, key.block) ≡ Some first → get same_key new (key.fid, key.block) ≡ Some first
  pub others : (other : Key) → other ≢ key → get same_key new (other.fid, other.block) ≡ get same_key old (other.fid, other.block)

-- the first k cells hold these heads and are as they are to be
pub record FineTo (g : Geometry) (text : List ℕ) (heads : List (Option Head)) (k : ℕ) : Type 0 where
  pub reads : (c : ℕ) → c < k → ReadsHead g (picked g text c) (in_cell heads c)
  pub past : (c : ℕ) → k ≤ c → in_cell heads c ≡ None
  pub fine : (c : ℕ) (h : Head) → in_cell heads c ≡ Some h → GoesNext heads c h

-- the same of the heads alone, which are also valid and of the geometry's layout
pub record FitTo (g : Geometry) (heads : List (Option Head)) (k : ℕ) : Type 0 where
  pub past : (c : ℕ) → k ≤ c → in_cell heads c ≡ None
  pub fine : (c : ℕ) (h : Head) → in_cell heads c ≡ Some h → GoesNext heads c h
  pub valid : (c : ℕ) (h : Head) → in_cell heads c ≡ Some h → IsValid h
  pub layout : (c : ℕ) (h : Head) → in_cell heads c ≡ Some h → h.layout ≡ g.layout

-- and the first k cells of the text hold them
abbrev pub ReadTo : Geometry → List ℕ → List (Option Head) → ℕ → Type 0
ReadTo g text heads k = (c : ℕ) → c < k → ReadsHead g (picked g text c) (in_cell heads c)

-- what is wrong with a head that would stand in a cell
abbrev pub Wrong : List (Option Head) → ℕ → Head → OpenFault → Type 0
Wrong heads c h (Damaged cell) = (cell ≡ c) × ((d : ℕ) × (q : Head) × OtherKey heads c h d q)
Wrong heads c h (Twice first second) = (second ≡ c) × NoOtherKey heads c h × ((q : Head) × Again heads c h first q) × NotAgain heads c h first
Wrong heads c h _ = ⊥

-- a slot begins with no head of the geometry and no zero stamp
abbrev pub Unreadable : Geometry → List ℕ → Type 0
Unreadable g slot = (o : Option Head) → ¬ ReadsHead g slot o

-- The cells before this one are fine, and this one is wrong so.
abbrev pub CellRefused : Geometry → List ℕ → ℕ → OpenFault → Type 0
CellRefused g text c e =
    (c < 2 * g.cells)
    × ((heads : List (Option Head)) × FineTo g text heads c × ((h : Head) × ReadsHead g (picked g text c) (Some h) × Wrong heads c h e))

-- why a cell was not read
abbrev pub CellFault : Geometry → List ℕ → ℕ → OpenFault → Type 0
CellFault g text c (Damaged cell) = (cell ≡ c) × Unreadable g (picked g text c)
CellFault g text c DiskFault = Unit {0}
CellFault g text c _ = ⊥

-- why the cells were not read
abbrev pub CellsFault : Geometry → List ℕ → OpenFault → Type 0
CellsFault g text (Damaged cell) =
    CellRefused g text cell (Damaged cell)
    ⊎ ((cell < 2 * g.cells) × ((heads : List (Option Head)) × FineTo g text heads cell × Unreadable g (picked g text cell)))
CellsFault g text (Twice first second) = CellRefused g text second (Twice first second)
CellsFault g text DiskFault = Unit {0}
CellsFault g text _ = ⊥

-- the first field of a header that differs
abbrev pub FieldFault : DiskVersion → Geometry → List ℕ → OpenFault → Type 0
FieldFault v g text (BadHeader field value) = FirstDiffers v g text field value
FieldFault v g text _ = ⊥

-- why a header was not read
abbrev pub HeaderFault : DiskVersion → Geometry → List ℕ → OpenFault → Type 0
HeaderFault v g text (BadHeader field value) = IsFormatted text × FirstDiffers v g text field value
HeaderFault v g text Unformatted = ¬ IsFormatted text
HeaderFault v g text DiskFault = Unit {0}
HeaderFault v g text _ = ⊥

-- the fault is not of the size
abbrev pub NotSize : OpenFault → Type 0
NotSize (WrongSize have need) = ⊥
NotSize NoMemory = ⊥
NotSize _ = Unit {0}

-- the device calls of an opening: a sync, a read of the header, one of the gates, and one for each cell
abbrev pub opening_calls : Geometry → ℕ
opening_calls g = 3 + 2 * g.cells

-- a disk that was only read or synced
pub record OnlyRead (text after : List ℕ) (image image' : List ℕ → Type 0) (old new : Meter) : Type 0 where
  pub same : after ≡ text
  pub within : Within image image'
  pub lasts : Lasts old new

-- The first thing that is wrong with a text.
abbrev pub Refuses : Geometry → List ℕ → OpenFault → Type 0
Refuses g text NoMemory = Unit {0}
Refuses g text (WrongSize have need) = (have ≡ length text) × (need ≡ disk_bytes g) × (have ≢ need)
Refuses g text DiskFault = length text ≡ disk_bytes g
Refuses g text Unformatted = (length text ≡ disk_bytes g) × (¬ IsFormatted text)
Refuses g text (BadHeader field value) = (length text ≡ disk_bytes g) × IsFormatted text × FirstDiffers Two g text field value
Refuses g text (Damaged cell) = (length text ≡ disk_bytes g) × IsFormatted text × Agrees Two g text × CellsFault g text (Damaged cell)
Refuses g text (Twice first second) = (length text ≡ disk_bytes g) × IsFormatted text × Agrees Two g text × CellsFault g text (Twice first second)
