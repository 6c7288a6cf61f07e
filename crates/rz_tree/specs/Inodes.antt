-- The kept objects, and the objects that they stand for.
use Rattle.std.specs.Prelude.{ℕ, ◌≡◌, ◌-◌, ◌==◌, nat_lt, Bool, true, false, cond, List, map, Option, Some, None}
use Rattle.std.specs.BTreeMap.Range.{is_from_start}
use Rattle.std.specs.BTreeSet.{BTreeSet, contains}
use Rattle.std.specs.declared.ops.Bound.{Bound}
use Rattle.std.specs.List as lists
use Rattle.std.specs.List.{list_all}
use Rattle.std.specs.Option.{option_map_or}
use Rattle.std.specs.Ordering.{nat_cmp, is_lt}
use Rattle.std.specs.FinMap as maps
use Rattle.std.specs.FinMap.{FinMap}
use Rattle.rz_events.specs.declared.files.Attr.{Attr}
use Rattle.rz_events.specs.declared.files.FileInfo.{FileInfo}
use Rattle.rz_export_model.specs.Firsts.{first_given}
use Rattle.rz_export_model.specs.Tree.{Object, Found, file_from, is_file}
use Rattle.rz_tree.specs.declared.inodes.Inode.{Inode}

-- what a call sees of a kept object: all but the count of its paths
abbrev pub object_of : Inode → Object
object_of i = record {
  kind = i.kind;
  mode = i.mode;
  mtime = i.mtime;
  target = i.target;
  size = i.size;
  cid = i.cid;
  places = i.places;
}

-- a kept object with its number, as a call sees it
abbrev pub found_of : ℕ → Inode → Found
found_of fid i = record { fid = fid; object = object_of i }

-- the attributes of a kept object
abbrev pub attr_kept : ℕ → Inode → Attr
attr_kept fid i = record { fid = fid; kind = i.kind; mode = i.mode; mtime = i.mtime; links = i.links; size = i.size }

-- kept objects by their numbers
abbrev pub Table : Type 0
Table = FinMap nat_cmp Inode

-- entries as a call sees them
abbrev pub seen_entries : List (ℕ × Inode) → List (ℕ × Object)
seen_entries es = map (λ e. (e.0, object_of e.1)) es

-- the objects as a call sees them
abbrev pub objects_of : Table → FinMap nat_cmp Object
objects_of table = maps.from_entries (seen_entries (maps.entries table))

-- whether a file has this number
abbrev pub is_file_at : Table → ℕ → Bool
is_file_at table fid = option_map_or (λ i. is_file i.kind) (maps.get table fid) false

-- these are the numbers of the files
abbrev pub AreFilesOf : Table → BTreeSet ℕ → Type 0
AreFilesOf table files = (fid : ℕ) → contains nat_cmp files fid ≡ is_file_at table fid

-- whether a path leads to each of these
abbrev pub are_linked : List (ℕ × Inode) → Bool
are_linked es = list_all (λ e. nat_lt 0 e.1.links) es

abbrev pub with_attributes : ℕ → ℕ → Inode → Inode
with_attributes mode mtime i = record i { mode = mode; mtime = mtime }

-- the greater of two sizes
abbrev pub greater_of : ℕ → ℕ → ℕ
greater_of had size = cond (is_lt (nat_cmp had size)) size had

abbrev pub with_size_of : ℕ → Inode → Inode
with_size_of size i = record i { size = greater_of i.size size }

abbrev pub with_links : ℕ → Inode → Inode
with_links links i = record i { links = links }

-- the object of this number is changed so, where there is one
abbrev pub changed_at : Table → ℕ → (Inode → Inode) → Table
changed_at table fid change = option_map_or (λ i. maps.insert table fid (change i)) (maps.get table fid) table

-- one path less leads to the object of this number; with the last one it goes
abbrev pub released : Table → ℕ → Table
released table fid =
    option_map_or
    (λ i. cond (i.links == 1) (maps.remove table fid) (maps.insert table fid (with_links (i.links - 1) i)))
    (maps.get table fid)
    table

-- the file with the least number above this one
abbrev pub file_past : Table → ℕ → Option FileInfo
file_past table fid = first_given (λ e. cond (is_lt (nat_cmp fid e.0)) (file_from e.0 (object_of e.1)) None) (maps.entries table)

-- whether a number is past another, where this is given
abbrev pub is_past : Option ℕ → ℕ → Bool
is_past None n = true
is_past (Some after) n = nat_lt after n

-- the first entry past a number, where this is given
abbrev pub first_past : {X : Type 0} → Option ℕ → List (ℕ × X) → Option (ℕ × X)
first_past after es = lists.find (λ e. is_past after e.0) es

-- a bound from which on all numbers stand that are past `after`
abbrev pub IsStartPast : Bound ℕ → Option ℕ → Type 0
IsStartPast start after = (n : ℕ) → is_from_start nat_cmp start n ≡ is_past after n
