-- The store that a JSON text describes, or the first fault.
use Rattle.std.specs.Prelude.{ℕ, ◌+◌, ◌≡◌, Bool, false, not, ◌==◌, ◌||◌, if◌then◌else◌, List, [], ◌∷◌, ◌++◌, length, codes, bytes_eq, Option, Some, None, Result, Ok, Err}
use Rattle.std.specs.List.{list_any}
use Rattle.serde_json.specs.Data.{Data, Items, no_items, item, Members, no_members, member}
use Rattle.serde_json.specs.Find.{get, as_str, as_array, as_object}
use Rattle.serde_json.specs.Read.{read as json}
use Rattle.rz_events.specs.Volume.{Volume, nodes_of}
use Rattle.rz_config.specs.Described as volume
use Rattle.rz_store_file.specs.declared.fault.DiskPlace.{DiskPlace}
use Rattle.rz_store_file.specs.declared.fault.DiskPlace.TheVariants as place
use Rattle.rz_store_file.specs.declared.fault.StoreKey.TheVariants as key
use Rattle.rz_store_file.specs.declared.fault.StoreFault.{StoreFault}
use Rattle.rz_store_file.specs.declared.fault.StoreFault.TheVariants as fault

-- a store: its volume, the paths of the nodes' disks in the order of the volume's description, and that of the journal's disk
pub record Description : Type 0 where
  pub volume : Volume
  pub disks : List (List ℕ)
  pub journal : List ℕ

-- what is read, or the first fault
abbrev pub Read : Type 0 → Type 0
Read A = Result A StoreFault

infixl 10 ◌>>=◌
abbrev pub ◌>>=◌ : {A B : Type 0} → Read A → (A → Read B) → Read B
(Ok x) >>= f = f x
(Err e) >>= f = Err e

-- a fault where this holds
abbrev pub refused_if : Bool → StoreFault → Read (Unit {0})
refused_if b why = if b then Err why else Ok tt

-- ---- the rules of paths

abbrev pub is_absolute : List ℕ → Bool
is_absolute [] = false
is_absolute (b ∷ bs) = b == 47

-- whether one of these is the path
abbrev pub has_path : List ℕ → List (List ℕ) → Bool
has_path path paths = list_any (λ p. bytes_eq p path) paths

-- a path begins at the root, and is none of those before it
unfoldable pub new_path : DiskPlace → List (List ℕ) → List ℕ → Read (Unit {0})
new_path at before path = do
  absolute ← refused_if (not (is_absolute path)) (fault.NotAbsolute at)
  refused_if (has_path path before) (fault.Twice at)

-- so does each of the nodes' paths, from number i on, after those before
unfoldable pub new_paths : ℕ → List (List ℕ) → List (List ℕ) → Read (Unit {0})
new_paths i before [] = Ok tt
new_paths i before (path ∷ paths) = do
  first ← new_path (place.Node i) before path
  new_paths (i + 1) (before ++ path ∷ []) paths

-- a volume and the paths of its disks
unfoldable pub checked : Volume → List (List ℕ) → List ℕ → Read Description
checked v disks journal = do
  count ← refused_if (not (length disks == length (nodes_of v.clusters))) (fault.WrongCount (length disks) (length (nodes_of v.clusters)))
  each ← new_paths 0 [] disks
  last ← new_path place.Journal disks journal
  Ok (record { volume = v; disks = disks; journal = journal })

-- There is a path for each node. Each path begins at the root, and no two are the same.
abbrev pub IsDescription : Description → Type 0
IsDescription s = checked s.volume s.disks s.journal ≡ Ok s

-- ---- the parts of a description

abbrev pub is_key : List ℕ → Bool
is_key k = bytes_eq k (codes "volume") || bytes_eq k (codes "disks") || bytes_eq k (codes "journal")

-- the first key that is none of them; the members of an object stand in the byte order of their keys
abbrev pub unknown_key : Members → Option (List ℕ)
unknown_key no_members = None
unknown_key (member k d ms) = if is_key k then unknown_key ms else Some k

abbrev pub all_known : Option (List ℕ) → Read (Unit {0})
all_known None = Ok tt
all_known (Some k) = Err (fault.UnknownKey k)

abbrev pub members_of : Option Members → Read (Unit {0})
members_of None = Err fault.NotObject
members_of (Some ms) = all_known (unknown_key ms)

-- an object with none but these keys
unfoldable pub object_of : Data → Read (Unit {0})
object_of d = members_of (as_object d)

-- what is read of a volume
abbrev pub in_volume : volume.Read Volume → Read Volume
in_volume (Ok v) = Ok v
in_volume (Err why) = Err (fault.Volume why)

abbrev pub volume_at : Option Data → Read Volume
volume_at None = Err (fault.Missing key.Volume)
volume_at (Some d) = in_volume (volume.described_volume d)

abbrev pub some_text : DiskPlace → Option (List ℕ) → Read (List ℕ)
some_text at None = Err (fault.NotText at)
some_text at (Some text) = Ok text

abbrev pub text_at : DiskPlace → Data → Read (List ℕ)
text_at at d = some_text at (as_str d)

-- the texts of a list from number i on, after those before
unfoldable pub texts_from : ℕ → List (List ℕ) → Items → Read (List (List ℕ))
texts_from i before no_items = Ok before
texts_from i before (item d ds) = do
  text ← text_at (place.Node i) d
  texts_from (i + 1) (before ++ text ∷ []) ds

abbrev pub texts_in : Option Items → Read (List (List ℕ))
texts_in None = Err fault.NotList
texts_in (Some ds) = texts_from 0 [] ds

abbrev pub texts_at : Option Data → Read (List (List ℕ))
texts_at None = Err (fault.Missing key.Disks)
texts_at (Some d) = texts_in (as_array d)

abbrev pub journal_at : Option Data → Read (List ℕ)
journal_at None = Err (fault.Missing key.Journal)
journal_at (Some d) = text_at place.Journal d

-- ---- the whole

unfoldable pub described_store : Data → Read Description
described_store d = do
  known ← object_of d
  v ← volume_at (get (codes "volume") d)
  disks ← texts_at (get (codes "disks") d)
  journal ← journal_at (get (codes "journal") d)
  checked v disks journal

abbrev pub store_of_value : Option Data → Read Description
store_of_value None = Err fault.NotJson
store_of_value (Some d) = described_store d

-- the store that a text describes
unfoldable pub store_of_text : List ℕ → Read Description
store_of_text text = store_of_value (json text)
