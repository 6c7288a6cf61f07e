-- What a node keeps in memory: the heads of its cells, and an index by which a key finds its pair of cells.
use Rattle.std.specs.Prelude.{ℕ, ◌≡◌, ◌≢◌, ◌+◌, ◌*◌, ◌/◌, ◌<◌, List, [], ◌∷◌, map, length, Option, Some, None}
use Rattle.std.specs.Option.{option_map}
use Rattle.std.specs.List.{AllByRecursion}
use Rattle.std.specs.FinMap as maps
use Rattle.rz_events.specs.Keys.{key_cmp}
use Rattle.rz_events.specs.declared.keys.Key.{Key}
use Rattle.rz_events.specs.declared.records.Head.{Head}
use Rattle.rz_events.specs.declared.records.Held.{Held}
use Rattle.rz_node_model.specs.Records.{Records, record_of, stamp_of}
use Rattle.rz_versions.specs.declared.versions.Version.{Version}
use Rattle.rz_versions.specs.Sides.{Sides, in_order}
use Rattle.rz_index.specs.declared.index.Entry.{Entry}
use Rattle.rz_index.specs.Indexed.{Indexed}
use Rattle.rz_cells_slots.specs.Held.{in_cell}

-- what the two cells of a pair hold
abbrev pub sides_in : List (Option Head) → ℕ → Sides Held
sides_in heads pair = record { zero = option_map record_of (in_cell heads (2 * pair)); one = option_map record_of (in_cell heads (2 * pair + 1)) }

-- the same in a list, the greatest stamp first
abbrev pub records_in : List (Option Head) → ℕ → List Held
records_in heads pair = in_order stamp_of (sides_in heads pair)

-- From each key of an index to the records of its pair: what is held.
abbrev pub held_by : maps.FinMap key_cmp Entry → List (Option Head) → Records
held_by entries heads = maps.from_sorted (map (λ (p : Key × Entry). (p.0, records_in heads p.1.cell)) (maps.entries entries))

-- a version, as an index has it of a record
abbrev pub version_of : Held → Version
version_of r = record { stamp = r.stamp; base = r.base }

abbrev pub versions_of : Sides Held → Sides Version
versions_of s = record { zero = option_map version_of s.zero; one = option_map version_of s.one }

-- The entry of a key: the cells of its pair hold records of this key alone, at least one, in these versions.
pub record IsShown (pairs : ℕ) (heads : List (Option Head)) (key : Key) (e : Entry) : Type 0 where
  pub named : e.key ≡ key
  pub within : e.cell < pairs
  pub keys : (cell : ℕ) (h : Head) → cell / 2 ≡ e.cell → in_cell heads cell ≡ Some h → h.key ≡ key
  pub versions : e.versions ≡ versions_of (sides_in heads e.cell)
  pub some : records_in heads e.cell ≢ []

-- a pair of which both cells are empty
pub record IsFree (pairs : ℕ) (heads : List (Option Head)) (pair : ℕ) : Type 0 where
  pub within : pair < pairs
  pub zero : in_cell heads (2 * pair) ≡ None
  pub one : in_cell heads (2 * pair + 1) ≡ None

-- the pair of a head is that of its key's entry
abbrev pub IsIndexed : maps.FinMap key_cmp Entry → ℕ → Head → Type 0
IsIndexed entries cell h = (e : Entry) × (maps.get entries h.key ≡ Some e) × (cell / 2 ≡ e.cell)

-- no number stands twice
abbrev pub Distinct : List ℕ → Type 0
Distinct [] = Unit {0}
Distinct (p ∷ ps) = AllByRecursion (λ q. q ≢ p) ps × Distinct ps

-- The index is of these heads: each entry shows its pair, each head is of an entry, and the other pairs are free, each
-- once.
pub record IsTied (pairs : ℕ) (heads : List (Option Head)) (index : Indexed) : Type 0 where
  pub shown : (key : Key) (e : Entry) → maps.get index.entries key ≡ Some e → IsShown pairs heads key e
  pub heads_in : (cell : ℕ) (h : Head) → in_cell heads cell ≡ Some h → IsIndexed index.entries cell h
  pub free : AllByRecursion (IsFree pairs heads) index.free
  pub distinct : Distinct index.free
  pub count : maps.len index.entries + length index.free ≡ pairs

-- this head stands in a cell, under this key
pub record IsThere (pairs : ℕ) (heads : List (Option Head)) (key : Key) (cell : ℕ) (h : Head) : Type 0 where
  pub within : cell < 2 * pairs
  pub is : in_cell heads cell ≡ Some h
  pub named : h.key ≡ key

-- The entry on whose pair a record of a key goes: the key's own, or a new one on the first free pair.
abbrev pub place_at : Option Entry → Key → List ℕ → Option Entry
place_at (Some e) key free = Some e
place_at None key [] = None
place_at None key (pair ∷ more) = Some record { key = key; cell = pair; versions = record { zero = None; one = None } }

abbrev pub place_in : Indexed → Key → Option Entry
place_in index key = place_at (maps.get index.entries key) key index.free
