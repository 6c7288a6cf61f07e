-- What cells hold, as a map. Nothing here knows of bytes or disks.
use Rattle.std.specs.Prelude.{◌≡◌, ◌≢◌, ℕ, ◌/◌, ◌==◌, ◌&&◌, Bool, false, if◌then◌else◌, Option, Some, None, List, map, slice_index_or, count_by, is_some}
use Rattle.std.specs.Option.{option_map}
use Rattle.rz_events.specs.declared.keys.Key.{Key}
use Rattle.rz_events.specs.declared.records.Head.{Head}
use Rattle.rz_record.specs.Slot.{Rec}

-- what stands in a cell
abbrev pub in_cell : {A : Type 0} → List (Option A) → ℕ → Option A
in_cell cells c = slice_index_or cells c None

-- how many cells hold something
abbrev pub count_held : {A : Type 0} → List (Option A) → ℕ
count_held cells = count_by is_some cells

-- the heads of what cells hold
abbrev pub heads_of : List (Option Rec) → List (Option Head)
heads_of cells = map (option_map (λ (r : Rec). r.head)) cells

-- heads in two cells, where cells 2 p and 2 p + 1 are pair p
pub record Together (c d : ℕ) (h k : Head) : Type 0 where
  pub one_pair : h.key ≡ k.key → c / 2 ≡ d / 2
  pub one_key : c / 2 ≡ d / 2 → h.key ≡ k.key
  pub two_stamps : h.key ≡ k.key → h.stamp ≢ k.stamp

-- The records of a pair have one key and distinct stamps, and no key stands in two pairs.
abbrev pub Apart : List (Option Head) → Type 0
Apart heads = (c d : ℕ) (h k : Head) → c ≢ d → in_cell heads c ≡ Some h → in_cell heads d ≡ Some k → Together c d h k

-- a map from a key and a stamp to the record that is held
abbrev pub Records : Type 0
Records = Key → ℕ → Option Rec

-- nothing is held
abbrev pub nothing : Records
nothing key stamp = None

-- the map has the cells' records, each under its key and stamp
pub record Made (cells : List (Option Rec)) (held : Records) : Type 0 where
  pub there : (key : Key) (stamp : ℕ) (r : Rec) → held key stamp ≡ Some r → (c : ℕ) × (in_cell cells c ≡ Some r) × (r.head.key ≡ key) × (r.head.stamp ≡ stamp)
  pub only : (c : ℕ) (r : Rec) → in_cell cells c ≡ Some r → held r.head.key r.head.stamp ≡ Some r
  pub apart : Apart (heads_of cells)

-- a head has this key and this stamp
abbrev pub names : Option Head → Key → ℕ → Bool
names None key stamp = false
names (Some h) key stamp = ((h.key.fid == key.fid) && (h.key.block == key.block)) && (h.stamp == stamp)

abbrev pub head_in : Option Rec → Option Head
head_in o = option_map (λ (r : Rec). r.head) o

-- the map with a new record in the place of one with this head
abbrev pub changed : Records → Option Head → Option Rec → Records
changed held old new key stamp =
    if names (head_in new) key stamp then new else (if names old key stamp then None else held key stamp)

-- A head may go into a cell: no other pair holds its key, and the other cell of the pair is empty or holds its key with
-- another stamp.
pub record Goes (heads : List (Option Head)) (cell : ℕ) (h : Head) : Type 0 where
  pub no_other_pair : (d : ℕ) (k : Head) → in_cell heads d ≡ Some k → k.key ≡ h.key → d / 2 ≡ cell / 2
  pub one_key : (d : ℕ) (k : Head) → d ≢ cell → in_cell heads d ≡ Some k → d / 2 ≡ cell / 2 → k.key ≡ h.key
  pub two_stamps : (d : ℕ) (k : Head) → d ≢ cell → in_cell heads d ≡ Some k → d / 2 ≡ cell / 2 → k.stamp ≢ h.stamp
