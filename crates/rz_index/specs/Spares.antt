-- Nodes that no entry needs.
use Rattle.std.specs.Prelude.{ℕ, ◌≡◌, ◌+◌, ◌<◌, ◌≤◌, List, [], ◌∷◌, length, Option, Some, None}
use Rattle.std.specs.Option.{option_map}
use Rattle.rz_events.specs.declared.keys.Key.{Key}
use Rattle.rz_index.specs.declared.index.Entry.{Entry}
use Rattle.rz_index.specs.declared.nodes.IndexNode.{IndexNode}
use Rattle.rz_index.specs.Indexed.{pairs_of, IsSorted}
use Rattle.rz_index.specs.Standing.{Holds, Tree}

-- So many nodes stand in a tree, and the row has one more.
pub record IsSpare (row : List IndexNode) (link entries : ℕ) : Type 0 where
  pub blanks : List Entry
  pub count : length blanks ≡ entries
  pub holds : Holds row (Tree link blanks ∷ [])
  pub within : entries < length row

-- The keys rise, there is a spare node for each free cell, and the row of free cells has room for all cells. No way down a
-- tree is longer than the row.
pub record IsIndex (row : List IndexNode) (root spare free free_room : ℕ) : Type 0 where
  pub entries : List Entry
  pub blanks : List Entry
  pub holds : Holds row (Tree root entries ∷ Tree spare blanks ∷ [])
  pub sorted : IsSorted entries
  pub within : length entries + length blanks < length row
  pub room : free ≤ length blanks
  pub room_free : length entries + free ≤ free_room

-- one entry more, and one spare node less
pub record IsAdded (row : List IndexNode) (root spare : ℕ) (entries : List (Key × Entry)) (blanks : ℕ) : Type 0 where
  pub its : List Entry
  pub left : List Entry
  pub are : pairs_of its ≡ entries
  pub count : length left + 1 ≡ blanks
  pub holds : Holds row (Tree root its ∷ Tree spare left ∷ [])

-- these entries, and so many spare nodes less
pub record IsPlanted (row : List IndexNode) (root spare : ℕ) (entries : List Entry) (blanks : ℕ) : Type 0 where
  pub left : List Entry
  pub count : length left + length entries ≡ blanks
  pub holds : Holds row (Tree root entries ∷ Tree spare left ∷ [])

abbrev pub number_of : Option Entry → ℕ
number_of None = 0
number_of (Some e) = 1

-- the node of this entry, if any, was taken out, and is now a spare one; and its cell
pub record IsRemoved (row : List IndexNode) (root spare : ℕ) (cell : Option ℕ) (found : Option Entry) (entries : List (Key × Entry)) (blanks : ℕ) : Type 0 where
  pub its : List Entry
  pub left : List Entry
  pub are : pairs_of its ≡ entries
  pub freed : cell ≡ option_map (λ (e : Entry). e.cell) found
  pub count : length left ≡ blanks + number_of found
  pub holds : Holds row (Tree root its ∷ Tree spare left ∷ [])
