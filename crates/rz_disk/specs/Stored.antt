-- What a disk in memory keeps.
use Rattle.std.specs.Prelude.{◌≡◌, ℕ, ◌+◌, ◌*◌, ◌-◌, ◌%◌, ◌<◌, ◌≤◌, ◌==◌, if◌then◌else◌, Bool, true, false, List, ◌++◌, length, take, drop, replicate, slice_index, slice_index_or}
use Rattle.rz_disk.specs.Images.{Written}

-- what a read gives, what the last sync left, and for each byte whether it was written since
pub record Stored : Type 0 where
  pub text : List ℕ
  pub synced : List ℕ
  pub marks : List Bool

-- a text that is all synced
abbrev pub settled : List ℕ → Stored
settled text = record { text = text; synced = text; marks = replicate (length text) false }

-- What a crash may leave: any byte where there is a mark, and the text's elsewhere.
pub record Leaves (marks : List Bool) (text c : List ℕ) : Type 0 where
  pub size : length c ≡ length text
  pub same : (i : ℕ) → slice_index_or marks i false ≡ false → slice_index c i ≡ slice_index text i

-- this value of n marks from an offset on, and the old ones elsewhere
pub record Marked (value : Bool) (at n : ℕ) (old new : List Bool) : Type 0 where
  pub size : length new ≡ length old
  pub inside : (i : ℕ) → at ≤ i → i < at + n → slice_index_or new i false ≡ value
  pub below : (i : ℕ) → i < at → slice_index_or new i false ≡ slice_index_or old i false
  pub above : (i : ℕ) → at + n ≤ i → slice_index_or new i false ≡ slice_index_or old i false

-- a write, which is not yet synced
pub record Writes (at : ℕ) (bytes : List ℕ) (old new : Stored) : Type 0 where
  pub text : Written at bytes old.text new.text
  pub synced : new.synced ≡ old.synced
  pub marks : Marked true at (length bytes) old.marks new.marks

-- What a crash makes of a marked byte at address a: the synced one at pick 0, the written one at
-- pick 1, and otherwise the low byte of a product.
abbrev pub picked_byte : ℕ → ℕ → ℕ → ℕ → ℕ
picked_byte pick a old new =
    if pick == 0 then old else (if pick == 1 then new else (pick * (a + 1)) % 256)

-- a crash changes the marked bytes alone
pub record Picked (pick : ℕ) (synced : List ℕ) (marks : List Bool) (text new : List ℕ) : Type 0
  where
    pub size : length new ≡ length text
    pub marked : (i : ℕ) → slice_index_or marks i false ≡ true
        → slice_index new i ≡ picked_byte pick i (slice_index synced i) (slice_index text i)
    pub unmarked : (i : ℕ) → slice_index_or marks i false ≡ false
        → slice_index new i ≡ slice_index text i

-- bytes, and zeros behind them
abbrev pub padded : ℕ → List ℕ → List ℕ
padded size bytes = bytes ++ replicate (size - length bytes) 0

-- a list of which a part, from an offset on, is another
abbrev pub patched : {X : Type 0} → ℕ → List X → List X → List X
patched from part whole = take from whole ++ (part ++ drop (from + length part) whole)

-- The bytes that are held do not pass the disk's size, and the range lies within them.
pub record IsHeld (size : ℕ) (text : List ℕ) (from : ℕ) (synced : List ℕ) (marks : List Bool) : Type 0
  where
    pub text_fits : length text ≤ size
    pub one_length : length marks ≡ length synced
    pub range_fits : from + length synced ≤ length text
