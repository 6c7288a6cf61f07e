-- What the text of a journal's disk stands for.
use Rattle.std.specs.Prelude.{◌≡◌, ◌⊎◌, ℕ, ◌+◌, ◌*◌, ◌%◌, ◌<◌, Bool, IsTrue, List, [], ◌∷◌, ◌++◌, length, replicate, slice_index, codes}
use Rattle.rz_disk.specs.Images.{window, Only}
use Rattle.rz_journal.specs.Row.{Entries, taken, EndsAt}

-- the size of the disk, which no proof is to count up to
unfoldable pub disk_bytes : ℕ
disk_bytes = 16_777_216

-- the size of a half
unfoldable pub half_bytes : ℕ
half_bytes = 8_388_576

-- where a half begins
abbrev pub half_at : ℕ → ℕ
half_at half = 64 + half * 8_388_576

-- what stands before the header's gate
abbrev pub header_bytes : List ℕ
header_bytes = codes "MJROZJ01" ++ replicate 24 0

-- a formatted disk, of which this half counts
pub record IsJournal (half : ℕ) (text : List ℕ) : Type 0 where
  pub size : length text ≡ disk_bytes
  pub header : window 0 32 text ≡ header_bytes
  pub formatted : slice_index text 32 % 2 ≡ 1
  pub picked : slice_index text 33 % 2 ≡ half

-- That half holds these entries, and has room for the gate behind them.
pub record HalfHolds (half : ℕ) (entries : Entries) (text : List ℕ) : Type 0 where
  pub journal : IsJournal half text
  pub ends : EndsAt (half_at half) entries text
  pub room : taken entries < 8_388_576

-- the half that counts still counts
abbrev pub IsSameHalf : List ℕ → List ℕ → Type 0
IsSameHalf old new = (half : ℕ) → IsJournal half old → IsJournal half new

-- The text stands for a list of entries.
abbrev pub StandsFor : List ℕ → Entries → Type 0
StandsFor text entries = (half : ℕ) × HalfHolds half entries text

-- What the disk reads is all on it, and it holds entries of so many bytes in this half.
pub record IsHalfOpen (tells : Bool) (text : List ℕ) (image : List ℕ → Type 0) (half used : ℕ) : Type 0 where
  pub size : length text ≡ disk_bytes
  pub settled : Only text image
  pub small : half < 2
  pub room : used < 8_388_576
  pub holds : IsTrue tells → (entries : Entries) × HalfHolds half entries text × (taken entries ≡ used)

-- Where a text stands for some entries, each image stands for them, or for these others.
abbrev pub Either : (Entries → Entries) → List ℕ → (List ℕ → Type 0) → Type 0
Either others text image = (entries : Entries) (c : List ℕ) → StandsFor text entries → image c → StandsFor c entries ⊎ StandsFor c (others entries)

-- Where a text stands for some entries, the new one stands for these others.
abbrev pub Becomes : (Entries → Entries) → List ℕ → List ℕ → Type 0
Becomes others text new = (entries : Entries) → StandsFor text entries → StandsFor new (others entries)

-- these entries with one behind them
abbrev pub with_last : List ℕ → Entries → Entries
with_last entry entries = entries ++ entry ∷ []

-- these entries in the place of any others
abbrev pub instead : Entries → Entries → Entries
instead new entries = new
