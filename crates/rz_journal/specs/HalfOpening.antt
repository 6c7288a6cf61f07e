-- What an opening finds, and why it refuses.
use Rattle.std.specs.Prelude.{◌≡◌, ◌≢◌, ℕ, ◌%◌, ◌<◌, Bool, IsTrue, List, length, slice_index}
use Rattle.rz_disk.specs.Images.{window, Only}
use Rattle.rz_journal.specs.declared.half_opening.HalfFault.{HalfFault}
use Rattle.rz_journal.specs.declared.half_opening.HalfFault.TheVariants.{NoMemory, WrongSize, DiskFault, Unformatted, BadHeader}
use Rattle.rz_journal.specs.Row.{Entries, taken, EndsAt}
use Rattle.rz_journal.specs.Stands.{disk_bytes, half_at, half_bytes, header_bytes, IsJournal}
use Rattle.rz_cells_slots.specs.Stands.{IsShut}

-- the header of a text picks this half
abbrev pub IsPicked : Bool → List ℕ → ℕ → Type 0
IsPicked tells text half = (half < 2) × (IsTrue tells → IsJournal half text)

-- What the disk reads is all on it, and these are the bytes of the half that its header picks.
pub record IsHalf (tells : Bool) (text : List ℕ) (image : List ℕ → Type 0) (half : ℕ) (bytes : List ℕ) : Type 0 where
  pub size : length text ≡ disk_bytes
  pub settled : Only text image
  pub picked : IsPicked tells text half
  pub all : length bytes ≡ half_bytes
  pub same : IsTrue tells → bytes ≡ window (half_at half) half_bytes text

-- each fault is the first of these that a text has; a text is looked at only where it has the right size
abbrev pub Refuses : Bool → List ℕ → HalfFault → Type 0
Refuses tells text NoMemory = Unit {0}
Refuses tells text (WrongSize have need) = (have ≡ length text) × (need ≡ disk_bytes) × (length text ≢ disk_bytes)
Refuses tells text DiskFault = length text ≡ disk_bytes
Refuses tells text Unformatted = (length text ≡ disk_bytes) × (IsTrue tells → IsShut text)
Refuses tells text BadHeader =
    (length text ≡ disk_bytes) × (IsTrue tells → (slice_index text 32 % 2 ≡ 1) × (window 0 32 text ≢ header_bytes))

-- the fault was found by a call of the disk
abbrev pub IsOfCall : HalfFault → Type 0
IsOfCall NoMemory = ⊥
IsOfCall (WrongSize have need) = ⊥
IsOfCall fault = Unit {0}

-- a half holds some entries from its front on, which take so many bytes
abbrev pub HoldsSoFar : List ℕ → ℕ → Type 0
HoldsSoFar bytes used = (entries : Entries) × EndsAt 0 entries bytes × (taken entries ≡ used)
