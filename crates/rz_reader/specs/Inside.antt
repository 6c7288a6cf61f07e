-- Where a reader keeps its records and its block.
use Rattle.std.specs.Prelude.{ℕ, ◌≡◌, ◌<◌, ◌≤◌, ◌^◌, List, [], length, All}
use Rattle.std.specs.Int.{bit_at}
use Rattle.mj_angles.specs.declared.layout.Layout.{Layout}
use Rattle.mj_angles.specs.Layout.{inverse_of, safe_of, cols_of, angle_of, block_bytes_of}
use Rattle.rz_words.specs.Grid.{Grid}
use Rattle.mj_inverse.specs.Fits.{Pair, Search}
use Rattle.rz_events.specs.declared.ends.ReadMark.{ReadMark}
use Rattle.rz_events.specs.declared.ends.ReadMark.TheVariants as mark
use Rattle.rz_client_model.specs.declared.reading.ReaderState.{ReaderState}
use Rattle.rz_client_model.specs.declared.reading.ReadStage.{ReadStage}
use Rattle.rz_client_model.specs.declared.reading.ReadStage.TheVariants.{Looking, Fetching, Ended}
use Rattle.rz_client_model.specs.declared.reading.Fetches.{Fetches}
use Rattle.rz_reader.specs.Machine.{Machine, pairs_at, block_at}

-- what contracts see of a reader with this state, work and block
abbrev pub machine_of : ReaderState → Search → Grid → Machine
machine_of state search block =
    record { state = state; pairs = pairs_at state.stage search.pairs; block = block_at state.stage block }

-- the pair is of a position that was asked
abbrev pub IsAsked : Layout → ℕ → Pair → Type 0
IsAsked layout left pair = (position : ℕ) × (position < safe_of layout) × (bit_at left position ≡ 0) × (pair.0 ≡ angle_of layout position)

-- so many records came, fewer than are enough, each of a position that was asked
pub record IsFetching (layout : Layout) (pairs : List Pair) (t : Fetches) : Type 0 where
  pub few : t.left < 2 ^ safe_of layout
  pub given : t.given ≡ length pairs
  pub fewer : t.given < inverse_of layout
  pub short : t.length ≤ block_bytes_of layout
  pub asked : All (IsAsked layout t.left) pairs

-- the positions that are left are of the layout
abbrev pub HasFewLeft : Layout → ReadStage → Type 0
HasFewLeft layout (Fetching t) = t.left < 2 ^ safe_of layout
HasFewLeft layout stage = Unit {0}

abbrev pub IsStage : Layout → List Pair → ReadStage → Type 0
IsStage layout pairs Looking = pairs ≡ []
IsStage layout pairs (Fetching t) = IsFetching layout pairs t
IsStage layout pairs (Ended (mark.Found stamp length)) = length ≤ block_bytes_of layout
IsStage layout pairs (Ended e) = Unit {0}

-- the work and the block have the layout's size
pub record IsReader (state : ReaderState) (search : Search) (block : Grid) : Type 0 where
  pub places : length state.places ≡ safe_of state.layout
  pub work_rows : search.rows ≡ inverse_of state.layout
  pub work_cols : search.cols ≡ cols_of state.layout
  pub rows : block.rows ≡ inverse_of state.layout
  pub cols : block.cols ≡ cols_of state.layout
  pub stage : IsStage state.layout search.pairs state.stage
