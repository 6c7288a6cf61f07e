-- What contracts see of a reader, and what an answer makes of it.
use Rattle.std.specs.Prelude.{ℕ, Bool, ◌≡◌, ◌<◌, ◌≤◌, ◌==◌, ◌↔◌, cond, List, [], ◌∷◌, ◌++◌, length, take, Option, Some, None, IsTrue, IsSome, IsSomeAnd}
use Rattle.mj_angles.specs.declared.layout.Layout.{Layout}
use Rattle.mj_angles.specs.Layout.{inverse_of, safe_of, cols_of, angle_of, bins_at_of, block_bytes_of}
use Rattle.rz_words.specs.Grid.{Grid}
use Rattle.mj_inverse.specs.Fits.{Pair, Search, IsFound}
use Rattle.rz_events.specs.declared.keys.Key.{Key}
use Rattle.rz_events.specs.declared.files.FileInfo.{FileInfo}
use Rattle.rz_events.specs.declared.ends.ReadMark.{ReadMark}
use Rattle.rz_events.specs.declared.ends.ReadMark.TheVariants as mark
use Rattle.rz_events.specs.declared.nodes.FetchAnswer.{FetchAnswer}
use Rattle.rz_events.specs.declared.nodes.FetchAnswer.TheVariants as fetch
use Rattle.rz_events.specs.declared.machines.ReaderAsk.{ReaderAsk}
use Rattle.rz_events.specs.declared.machines.ReaderAsk.TheVariants as ask
use Rattle.rz_events.specs.declared.machines.ReaderAnswer.{ReaderAnswer}
use Rattle.rz_events.specs.declared.machines.ReaderAnswer.TheVariants as told
use Rattle.rz_client_model.specs.declared.reading.ReaderState.{ReaderState}
use Rattle.rz_client_model.specs.declared.reading.ReadStage.{ReadStage}
use Rattle.rz_client_model.specs.declared.reading.ReadStage.TheVariants.{Looking, Fetching, Ended}
use Rattle.rz_client_model.specs.Read.{reader_start, reader_told, next_position, with_record, unless_enough}
use Rattle.rz_reader.specs.declared.steps.Record.{Record}
use Rattle.rz_reader.specs.Fetched.{record_in}

-- the state of the read, the angles and bins of the records of the published stamp while they are fetched, and the block
-- that fits them once it is found
pub record Machine : Type 0 where
  pub state : ReaderState
  pub pairs : List Pair
  pub block : Option Grid

-- the machine that begins to read a block of a file
abbrev pub machine_for : Layout → FileInfo → ℕ → Machine
machine_for layout info block =
    record { state = reader_start layout (record { fid = info.fid; block = block }) info.places; pairs = []; block = None }

-- pairs are there while records are fetched
abbrev pub pairs_at : ReadStage → List Pair → List Pair
pairs_at (Fetching t) pairs = pairs
pairs_at stage pairs = []

-- a block is there once it is found
abbrev pub block_at : ReadStage → Grid → Option Grid
block_at (Ended (mark.Found stamp length)) g = Some g
block_at stage g = None

-- the blocks of the layout that have these projections are looked for
abbrev pub search_of : Layout → List Pair → Search
search_of layout pairs = record { rows = inverse_of layout; cols = cols_of layout; pairs = pairs }

-- the angle and the bins of the record at a position
abbrev pub pair_of : Layout → ℕ → List ℕ → Pair
pair_of layout position bins = (angle_of layout position, take (bins_at_of layout position) bins)

-- the pairs after an answer, of which a record of the published stamp adds one
abbrev pub pairs_with : Layout → List Pair → Record → List ℕ → List Pair
pairs_with layout pairs r bins = pairs ++ pair_of layout (next_position r.fetches) bins ∷ []

abbrev pub pairs_if : Layout → List Pair → Option Record → List ℕ → List Pair
pairs_if layout pairs None bins = pairs
pairs_if layout pairs (Some r) bins = pairs_with layout pairs r bins

abbrev pub pairs_after : Machine → ReaderAnswer → List ℕ → List Pair
pairs_after m answer bins = pairs_if m.state.layout m.pairs (record_in m.state.stage answer) bins

-- Where the records are enough, they fit exactly where some block has them.
abbrev pub AreFitting : Layout → List Pair → Bool → Type 0
AreFitting layout pairs fits = length pairs ≡ inverse_of layout → IsTrue fits ↔ ((g : Grid) × IsFound (search_of layout pairs) g)

-- the stage after a record, with which these are the pairs
abbrev pub IsStageAfter : Layout → List Pair → Record → ReadStage → Type 0
IsStageAfter layout pairs r stage =
    (fits : Bool) × AreFitting layout pairs fits × (stage ≡ unless_enough layout fits (with_record r.fetches r.length))

-- the state is that of the read after the answer
abbrev pub IsStateAfter : Machine → ReaderAnswer → List ℕ → ReaderState → Type 0
IsStateAfter m answer bins new =
    (fits : Bool) × AreFitting m.state.layout (pairs_after m answer bins) fits × (new ≡ reader_told fits m.state answer)

-- the one block that fits
pub record IsOnly (s : Search) (g : Grid) : Type 0 where
  pub found : IsFound s g
  pub alone : (other : Grid) → IsFound s other → other ≡ g

-- A block is there where it was found, and is the one that fits the pairs.
abbrev pub IsBlockOf : Layout → List Pair → ReadStage → Option Grid → Type 0
IsBlockOf layout pairs (Ended (mark.Found stamp length)) block = IsSomeAnd block (IsOnly (search_of layout pairs))
IsBlockOf layout pairs stage block = block ≡ None

-- a position that is asked is one of the layout
abbrev pub IsAskOf : Layout → ReaderAsk → Type 0
IsAskOf layout (ask.Fetch position node stamp) = position < safe_of layout
IsAskOf layout _ = Unit {0}

-- a record comes with the bins of the position that was asked
abbrev pub HasBins : Layout → ReaderAsk → ReaderAnswer → List ℕ → Type 0
HasBins layout (ask.Fetch position node stamp) (told.Fetched (fetch.Held r)) bins = bins_at_of layout position ≤ length bins
HasBins layout _ _ bins = Unit {0}

-- the read found a text of this length
abbrev pub HasFound : Option ReadMark → ℕ → Type 0
HasFound (Some (mark.Found stamp length)) size = length ≡ size
HasFound _ size = ⊥

-- a block is there where it was found
abbrev pub HasIfFound : ReadStage → Option Grid → Type 0
HasIfFound (Ended (mark.Found stamp length)) block = IsSome block
HasIfFound stage block = Unit {0}

-- a text that was found fits a block
abbrev pub IsShortIfFound : Layout → ReadStage → Type 0
IsShortIfFound layout (Ended (mark.Found stamp length)) = length ≤ block_bytes_of layout
IsShortIfFound layout stage = Unit {0}
