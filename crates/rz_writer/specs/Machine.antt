-- What contracts see of a writer, and the bins that it gives.
use Rattle.std.specs.Prelude.{ℕ, ◌≡◌, ◌<◌, List, length, Option, Some, None}
use Rattle.mj_angles.specs.declared.layout.Layout.{Layout}
use Rattle.mj_angles.specs.Layout.{safe_of, angle_of, bins_at_of}
use Rattle.mj_forward.specs.Forward.{projection_of}
use Rattle.rz_words.specs.Grid.{Grid}
use Rattle.rz_events.specs.declared.keys.Key.{Key}
use Rattle.rz_events.specs.declared.files.FileInfo.{FileInfo}
use Rattle.rz_events.specs.declared.machines.WriterAsk.{WriterAsk}
use Rattle.rz_events.specs.declared.machines.WriterAsk.TheVariants as ask
use Rattle.rz_client_model.specs.declared.writing.WriterState.{WriterState}
pub use Rattle.rz_client_model.specs.Blocks.{block_of}
use Rattle.rz_client_model.specs.Write.{writer_start, writer_ask}

-- the state of the write, and the block that is projected, which a bare writer does not have
pub record Machine : Type 0 where
  pub state : WriterState
  pub block : Option Grid

abbrev pub key_in : FileInfo → ℕ → Key
key_in info block = record { fid = info.fid; block = block }

-- the machine that begins to write a text of this length into a block of a file, and has no bins
abbrev pub bare_machine : Layout → FileInfo → ℕ → ℕ → Machine
bare_machine layout info block length =
    record { state = writer_start layout (key_in info block) info.places length; block = None }

-- the machine that begins to write this text into a block of a file
abbrev pub machine_with : Layout → FileInfo → ℕ → List ℕ → Machine
machine_with layout info block text =
    record { state = writer_start layout (key_in info block) info.places (length text); block = Some (block_of layout text) }

-- a file has a node for each position of the layout
abbrev pub HasPlaces : Layout → FileInfo → Type 0
HasPlaces layout info = length info.places ≡ safe_of layout

-- A position that is asked is one of the layout.
abbrev pub IsAskOf : Layout → WriterAsk → Type 0
IsAskOf layout (ask.Keep position node stamp base) = position < safe_of layout
IsAskOf layout _ = Unit {0}

-- The machine asks a node to keep a record, and has its bins.
abbrev pub HasBinsFor : WriterAsk → Option Grid → Type 0
HasBinsFor (ask.Keep position node stamp base) (Some g) = Unit {0}
HasBinsFor _ _ = ⊥

abbrev pub HasBins : Machine → Type 0
HasBins m = HasBinsFor (writer_ask m.state) m.block

-- The bins are those of the machine's block at the position that it asks a node to keep.
abbrev pub AreBinsFor : Layout → WriterAsk → Option Grid → List ℕ → Type 0
AreBinsFor layout (ask.Keep position node stamp base) (Some g) bins = bins ≡ projection_of g (angle_of layout position)
AreBinsFor layout _ _ bins = ⊥

abbrev pub AreBins : Machine → List ℕ → Type 0
AreBins m bins = AreBinsFor m.state.layout (writer_ask m.state) m.block bins

-- There are as many as the position has.
abbrev pub IsCountOf : Layout → WriterAsk → List ℕ → Type 0
IsCountOf layout (ask.Keep position node stamp base) bins = length bins ≡ bins_at_of layout position
IsCountOf layout _ bins = Unit {0}
