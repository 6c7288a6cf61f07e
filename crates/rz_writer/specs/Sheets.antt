-- Where a writer keeps its block and the bins of the position that it asks.
use Rattle.std.specs.Prelude.{◌≡◌, Option, IfSome, take, vec_len}
use Rattle.std.specs.Option.{option_map}
use Rattle.mj_angles.specs.declared.layout.Layout.{Layout}
use Rattle.mj_angles.specs.Layout.{inverse_of, cols_of, angle_of, bins_at_of, max_bins_of}
use Rattle.mj_forward.specs.Forward.{projection_of}
use Rattle.rz_words.specs.Grid.{Grid}
use Rattle.rz_events.specs.declared.machines.WriterAsk.{WriterAsk}
use Rattle.rz_events.specs.declared.machines.WriterAsk.TheVariants as ask
use Rattle.rz_client_model.specs.declared.writing.WriterState.{WriterState}
use Rattle.rz_client_model.specs.Write.{IsWrite, writer_ask}
use Rattle.rz_writer.specs.declared.sheet.Sheet.{Sheet}
use Rattle.rz_writer.specs.Machine.{Machine}

-- the block has the layout's size, and there is room for the bins of each position
pub record IsSheet (layout : Layout) (s : Sheet) : Type 0 where
  pub rows : s.block.rows ≡ inverse_of layout
  pub cols : s.block.cols ≡ cols_of layout
  pub room : vec_len s.bins ≡ max_bins_of layout

-- the first bins are those of the position that is asked
abbrev pub IsProjected : Layout → WriterAsk → Sheet → Type 0
IsProjected layout (ask.Keep position node stamp base) s =
    take (bins_at_of layout position) s.bins.items ≡ projection_of s.block (angle_of layout position)
IsProjected layout _ s = Unit {0}

-- the block, where there is one
abbrev pub block_in : Option Sheet → Option Grid
block_in sheet = option_map (λ s. s.block) sheet

-- what contracts see of a writer with this state and sheet
abbrev pub machine_of : WriterState → Option Sheet → Machine
machine_of state sheet = record { state = state; block = block_in sheet }

-- the write is one between two answers, and the bins are ready
pub record IsWriter (state : WriterState) (sheet : Option Sheet) : Type 0 where
  pub write : IsWrite state
  pub sized : IfSome sheet (IsSheet state.layout)
  pub ready : IfSome sheet (IsProjected state.layout (writer_ask state))
